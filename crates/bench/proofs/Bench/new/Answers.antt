use Rattle.std.proofs.Common.{refl, arith}
use Rattle.definitions.specs.Past.{fresh}
use Rattle.theorems.proofs.Main.{verdict_kept}
use Rattle.bench.proofs.Tails.{none, zeros}
use Rattle.bench.proofs.Bench.new.Goals as goal

pub invariant_of-result : goal.invariant_of-result
invariant_of-result c = record { bound = omega arith; small = λ k. omega (arith, none k); zeros = λ k h. zeros 8192 k }

pub returns : goal.returns
returns c = record { holds = refl; past = fresh; verdict = verdict_kept }
