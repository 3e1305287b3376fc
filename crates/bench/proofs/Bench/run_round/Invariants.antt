use Rattle.bench.specs.Holds.{holding}
use Rattle.bench.proofs.Rounding.{Going}
use Rattle.bench.proofs.Bench.run_round.Given as goal

abbrev pub invariant-loop-letter : goal.invariant-loop-letter
invariant-loop-letter g l =
    Going (g.G.Algebra.meaning l.alg) (holding l.initial.self) l.letter-index (holding l.self)
