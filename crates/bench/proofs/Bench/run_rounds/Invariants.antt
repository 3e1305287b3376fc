use Rattle.definitions.specs.ReadSystem.{reading}
use Rattle.definitions.specs.Settle.{rounds_for}
use Rattle.bench.specs.Holds.{holding}
use Rattle.bench.proofs.Rounding.{Begun}
use Rattle.bench.proofs.Bench.run_rounds.Given as goal

abbrev pub invariant-loop-before : goal.invariant-loop-before
invariant-loop-before g l = Begun (g.G.Algebra.meaning l.alg) (holding l.initial.self) l.round (holding l.self)

abbrev pub decreases-loop-before : goal.decreases-loop-before
decreases-loop-before g l = rounds_for (reading (g.G.Algebra.meaning l.alg) (holding l.self))
