use Rattle.std.proofs.Common.{replicate}
use Rattle.passes.specs.Plans.{change_none}
use Rattle.passes.specs.Learned.{changing}
use Rattle.passes.proofs.Learning.{Filling}
use Rattle.passes.proofs.constants.changes.Given as goal

abbrev pub invariant-loop-i : goal.invariant-loop-i
invariant-loop-i l = Filling changing l.knowledge (replicate 31 change_none) l.i l.changes
