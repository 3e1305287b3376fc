use Rattle.passes.proofs.Learning.{Sharing}
use Rattle.passes.proofs.constants.shared.Given as goal

abbrev pub invariant-loop-i : goal.invariant-loop-i
invariant-loop-i l = Sharing l.x l.y l.i l.values
