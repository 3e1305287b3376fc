use Rattle.theorems.proofs.f_keeps_truths.Goals as goal
use Rattle.theorems.proofs.KeepsF.{truth_kept}

pub returns : goal.returns
returns _ = truth_kept
