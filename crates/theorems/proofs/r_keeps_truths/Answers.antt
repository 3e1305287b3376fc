use Rattle.theorems.proofs.r_keeps_truths.Goals as goal
use Rattle.theorems.proofs.KeepsR.{truth_kept}

pub returns : goal.returns
returns _ = truth_kept
