use Rattle.theorems.proofs.c_keeps_truths.Goals as goal
use Rattle.theorems.proofs.TruthsC.{c_truths}

pub returns : goal.returns
returns _ = c_truths
