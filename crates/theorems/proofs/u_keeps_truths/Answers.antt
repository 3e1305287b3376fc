use Rattle.theorems.proofs.u_keeps_truths.Goals as goal
use Rattle.theorems.proofs.Reaching.{u_truths}

pub returns : goal.returns
returns _ = u_truths
