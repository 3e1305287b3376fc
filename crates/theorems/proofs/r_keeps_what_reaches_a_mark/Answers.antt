use Rattle.theorems.proofs.r_keeps_what_reaches_a_mark.Goals as goal
use Rattle.theorems.proofs.Reaching.{reaches_mark}

pub returns : goal.returns
returns _ = reaches_mark
