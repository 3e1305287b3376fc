use Rattle.theorems.proofs.u_keeps_what_is_reached.Goals as goal
use Rattle.theorems.proofs.Reaching.{reached}

pub returns : goal.returns
returns _ = reached
