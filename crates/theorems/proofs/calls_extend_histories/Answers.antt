use Rattle.theorems.proofs.calls_extend_histories.Goals as goal
use Rattle.theorems.proofs.Main.{follows}

pub returns : goal.returns
returns _ = follows
