use Rattle.theorems.proofs.misreadings_change_verdicts.Goals as goal
use Rattle.theorems.proofs.MisreadingsFail.{misreadings}

pub returns : goal.returns
returns _ = misreadings
