use Rattle.theorems.proofs.systems_read_back.Goals as goal
use Rattle.theorems.proofs.Whole.{whole_back}

pub returns : goal.returns
returns _ = whole_back
