use Rattle.theorems.proofs.booleans_read_back.Goals as goal
use Rattle.theorems.proofs.BooleanBack.{boolean_back}

pub returns : goal.returns
returns _ = boolean_back
