use Rattle.theorems.proofs.booleans_written_back.Goals as goal
use Rattle.theorems.proofs.BooleanForth.{boolean_forth}

pub returns : goal.returns
returns _ = boolean_forth
