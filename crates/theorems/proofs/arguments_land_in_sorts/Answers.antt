use Rattle.theorems.proofs.arguments_land_in_sorts.Goals as goal
use Rattle.theorems.proofs.Evaluates.{arguments_in_sorts}

pub returns : goal.returns
returns _ = arguments_in_sorts
