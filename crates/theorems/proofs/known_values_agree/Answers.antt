use Rattle.theorems.proofs.known_values_agree.Goals as goal
use Rattle.theorems.proofs.Evaluates.{known_agrees}

pub returns : goal.returns
returns _ = known_agrees
