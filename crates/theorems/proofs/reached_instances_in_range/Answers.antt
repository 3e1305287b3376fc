use Rattle.theorems.proofs.reached_instances_in_range.Goals as goal
use Rattle.theorems.proofs.Evaluates.{reached_in_range}

pub returns : goal.returns
returns _ = reached_in_range
