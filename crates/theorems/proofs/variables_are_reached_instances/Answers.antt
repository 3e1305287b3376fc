use Rattle.theorems.proofs.variables_are_reached_instances.Goals as goal
use Rattle.theorems.proofs.Expanding.{expand_keeps}

pub returns : goal.returns
returns _ = expand_keeps
