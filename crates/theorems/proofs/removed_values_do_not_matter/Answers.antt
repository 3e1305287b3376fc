use Rattle.theorems.proofs.removed_values_do_not_matter.Goals as goal
use Rattle.theorems.proofs.Starts.{removed_values}

pub returns : goal.returns
returns _ = removed_values
