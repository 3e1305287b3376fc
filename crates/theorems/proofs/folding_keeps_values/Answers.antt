use Rattle.theorems.proofs.folding_keeps_values.Goals as goal
use Rattle.theorems.proofs.KeepsF.{folded_value}

pub returns : goal.returns
returns _ = folded_value
