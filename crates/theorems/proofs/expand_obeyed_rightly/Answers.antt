use Rattle.theorems.proofs.expand_obeyed_rightly.Goals as goal
use Rattle.theorems.proofs.Expanding.{expand_few}

pub returns : goal.returns
returns _ = expand_few
