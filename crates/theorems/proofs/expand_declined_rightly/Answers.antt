use Rattle.theorems.proofs.expand_declined_rightly.Goals as goal
use Rattle.theorems.proofs.Expanding.{expand_declines}

pub returns : goal.returns
returns _ = expand_declines
