use Rattle.theorems.proofs.expansion_fits.Goals as goal
use Rattle.theorems.proofs.Expanding.{expand_fits}

pub returns : goal.returns
returns _ = expand_fits
