use Rattle.theorems.proofs.knowledge_stable.Goals as goal
use Rattle.theorems.proofs.Stable.{stands}
use Rattle.theorems.proofs.FitShapes.{fits_shaped}

pub returns : goal.returns
returns _ a s fit = stands a s (fits_shaped a s fit)
