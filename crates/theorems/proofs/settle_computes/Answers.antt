use Rattle.theorems.proofs.settle_computes.Goals as goal
use Rattle.theorems.proofs.Settled.{settle_function}

pub returns : goal.returns
returns _ = settle_function
