use Rattle.theorems.proofs.c_bares_unreached.Goals as goal
use Rattle.theorems.proofs.TruthsC.{bares}

pub returns : goal.returns
returns _ = bares
