use Rattle.theorems.proofs.settling_ends.Goals as goal
use Rattle.theorems.proofs.Settled.{settle_answers}

pub returns : goal.returns
returns _ = settle_answers
