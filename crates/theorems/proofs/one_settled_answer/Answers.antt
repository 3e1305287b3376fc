use Rattle.theorems.proofs.one_settled_answer.Goals as goal
use Rattle.theorems.proofs.Settled.{settle_one}

pub returns : goal.returns
returns _ = settle_one
