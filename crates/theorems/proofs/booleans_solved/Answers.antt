use Rattle.theorems.proofs.booleans_solved.Goals as goal
use Rattle.theorems.proofs.Solutions.{booleans_solved}

pub returns : goal.returns
returns _ = booleans_solved
