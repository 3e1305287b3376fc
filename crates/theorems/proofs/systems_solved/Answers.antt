use Rattle.theorems.proofs.systems_solved.Goals as goal
use Rattle.theorems.proofs.Solutions.{systems_solved}

pub returns : goal.returns
returns _ = systems_solved
