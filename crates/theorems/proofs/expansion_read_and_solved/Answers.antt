use Rattle.theorems.proofs.expansion_read_and_solved.Goals as goal
use Rattle.theorems.proofs.Expanding.{expand_ships}

pub returns : goal.returns
returns _ = expand_ships
