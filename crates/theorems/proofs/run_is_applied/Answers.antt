use Rattle.theorems.proofs.run_is_applied.Goals as goal
use Rattle.theorems.proofs.Answerables.{run_applied}

pub returns : goal.returns
returns _ = run_applied
