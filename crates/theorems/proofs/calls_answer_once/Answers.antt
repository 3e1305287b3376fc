use Rattle.theorems.proofs.calls_answer_once.Goals as goal
use Rattle.theorems.proofs.Answerables.{calls_one}

pub returns : goal.returns
returns _ = calls_one
