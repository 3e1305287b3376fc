use Rattle.theorems.proofs.calls_answer.Goals as goal
use Rattle.theorems.proofs.Answerables.{calls_answer}

pub returns : goal.returns
returns _ = calls_answer
