use Rattle.theorems.proofs.buffers_answer.Goals as goal
use Rattle.theorems.proofs.Answerables.{buffers_answer}

pub returns : goal.returns
returns _ = buffers_answer
