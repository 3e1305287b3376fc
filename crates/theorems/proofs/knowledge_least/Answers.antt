use Rattle.theorems.proofs.knowledge_least.Goals as goal
use Rattle.theorems.proofs.Knows.{least}

pub returns : goal.returns
returns _ = least
