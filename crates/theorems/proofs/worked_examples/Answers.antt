use Rattle.theorems.proofs.worked_examples.Goals as goal
use Rattle.theorems.proofs.ExamplesHold.{examples}

pub returns : goal.returns
returns _ = examples
