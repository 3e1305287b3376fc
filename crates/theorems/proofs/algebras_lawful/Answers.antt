use Rattle.theorems.proofs.algebras_lawful.Goals as goal
use Rattle.theorems.proofs.Algebraic.{algebras_lawful}

pub returns : goal.returns
returns _ = algebras_lawful
