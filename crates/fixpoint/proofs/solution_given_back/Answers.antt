use Rattle.fixpoint.proofs.solution_given_back.Goals as goal
use Rattle.fixpoint.proofs.Solves.{given_back}

pub returns : goal.returns
returns g c = given_back g.row.I.Denot g.row.V.Denot
