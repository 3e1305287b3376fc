use Rattle.fixpoint.proofs.at_most_one_solution.Goals as goal
use Rattle.fixpoint.proofs.Meaning.{at_most_one}

pub returns : goal.returns
returns g c = at_most_one g.row.I.Denot g.row.V.Denot
