use Rattle.fixpoint.proofs.rounds_find_solution.Goals as goal
use Rattle.fixpoint.proofs.Meaning.{rounds_find}

pub returns : goal.returns
returns g c = rounds_find g.row.I.Denot g.row.V.Denot
