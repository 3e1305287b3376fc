use Rattle.fixpoint.proofs.solutions_monotone.Goals as goal
use Rattle.fixpoint.proofs.Signs.{monotone}

pub returns : goal.returns
returns g c = monotone g.row.I.Denot g.row.V.Denot
