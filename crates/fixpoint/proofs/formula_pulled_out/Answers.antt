use Rattle.fixpoint.proofs.formula_pulled_out.Goals as goal
use Rattle.fixpoint.proofs.Pull.{pull}

pub returns : goal.returns
returns g c = pull g.row.I.Denot g.row.K.Denot g.row.V.Denot
