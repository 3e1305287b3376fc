use Rattle.fixpoint.proofs.neighbours_merge.Goals as goal
use Rattle.fixpoint.proofs.Merge.{merge}

pub returns : goal.returns
returns g c = merge g.row.I.Denot g.row.V.Denot
