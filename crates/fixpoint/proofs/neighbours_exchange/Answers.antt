use Rattle.fixpoint.proofs.neighbours_exchange.Goals as goal
use Rattle.fixpoint.proofs.Merge.{exchange}

pub returns : goal.returns
returns g c = exchange g.row.I.Denot g.row.V.Denot
