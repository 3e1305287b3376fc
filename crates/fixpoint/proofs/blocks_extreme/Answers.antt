use Rattle.fixpoint.proofs.blocks_extreme.Goals as goal
use Rattle.fixpoint.proofs.Signs.{extreme}

pub returns : goal.returns
returns g c = extreme g.row.I.Denot g.row.V.Denot
