use Rattle.fixpoint.proofs.solutions_transfer.Goals as goal
use Rattle.fixpoint.proofs.Transfer.{transfer}
use mathlib.Core.Bool.{So}

pub returns : goal.returns
returns g c O P ρ rel = transfer g.row.I.Denot g.row.J.Denot g.row.V.Denot g.row.W.Denot O P (λ a b. So (ρ a b)) (λ i j. So (rel i j))
