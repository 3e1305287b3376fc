use Rattle.fixpoint.proofs.equal_truths_transfer.Goals as goal
use Rattle.fixpoint.proofs.Transfer.{transfer}
use mathlib.Core.Bool.{So}
use mathlib.Core.Path.{◌≡◌}

pub returns : goal.returns
returns g c O rel = transfer g.row.I.Denot g.row.J.Denot g.row.V.Denot g.row.V.Denot O O (λ a b. a ≡ b) (λ i j. So (rel i j))
