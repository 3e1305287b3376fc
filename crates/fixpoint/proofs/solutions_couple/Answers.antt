use Rattle.fixpoint.proofs.solutions_couple.Goals as goal
use Rattle.fixpoint.proofs.Couple.{couple}
use mathlib.Core.Bool.{So}

pub returns : goal.returns
returns g c O P ρ rel = couple g.row.I.Denot g.row.J.Denot g.row.V.Denot g.row.W.Denot O P (λ a b. So (ρ a b)) (λ i j. So (rel i j))
