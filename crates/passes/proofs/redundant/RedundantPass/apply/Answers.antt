use Rattle.definitions.specs.Passes.{pass_r}
use Rattle.passes.proofs.Applying.{planning_map}
use Rattle.passes.proofs.PlanR.{plan_r}
use Rattle.passes.proofs.redundant.RedundantPass.apply.Goals as goal

pub returns : goal.returns
returns g c = c.apply_planned.ensures pass_r (λ x r p s short o fit. planning_map (λ P. plan_r (g.G.Algebra.meaning x.now.alg.now) s P fit) r (p s short o))
