use Rattle.definitions.specs.Passes.{pass_f}
use Rattle.passes.proofs.Applying.{planning_map}
use Rattle.passes.proofs.PlanF.{plan_f}
use Rattle.passes.proofs.folding.FoldPass.apply.Goals as goal

pub returns : goal.returns
returns g c = c.apply_planned.ensures pass_f (λ x r p s short o fit. planning_map (λ P. plan_f (g.G.Algebra.meaning x.now.alg.now) s P fit) r (p s short o))
