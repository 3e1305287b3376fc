use Rattle.definitions.specs.Constants.{pass_c}
use Rattle.passes.proofs.Applying.{planning_map}
use Rattle.passes.proofs.PlanC.{plan_c}
use Rattle.passes.proofs.constants.ConstantsPass.apply.Goals as goal

pub returns : goal.returns
returns g c = c.apply_planned.ensures pass_c (λ x r p s short o fit. planning_map (λ P. plan_c (g.G.Algebra.meaning x.now.alg.now) s P fit) r (p s short o))
