use Rattle.definitions.specs.Passes.{pass_u}
use Rattle.passes.proofs.Applying.{planning_map}
use Rattle.passes.proofs.PlanU.{plan_u}
use Rattle.passes.proofs.unreachable_equations.UnreachablePass.apply.Goals as goal

pub returns : goal.returns
returns g c = c.apply_planned.ensures pass_u (λ x r p s short o fit. planning_map (λ P. plan_u (g.G.Algebra.meaning x.now.alg.now) s P fit) r (p s short o))
