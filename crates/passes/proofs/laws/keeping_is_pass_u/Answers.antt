use Rattle.passes.proofs.laws.keeping_is_pass_u.Goals as goal
use Rattle.passes.proofs.PlanU.{plan_u}

pub returns : goal.returns
returns _ = plan_u
