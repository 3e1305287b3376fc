use Rattle.passes.proofs.laws.knowing_is_pass_c.Goals as goal
use Rattle.passes.proofs.PlanC.{plan_c}

pub returns : goal.returns
returns c = plan_c
