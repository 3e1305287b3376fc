use Rattle.passes.proofs.laws.needing_is_pass_r.Goals as goal
use Rattle.passes.proofs.PlanR.{plan_r}

pub returns : goal.returns
returns c = plan_r
