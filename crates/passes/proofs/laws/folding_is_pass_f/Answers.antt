use Rattle.passes.proofs.laws.folding_is_pass_f.Goals as goal
use Rattle.passes.proofs.PlanF.{plan_f}

pub returns : goal.returns
returns _ = plan_f
