use Rattle.theorems.proofs.passes_keep_rules.Goals as goal
use Rattle.theorems.proofs.PassRules.{passes_rule}

pub returns : goal.returns
returns _ = passes_rule
