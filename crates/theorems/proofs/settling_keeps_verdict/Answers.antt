use Rattle.theorems.proofs.settling_keeps_verdict.Goals as goal
use Rattle.theorems.proofs.Lightness.{settling_keeps}

pub returns : goal.returns
returns _ = settling_keeps
