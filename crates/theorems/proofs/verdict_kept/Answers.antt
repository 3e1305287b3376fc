use Rattle.theorems.proofs.verdict_kept.Goals as goal
use Rattle.theorems.proofs.Main.{verdict_kept}

pub returns : goal.returns
returns _ = verdict_kept
