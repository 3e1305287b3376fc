use Rattle.theorems.proofs.rounds_within_limit.Goals as goal
use Rattle.theorems.proofs.Lightness.{rounds_within_limit}

pub returns : goal.returns
returns _ = rounds_within_limit
