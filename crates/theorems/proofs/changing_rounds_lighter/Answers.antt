use Rattle.theorems.proofs.changing_rounds_lighter.Goals as goal
use Rattle.theorems.proofs.RoundStrict.{round_strict}

pub returns : goal.returns
returns _ = round_strict
