use Rattle.theorems.proofs.systems_written_back.Goals as goal
use Rattle.theorems.proofs.Repack.{whole_forth}

pub returns : goal.returns
returns _ = whole_forth
