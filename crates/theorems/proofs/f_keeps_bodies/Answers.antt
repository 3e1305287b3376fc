use Rattle.theorems.proofs.f_keeps_bodies.Goals as goal
use Rattle.theorems.proofs.KeepsF.{bodies_kept}

pub returns : goal.returns
returns _ = bodies_kept
