use Rattle.theorems.proofs.terms_read_back.Goals as goal
use Rattle.theorems.proofs.Back.{reads}

pub returns : goal.returns
returns _ a c f d s t h = reads h f
