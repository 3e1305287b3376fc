use Rattle.theorems.proofs.weight_within_bits.Goals as goal
use Rattle.theorems.proofs.Lightness.{weight_within_bits}

pub returns : goal.returns
returns _ = weight_within_bits
