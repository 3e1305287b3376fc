use Rattle.theorems.proofs.no_pass_heavier.Goals as goal
use Rattle.theorems.proofs.Weights.{c_le, f_le, r_le, u_le}

pub returns : goal.returns
returns _ a s = record { C = c_le a s; F = f_le a s; R = r_le a s; U = u_le a s }
