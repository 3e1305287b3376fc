use Rattle.std.proofs.Common.{◌≡◌, take}
use Rattle.rows.specs.Listed.{listed}
use Rattle.algebra.proofs.counting.calls.row_of.Given as goal

abbrev pub invariant-loop-n : goal.invariant-loop-n
invariant-loop-n l = listed l.row ≡ take l.n-index l.sizes
