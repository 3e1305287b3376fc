use Rattle.std.proofs.Common.{◌≡◌, ℕ, List, length, ap, arith}
use Rattle.rows.specs.Listed.{listed}
use Rattle.algebra.specs.Lawfuls.{counts_long}
use Rattle.algebra.proofs.counting.calls.CountingAlgebra.operations.Goals as goal

pub returns : goal.returns
returns c =
    let ns = listed c.args.self.now.sizes in
    let e : length c.as_slice.result.now ≡ length ns = ap (λ (l : List ℕ). length l) c.as_slice.ensures in
    omega (arith, counts_long ns 1)
