use Rattle.std.proofs.Common.{◌≡◌, ℕ, List, length}
use Rattle.expansion.specs.Bodies.{Bound}
use Rattle.expansion.proofs.Meanings.{Filled, value_at}
use Rattle.expansion.proofs.body.meant.Given as goal

abbrev pub invariant-loop-i : goal.invariant-loop-i
invariant-loop-i g l =
    let a = g.G.Algebra.meaning l.accepted.alg.now in
    (length l.values ≡ 15) ×
    ((ps vs : List ℕ) → Bound ps vs l.env → Filled (value_at a l.accepted.file.now ps vs) l.at-items l.i l.values)
