use Rattle.std.proofs.Common.{◌≤◌, length}
use Rattle.definitions.specs.Systems.{System}
use Rattle.definitions.specs.Fits.{SystemFits}
use Rattle.firstcome.specs.Coming.{listed}
use Rattle.system.specs.Whole.{Outlined}
use Rattle.passes.specs.Comes.{Room, Brought, Led, reached}
use Rattle.passes.proofs.unreachable_equations.followed.Given as goal

abbrev pub invariant-loop-k : goal.invariant-loop-k
invariant-loop-k g l =
    let a = g.G.Algebra.meaning l.accepted.alg.now in
    let f = l.accepted.file.now in
    (s : System) → length f ≤ 65536 → Outlined a f s l.accepted.outline.now → SystemFits a s → Room (reached s) l.fn.list → Brought (reached s) (Led s (listed l.list) l.k) l.fn.list l.list
