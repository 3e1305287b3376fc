use Rattle.std.proofs.Common.{◌≤◌, length}
use Rattle.definitions.specs.Systems.{System}
use Rattle.definitions.specs.Fits.{SystemFits}
use Rattle.firstcome.specs.Coming.{listed as came}
use Rattle.system.specs.Whole.{Outlined}
use Rattle.passes.specs.Comes.{Room, Brought, wanted}
use Rattle.passes.proofs.redundant.rounds_come.Given as goal

abbrev pub invariant-loop-round : goal.invariant-loop-round
invariant-loop-round g l =
    let a = g.G.Algebra.meaning l.accepted.alg.now in
    (s : System) → length l.accepted.file.now ≤ 65536 → Outlined a l.accepted.file.now s l.accepted.outline.now → SystemFits a s → Room (wanted s) l.fn.list →
    Brought (wanted s) (λ x. ⊥) l.fn.list l.list × (l._round ≤ length (came l.list))
