use Rattle.std.proofs.Common.{◌≡◌, ◌≤◌, Bool, true, length}
use Rattle.definitions.specs.Systems.{Equation, System}
use Rattle.definitions.specs.Passes.{occurrences}
use Rattle.firstcome.specs.Coming.{listed as came}
use Rattle.system.specs.Whole.{Outlined}
use Rattle.passes.specs.declared.redundant.Parameter.{Parameter}
use Rattle.passes.specs.Comes.{Has, Room, Brought, Pointing, Points}
use Rattle.passes.proofs.Coming.{Front}
use Rattle.passes.proofs.redundant.pointing_come.Given as goal

abbrev pub invariant-loop-number : goal.invariant-loop-number
invariant-loop-number g l =
    let a = g.G.Algebra.meaning l.accepted.alg.now in
    (s : System) → length l.accepted.file.now ≤ 65536 → Outlined a l.accepted.file.now s l.accepted.outline.now →
    (p : Parameter → Bool) → Room p l.fn.list → ((x : Parameter) → Points s (λ y. p y ≡ true) x → p x ≡ true) →
    Brought p (Front (λ i (e : Equation). Pointing i (length e.sorts) (occurrences e) (Has (came l.fn.list))) s.equations l.number) l.fn.list l.list
