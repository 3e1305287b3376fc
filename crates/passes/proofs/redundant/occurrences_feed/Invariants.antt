use Rattle.std.proofs.Common.{◌≡◌, ℕ, Bool, true, List, length}
use Rattle.definitions.specs.Systems.{Occurrence}
use Rattle.rows.specs.Listed.{listed}
use Rattle.firstcome.specs.Coming.{listed as came}
use Rattle.system.specs.Walks.{OccurrenceOf, Pairs}
use Rattle.passes.specs.declared.redundant.Parameter.{Parameter}
use Rattle.passes.specs.Comes.{Has, Room, Brought, Feeding, Pointing}
use Rattle.passes.proofs.Coming.{Front}
use Rattle.passes.proofs.redundant.occurrences_feed.Given as goal

abbrev pub invariant-loop-occurrence : goal.invariant-loop-occurrence
invariant-loop-occurrence g l =
    let a = g.G.Algebra.meaning l.accepted.alg.now in
    let i = l.numbered.number in
    let n = length (listed l.numbered.equation.now.header.sorts) in
    (os : List Occurrence) → Pairs (λ x o. (u : ℕ) × OccurrenceOf a l.accepted.file.now o u x) l.occurrences os →
    (p : Parameter → Bool) → Room p l.fn.list → ((x : Parameter) → Pointing i n os (λ y. p y ≡ true) x → p x ≡ true) →
    Brought p (Front (λ j (o : Occurrence). Feeding i n o (Has (came l.fn.list))) os l.occurrence-index) l.fn.list l.list
