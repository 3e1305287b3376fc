use Rattle.std.proofs.Common.{◌≡◌, ℕ, Bool, true, length}
use Rattle.definitions.specs.Systems.{Occurrence}
use Rattle.rows.specs.Listed.{listed}
use Rattle.firstcome.specs.Coming.{listed as came}
use Rattle.system.specs.Walks.{OccurrenceOf}
use Rattle.passes.specs.declared.redundant.Parameter.{Parameter}
use Rattle.passes.specs.Comes.{Has, Room, Brought, Feeding}
use Rattle.passes.proofs.Coming.{Front}
use Rattle.passes.proofs.ComingR.{Fed}
use Rattle.passes.proofs.redundant.feeding_come.Given as goal

abbrev pub invariant-loop-index : goal.invariant-loop-index
invariant-loop-index g l =
    let a = g.G.Algebra.meaning l.accepted.alg.now in
    let i = l.numbered.number in
    let n = length (listed l.numbered.equation.now.header.sorts) in
    (o : Occurrence) (q : ℕ) → OccurrenceOf a l.accepted.file.now o q l.occurrence →
    (p : Parameter → Bool) → Room p l.fn.list → ((x : Parameter) → Feeding i n o (λ y. p y ≡ true) x → p x ≡ true) →
    Brought p (Front (Fed i n o (Has (came l.fn.list))) o.arguments l.index) l.fn.list l.list
