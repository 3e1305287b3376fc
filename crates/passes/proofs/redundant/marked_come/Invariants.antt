use Rattle.std.proofs.Common.{◌≡◌, ◌≤◌, Bool, true, length}
use Rattle.definitions.specs.Systems.{Equation, System}
use Rattle.system.specs.Whole.{Outlined}
use Rattle.passes.specs.declared.redundant.Parameter.{Parameter}
use Rattle.passes.specs.Comes.{Room, Brought, Marking, Marks}
use Rattle.passes.proofs.Coming.{Front}
use Rattle.passes.proofs.redundant.marked_come.Given as goal

abbrev pub invariant-loop-number : goal.invariant-loop-number
invariant-loop-number g l =
    let a = g.G.Algebra.meaning l.accepted.alg.now in
    (s : System) → length l.accepted.file.now ≤ 65536 → Outlined a l.accepted.file.now s l.accepted.outline.now →
    (p : Parameter → Bool) → Room p l.fn.list → ((x : Parameter) → Marks s x → p x ≡ true) →
    Brought p (Front (λ i (e : Equation). Marking i (length e.sorts) e) s.equations l.number) l.fn.list l.list
