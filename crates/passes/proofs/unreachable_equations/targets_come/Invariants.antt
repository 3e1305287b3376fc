use Rattle.std.proofs.Common.{◌≡◌, Bool, true}
use Rattle.system.specs.declared.places.OccurrenceAt.{OccurrenceAt}
use Rattle.passes.specs.declared.unreachable_equations.EquationNumber.{EquationNumber}
use Rattle.passes.specs.Comes.{Room, Brought, Targets, number}
use Rattle.passes.proofs.Coming.{Front}
use Rattle.passes.proofs.unreachable_equations.targets_come.Given as goal

abbrev pub invariant-loop-occurrence : goal.invariant-loop-occurrence
invariant-loop-occurrence l =
    (p : EquationNumber → Bool) → Room p l.fn.list → ((x : EquationNumber) → Targets l.occurrences x → p x ≡ true) →
    Brought p (Front (λ _ (o : OccurrenceAt) (x : EquationNumber). x ≡ number o.target) l.occurrences l.occurrence-index) l.fn.list l.list
