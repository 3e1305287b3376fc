use Rattle.std.proofs.Common.{◌≡◌, ℕ, ◌≤◌, Bool, true, List, length}
use Rattle.definitions.specs.Systems.{Clause}
use Rattle.definitions.specs.Reading.{next, repeated}
use Rattle.definitions.specs.ReadSystem.{Scope, read_clause}
use Rattle.system.specs.Whole.{kept_headers}
use Rattle.passes.specs.declared.unreachable_equations.EquationNumber.{EquationNumber}
use Rattle.passes.specs.Comes.{Room, Brought, Called}
use Rattle.passes.proofs.Coming.{Front}
use Rattle.passes.proofs.ComingU.{Target}
use Rattle.system.proofs.ByPlace.{Ahead}
use Rattle.passes.proofs.unreachable_equations.called_come.Given as goal

abbrev pub invariant-loop : goal.invariant-loop
invariant-loop g l =
    let r = read_clause (g.G.Algebra.meaning l.accepted.alg.now) (kept_headers l.accepted.outline.now) in
    let f = l.accepted.file.now in
    (c : Scope) (ks : List Clause) (q : ℕ) → length f ≤ 65536 → repeated (r c) l.body.count f l.body.next ≡ next ks q →
    Ahead (r c) f l.body.count ks q l.counter l.next ×
    ((p : EquationNumber → Bool) → Room p l.fn.list → ((x : EquationNumber) → Called ks x → p x ≡ true) → Brought p (Front (λ _. Target) ks l.counter) l.fn.list l.list)
