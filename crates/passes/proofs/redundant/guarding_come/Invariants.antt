use Rattle.std.proofs.Common.{◌≡◌, ℕ, Bool, true, List, length}
use Rattle.definitions.specs.Systems.{Clause}
use Rattle.definitions.specs.ReadSystem.{Scope}
use Rattle.rows.specs.Listed.{listed}
use Rattle.system.specs.Whole.{kept_headers}
use Rattle.system.specs.Walks.{ClauseOf, Pairs}
use Rattle.passes.specs.declared.redundant.Parameter.{Parameter}
use Rattle.passes.specs.Comes.{Room, Brought, Occurring, Guarding}
use Rattle.passes.proofs.Coming.{Front}
use Rattle.passes.proofs.redundant.guarding_come.Given as goal

abbrev pub invariant-loop-clause : goal.invariant-loop-clause
invariant-loop-clause g l =
    let a = g.G.Algebra.meaning l.accepted.alg.now in
    let i = l.numbered.number in
    let n = length (listed l.numbered.equation.now.header.sorts) in
    (c : Scope) (ks : List Clause) → Pairs (λ x k. (u : ℕ) × ClauseOf a (kept_headers l.accepted.outline.now) c l.accepted.file.now k u x) l.clauses ks →
    (p : Parameter → Bool) → Room p l.fn.list → ((x : Parameter) → Guarding i n ks x → p x ≡ true) →
    Brought p (Front (λ j (k : Clause). Occurring i n k.guard) ks l.clause-index) l.fn.list l.list
