use Rattle.std.proofs.Common.{ℕ, ◌≤◌, List, drop}
use Rattle.definitions.specs.Systems.{Clause}
use Rattle.definitions.specs.ReadSystem.{Scope}
use Rattle.definitions.specs.Values.{holds}
use Rattle.system.specs.Whole.{kept_headers}
use Rattle.system.specs.Walks.{Pairs}
use Rattle.expansion.specs.Bodies.{Bound, ClauseThere}
use Rattle.expansion.proofs.Walking.{Counting}
use Rattle.expansion.proofs.body.count_holding.Given as goal

abbrev pub invariant-loop-clause : goal.invariant-loop-clause
invariant-loop-clause g l =
    let a = g.G.Algebra.meaning l.accepted.alg.now in
    (l.count ≤ l.clause-index) ×
    ((c : Scope) (ks : List Clause) (ps vs : List ℕ) → Bound ps vs l.env →
    let R = ClauseThere a (kept_headers l.accepted.outline.now) c l.accepted.file.now in
    Pairs R l.clauses ks → Counting R (λ (k : Clause). holds a ps vs k.guard) ks (drop l.clause-index l.clauses) l.count)
