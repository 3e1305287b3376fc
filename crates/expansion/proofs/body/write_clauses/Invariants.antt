use Rattle.std.proofs.Common.{◌≡◌, ℕ, ◌≤◌, List, map, length, drop}
use Rattle.definitions.specs.Systems.{Clause, System}
use Rattle.definitions.specs.ReadSystem.{Scope}
use Rattle.definitions.specs.Values.{holds}
use Rattle.definitions.specs.Boolean.{clause_form}
use Rattle.definitions.specs.Fits.{header_of}
use Rattle.system.specs.Whole.{kept_headers}
use Rattle.system.specs.Walks.{Pairs}
use Rattle.expansion.specs.Bodies.{Bound, ClauseThere}
use Rattle.expansion.proofs.Walking.{Parts}
use Rattle.expansion.proofs.body.write_clauses.Given as goal

abbrev pub invariant-loop-clause : goal.invariant-loop-clause
invariant-loop-clause g l =
    let a = g.G.Algebra.meaning l.accepted.alg.now in
    let hs = kept_headers l.accepted.outline.now in
    (s : System) (c : Scope) (ks : List Clause) (ps vs : List ℕ) → length l.accepted.file.now ≤ 65536 → hs ≡ map header_of s.equations → Bound ps vs l.env →
    let R = ClauseThere a hs c l.accepted.file.now in
    Pairs R l.clauses ks → Parts R (λ (k : Clause). holds a ps vs k.guard) (clause_form a ps vs) s ks (drop l.clause-index l.clauses) l.fn.draft l.draft
