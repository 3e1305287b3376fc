use Rattle.std.proofs.Common.{ℕ, List, drop, ◌≤◌, length}
use Rattle.definitions.specs.Systems.{Clause}
use Rattle.definitions.specs.Written.{clause_bits}
use Rattle.system.specs.Whole.{kept_headers}
use Rattle.system.specs.Walks.{Pairs}
use Rattle.passes.specs.Planned.{term_by, clause_by, clause_stays, Narrow}
use Rattle.passes.specs.Rewrites.{ClauseThere}
use Rattle.passes.proofs.Along.{Going, piece}
use Rattle.passes.proofs.written.Edit.write_clauses.Given as goal

abbrev pub invariant-loop-clause : goal.invariant-loop-clause
invariant-loop-clause g l =
    let a = g.G.Algebra.meaning l.self.accepted.now.alg.now in
    (ks : List Clause) (vs : List ℕ) → length l.self.accepted.now.file.now ≤ 65536 → Narrow l.self.sorts.now →
    let R = ClauseThere a (kept_headers l.self.accepted.now.outline.now) (record { parameters = l.self.sorts.now; variables = vs }) l.self.accepted.now.file.now in
    let F = clause_by l.self.plan.now (term_by a l.self.plan.now l.self.sorts.now l.self.change.now) in
    Pairs R l.clauses ks → Going R (λ (k : Clause). piece clause_bits F (clause_stays a l.self.plan.now k) k) ks (drop l.clause-index l.clauses) l.fn.writer l.writer
