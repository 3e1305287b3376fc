use Rattle.std.proofs.Common.{◌≡◌, ◌-◌, map, length}
use Rattle.rows.specs.Listed.{listed}
use Rattle.system.specs.Whole.{kept_headers}
use Rattle.system.specs.Walks.{in_row, clause_next, clause_told}
use Rattle.system.proofs.Found.{prefixed}
use Rattle.system.proofs.walk.Accepted.read_clauses.Given as goal

abbrev pub invariant-loop : goal.invariant-loop
invariant-loop g l =
    let s = clause_next (g.G.Algebra.meaning l.self.alg.now) (kept_headers l.self.outline.now) l.self.file.now in
    (length (listed l.clauses) ≡ l.counter) ×
    (in_row s l.end l.initial.next ≡ prefixed (map clause_told (listed l.clauses)) (in_row s (l.end - l.counter) l.next))
