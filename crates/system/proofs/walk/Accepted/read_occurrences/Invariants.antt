use Rattle.std.proofs.Common.{◌≡◌, ◌-◌, map, length}
use Rattle.rows.specs.Listed.{listed}
use Rattle.system.specs.Whole.{kept_headers}
use Rattle.system.specs.Walks.{in_row, occurrence_next, occurrence_told}
use Rattle.system.proofs.Found.{prefixed}
use Rattle.system.proofs.walk.Accepted.read_occurrences.Given as goal

abbrev pub invariant-loop : goal.invariant-loop
invariant-loop g l =
    let s = occurrence_next (g.G.Algebra.meaning l.self.alg.now) (kept_headers l.self.outline.now) l.self.file.now in
    (length (listed l.occurrences) ≡ l.counter) ×
    (in_row s l.end l.initial.next ≡ prefixed (map occurrence_told (listed l.occurrences)) (in_row s (l.end - l.counter) l.next))
