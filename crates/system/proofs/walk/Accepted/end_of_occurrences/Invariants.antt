use Rattle.std.proofs.Common.{◌≡◌, ◌-◌}
use Rattle.system.specs.Whole.{kept_headers}
use Rattle.system.specs.Walks.{in_row, ended, occurrence_next}
use Rattle.system.proofs.walk.Accepted.end_of_occurrences.Given as goal

abbrev pub invariant-loop : goal.invariant-loop
invariant-loop g l =
    let s = occurrence_next (g.G.Algebra.meaning l.self.alg.now) (kept_headers l.self.outline.now) l.self.file.now in
    ended (in_row s l.occurrences l.initial.next) ≡ ended (in_row s (l.occurrences - l.counter) l.next)
