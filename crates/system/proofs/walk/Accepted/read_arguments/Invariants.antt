use Rattle.std.proofs.Common.{◌≡◌, ◌-◌, length}
use Rattle.rows.specs.Listed.{listed}
use Rattle.system.specs.Walks.{in_row}
use Rattle.system.proofs.Found.{prefixed, term_next}
use Rattle.system.proofs.walk.Accepted.read_arguments.Given as goal

abbrev pub invariant-loop : goal.invariant-loop
invariant-loop g l =
    let s = term_next (g.G.Algebra.meaning l.self.alg.now) l.self.file.now in
    (length (listed l.places) ≡ l.counter) ×
    (in_row s l.count l.initial.next ≡ prefixed (listed l.places) (in_row s (l.count - l.counter) l.next))
