use Rattle.std.proofs.Common.{◌≡◌, ◌-◌}
use Rattle.system.specs.Walks.{in_row, ended}
use Rattle.system.proofs.Found.{term_next}
use Rattle.system.proofs.walk.Accepted.end_of_terms.Given as goal

abbrev pub invariant-loop : goal.invariant-loop
invariant-loop g l =
    let s = term_next (g.G.Algebra.meaning l.self.alg.now) l.self.file.now in
    ended (in_row s l.terms l.initial.next) ≡ ended (in_row s (l.terms - l.counter) l.next)
