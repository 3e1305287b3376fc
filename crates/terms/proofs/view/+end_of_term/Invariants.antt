use Rattle.std.proofs.Common.{◌≡◌, ◌-◌}
use Rattle.terms.specs.Shapes.{row, shape, behind}
use Rattle.terms.proofs.view.+end_of_term.Given as goal

abbrev pub decreases-end_of_term : goal.decreases-end_of_term
decreases-end_of_term g l = l.depth

abbrev pub invariant-loop : goal.invariant-loop
invariant-loop g l =
    let r = shape (g.G.Algebra.meaning l.alg) (l.depth - 1) in
    behind (row r l.parts l.view.bytes.now l.initial.at) ≡ behind (row r (l.parts - l.counter) l.view.bytes.now l.at)
