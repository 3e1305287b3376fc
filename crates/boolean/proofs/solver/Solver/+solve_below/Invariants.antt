use Rattle.std.proofs.Common.{◌-◌}
use Rattle.definitions.specs.Order.{dual}
use Rattle.definitions.specs.Order as order
use Rattle.fixpoint.proofs.Rounds.{total}
use Rattle.boolean.specs.Steps.{assigned}
use Rattle.boolean.specs.Ranked.{moving, members}
use Rattle.boolean.specs.Solvers.{variables, body, sign, block, blocks_below}
use Rattle.boolean.proofs.Rounds.{Round}
use Rattle.boolean.proofs.solver.Solver.+solve_below.Given as goal

abbrev pub decreases-solve_below : goal.decreases-solve_below
decreases-solve_below l = l.k

abbrev pub invariant-loop-k : goal.invariant-loop-k
invariant-loop-k l =
    let k = l.k - 1 in
    Round order.truths (body l.self) (block l.self k) (blocks_below l.self k) (assigned l.initial.truths) (assigned l.truths)

abbrev pub decreases-loop-k : goal.decreases-loop-k
decreases-loop-k l =
    let k = l.k - 1 in
    total (dual (moving (sign l.self k))) (members (variables l.self) l.self.blocks.now.ranks k) (assigned l.truths)
