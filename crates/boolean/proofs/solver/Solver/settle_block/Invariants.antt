use Rattle.std.proofs.Common.{length}
use Rattle.definitions.specs.Order.{dual}
use Rattle.fixpoint.proofs.Rounds.{total}
use Rattle.boolean.specs.Steps.{assigned}
use Rattle.boolean.specs.Ranked.{moving, members, Swept}
use Rattle.boolean.specs.Solvers.{variables, body, sign, inside}
use Rattle.boolean.proofs.solver.Solver.settle_block.Given as goal

abbrev pub invariant-loop-changed : goal.invariant-loop-changed
invariant-loop-changed l =
    Swept (sign l.self l.k) (body l.self) (inside l.self l.k) (length (variables l.self)) (assigned l.initial.truths) (assigned l.truths) l.changed

abbrev pub decreases-loop-changed : goal.decreases-loop-changed
decreases-loop-changed l =
    total (dual (moving (sign l.self l.k))) (members (variables l.self) l.self.blocks.now.ranks l.k) (assigned l.truths)
