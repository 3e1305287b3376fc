use Rattle.std.proofs.Common.{◌≡◌, length}
use Rattle.rows.specs.Listed.{listed}
use Rattle.boolean.specs.Steps.{assigned}
use Rattle.boolean.specs.Ranked.{Swept}
use Rattle.boolean.specs.Solvers.{sign, body, inside}
use Rattle.boolean.proofs.Backwards.{rest, Front}
use Rattle.boolean.proofs.solver.Solver.sweep.Given as goal

abbrev pub invariant-loop-v : goal.invariant-loop-v
invariant-loop-v l =
    (length l.truths ≡ 4096) × Front (listed l.self.variables.now.entries) l.v-iterator ×
    Swept (sign l.self l.k) (body l.self) (inside l.self l.k) (length (rest l.v-iterator)) (assigned l.initial.truths) (assigned l.truths) l.changed
