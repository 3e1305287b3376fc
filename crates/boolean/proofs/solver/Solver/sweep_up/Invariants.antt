use Rattle.std.proofs.Common.{◌≡◌, length}
use Rattle.rows.specs.Listed.{listed}
use Rattle.boolean.specs.Steps.{assigned}
use Rattle.boolean.specs.Ranked.{Swept}
use Rattle.boolean.specs.Solvers.{sign, body, inside}
use Rattle.boolean.proofs.solver.Solver.sweep_up.Given as goal

abbrev pub invariant-loop-v : goal.invariant-loop-v
invariant-loop-v l =
    (length l.truths ≡ 4096) × Swept (sign l.self l.k) (body l.self) (inside l.self l.k) (length (listed l.self.variables.now.entries)) (assigned l.initial.truths) (assigned l.truths) l.changed
