use Rattle.std.proofs.Common.{◌≡◌, ℕ, ◌-◌, List}
use Rattle.definitions.specs.Boolean.{Form, read_token}
use Rattle.bits.specs.InRow.{Begun}
use Rattle.boolean.specs.Steps.{assigned}
use Rattle.boolean.proofs.Parts.{of_parts}
use Rattle.boolean.proofs.token.+read_body.Given as goal

abbrev pub decreases-read_body : goal.decreases-read_body
decreases-read_body l = l.depth

abbrev pub invariant-loop : goal.invariant-loop
invariant-loop l =
    (ps : List (Form ℕ)) × Begun (read_token l.variables (l.depth - 1)) l.parts l.counter ps l.initial.cursor l.cursor × (l.truth ≡ of_parts l.any (assigned l.truths) ps)
