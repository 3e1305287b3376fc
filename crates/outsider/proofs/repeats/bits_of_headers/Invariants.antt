use Rattle.std.proofs.Common.{◌+◌, ◌*◌, ◌≤◌, List, drop}
use Rattle.definitions.specs.Systems.{Equation}
use Rattle.definitions.specs.Written.{header_bits}
use Rattle.system.specs.declared.outline.Equation.{Equation as Told}
use Rattle.system.specs.Walks.{Pairs}
use Rattle.outsider.specs.Pieces.{HeaderThere}
use Rattle.outsider.proofs.Along.{Counting}
use Rattle.outsider.proofs.repeats.bits_of_headers.Given as goal

abbrev pub invariant-loop-equation : goal.invariant-loop-equation
invariant-loop-equation l =
    (l.count ≤ 5 + 82 * l.equation-index) ×
    ((es : List Equation) → Pairs (λ (t : Told). HeaderThere t.header) l.equations es → Counting (λ (t : Told). HeaderThere t.header) header_bits 5 es (drop l.equation-index l.equations) l.count)
