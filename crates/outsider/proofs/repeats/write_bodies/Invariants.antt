use Rattle.std.proofs.Common.{◌≤◌, List, length, drop}
use Rattle.definitions.specs.Systems.{Equation}
use Rattle.definitions.specs.Written.{body_bits}
use Rattle.system.specs.Whole.{kept_headers}
use Rattle.system.specs.Walks.{Pairs}
use Rattle.outsider.specs.Repeats.{equation_without_repeats}
use Rattle.outsider.specs.Pieces.{EquationThere}
use Rattle.outsider.proofs.Along.{Going}
use Rattle.outsider.proofs.repeats.write_bodies.Given as goal

abbrev pub invariant-loop-equation : goal.invariant-loop-equation
invariant-loop-equation g l =
    let R = EquationThere (g.G.Algebra.meaning l.accepted.alg.now) (kept_headers l.accepted.outline.now) l.accepted.file.now in
    (es : List Equation) → length l.accepted.file.now ≤ 65536 → Pairs R l.equations es → Going R (λ (e : Equation). body_bits (equation_without_repeats e)) es (drop l.equation-index l.equations) l.fn.writer l.writer
