use Rattle.std.proofs.Common.{◌≤◌, List, length}
use Rattle.definitions.specs.Systems.{Equation}
use Rattle.rows.specs.Listed.{listed}
use Rattle.system.specs.Whole.{kept_headers}
use Rattle.system.specs.Walks.{Pairs}
use Rattle.passes.specs.Planned.{body_left}
use Rattle.passes.specs.Rewrites.{EquationThere}
use Rattle.passes.proofs.Along.{Along}
use Rattle.passes.proofs.rewrite.write_bodies.Given as goal

abbrev pub invariant-loop-equation : goal.invariant-loop-equation
invariant-loop-equation g l =
    let a = g.G.Algebra.meaning l.accepted.alg.now in
    let R = EquationThere a (kept_headers l.accepted.outline.now) l.accepted.file.now in
    (es : List Equation) → length l.accepted.file.now ≤ 65536 → Pairs R (listed l.accepted.outline.now.equations) es →
    Along R (body_left a l.plan) l.plan.equations es l.equation-iterator.a.rest.now l.equation-iterator.b.rest.now l.fn.writer l.writer
