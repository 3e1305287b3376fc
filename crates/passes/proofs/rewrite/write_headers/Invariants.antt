use Rattle.std.proofs.Common.{List}
use Rattle.definitions.specs.Alg.{Alg}
use Rattle.definitions.specs.Systems.{Equation}
use Rattle.definitions.specs.Written.{header_bits}
use Rattle.system.specs.Walks.{Pairs}
use Rattle.passes.specs.declared.plan.Change.{Change}
use Rattle.passes.specs.declared.plan.Plan.{Plan}
use Rattle.passes.specs.Planned.{remains, equation_by}
use Rattle.passes.specs.Rewrites.{HeaderThere}
use Rattle.passes.proofs.Along.{Along, piece}
use Rattle.passes.proofs.rewrite.write_headers.Given as goal

abbrev pub invariant-loop-equation : goal.invariant-loop-equation
invariant-loop-equation l =
    (a : Alg) (P : Plan) (es : List Equation) → Pairs (HeaderThere a) l.equations es →
    Along (HeaderThere a) (λ (c : Change). piece header_bits (equation_by a P c) (remains c.equation)) l.changes es l.equation-iterator.a.rest.now l.equation-iterator.b.rest.now l.fn.writer l.writer
