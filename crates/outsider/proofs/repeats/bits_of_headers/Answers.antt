use Rattle.std.proofs.Common.{length, ap, arith, drop_of_length-le}
use Rattle.definitions.specs.Written.{header_bits}
use Rattle.system.specs.declared.outline.Equation.{Equation as Told}
use Rattle.outsider.specs.Pieces.{HeaderThere}
use Rattle.outsider.proofs.Along.{item, counting_first, counting_next, counting_end}
use Rattle.outsider.proofs.repeats.bits_of_headers.Goals as goal

pub loop-equation-init : goal.loop-equation-init
loop-equation-init c = (omega arith, λ es p. counting_first (λ (t : Told). HeaderThere t.header) header_bits 5 c.args.equations.now es p)

pub loop-equation-preserved : goal.loop-equation-preserved
loop-equation-preserved c =
    let i = c.loop-equation.equation-index in
    let x = c.equation-item.result in
    let n = c.bits_of_header-count in (
      omega (arith, c.loop-equation.invariant.0, n.ensures.few),
      λ es p. counting_next (λ (t : Told). HeaderThere t.header) header_bits 5 x n.result (item c.args.equations.now i x (omega arith) c.equation-item.is) (c.loop-equation.invariant.1 es p) (λ y h. n.ensures.long y h),
    )

pub returns : goal.returns
returns c = λ es p.
    let i = c.loop-equation.equation-index in
    counting_end (λ (t : Told). HeaderThere t.header) header_bits 5 (ap length (drop_of_length-le c.args.equations.now {i = i} (omega arith))) (c.loop-equation.invariant.1 es p)
