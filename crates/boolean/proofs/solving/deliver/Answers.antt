use Rattle.std.proofs.Common.{◌≡◌, false, ◌++◌, map, length, get_or, take, drop, ap, ◌∙◌, arith}
use Rattle.std.proofs.Math.Seq.{take-length}
use Rattle.definitions.specs.Algebras.{truth}
use Rattle.boolean.proofs.Answering.{delivered_next, bool_byte_truth}
use Rattle.boolean.proofs.solving.deliver.Goals as goal

pub loop-v-preserved : goal.loop-v-preserved
loop-v-preserved c =
    delivered_next c.args.solution.now c.args.truths.now c.loop-v.truths c.loop-v.v _ (omega (arith, c.loop-v-test.true)) (omega (arith, c.loop-v-test.true, c.requires.room))
    (bool_byte_truth (get_or c.args.solution.now c.loop-v.v false)) c.loop-v.invariant

pub returns : goal.returns
returns c =
    let n : c.loop-v.v ≡ length c.args.solution.now = omega (arith, c.loop-v-test.false, c.loop-v.auto.v-end) in
    c.loop-v.invariant ∙ ap (λ m. map truth (take m c.args.solution.now) ++ drop m c.args.truths.now) n ∙
    ap (λ ts. map truth ts ++ drop (length c.args.solution.now) c.args.truths.now) (take-length c.args.solution.now)
