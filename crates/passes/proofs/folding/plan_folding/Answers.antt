use Rattle.std.proofs.Common.{◌≤◌, length, sym, ap, ◌∙◌, arith}
use Rattle.rows.specs.Listed.{listed_within}
use Rattle.system.specs.declared.outline.Equation.{Equation as Told}
use Rattle.passes.specs.declared.plan.Plan.{Plan}
use Rattle.passes.specs.Rewrites.{false_at}
use Rattle.passes.proofs.Applying.{bare_next, stay_next, bared_folds}
use Rattle.passes.proofs.folding.plan_folding.Goals as goal
use Rattle.passes.proofs.folding.plan_folding.Goals.{then-folds_to_false, else-folds_to_false}

pub loop-i-preserved : goal.loop-i-preserved
loop-i-preserved g c =
    let p = λ (t : Told). false_at (g.G.Algebra.meaning c.args.accepted.now.alg.now) c.args.accepted.now.file.now t.body in
    let few : length c.as_slice-equation-items.result.now ≤ 31 = omega (arith, listed_within c.args.accepted.now.outline.now.equations, ap length c.as_slice-equation-items.ensures) in
    let xs = c.as_slice-equation-items.result.now in
    let l = c.loop-i-test.true in
    let x = c.equation-item.result in
    let h = c.loop-i.invariant in
    elim c.if-folds_to_false.branch [
      | then-folds_to_false w ↦ (
        ap (λ (P : Plan). P.fold) w.plan-is ∙ h.0,
        ap (λ (P : Plan). P.equations) w.plan-is ∙ bare_next p xs c.loop-i.i c.loop-i.plan.equations x l (omega arith) c.equation-item.is h.1 _ (sym c.folds_to_false.ensures ∙ w.if-folds_to_false.true),
      )
      | else-folds_to_false w ↦ (
        ap (λ (P : Plan). P.fold) w.plan-is ∙ h.0,
        ap (λ (P : Plan). P.equations) w.plan-is ∙ stay_next p xs c.loop-i.i c.loop-i.plan.equations x l (omega arith) c.equation-item.is h.1 (sym c.folds_to_false.ensures ∙ w.if-folds_to_false.false),
      )
    ]

pub returns : goal.returns
returns g c = λ s short o.
    bared_folds (g.G.Algebra.meaning c.args.accepted.now.alg.now) c.args.accepted.now.file.now s c.args.accepted.now.outline.now c.loop-i.plan c.as_slice-equation-items.result.now c.loop-i.i
    short o c.as_slice-equation-items.ensures c.loop-i-test.false c.loop-i.invariant.0 c.loop-i.invariant.1
