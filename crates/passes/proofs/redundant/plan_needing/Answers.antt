use Rattle.std.proofs.Common.{length, ap, ◌∙◌, arith}
use Rattle.std.proofs.lemmas.List.{length-set}
use Rattle.definitions.specs.Lists.{some}
use Rattle.firstcome.specs.Coming.{listed}
use Rattle.passes.specs.declared.plan.Plan.{Plan}
use Rattle.passes.specs.Comes.{is_parameter, Staying}
use Rattle.passes.proofs.ComingPlans.{each_next}
use Rattle.passes.proofs.redundant.plan_needing.Goals as goal

pub loop-equation-init : goal.loop-equation-init
loop-equation-init c = (ap (λ (P : Plan). P.fold) c.none-plan.ensures, ap (λ (P : Plan). length P.equations) c.none-plan.ensures, λ j l. absurd (omega arith))

pub loop-equation-preserved : goal.loop-equation-preserved
loop-equation-preserved c =
    let h = c.loop-equation.invariant in
    let long = h.1 in (
      h.0,
      length-set c.loop-equation.plan.equations c.loop-equation.equation c.change_of.result ∙ long,
      each_next (λ i. Staying (λ k. some (is_parameter i k) (listed c.args.list.now))) c.loop-equation.equation c.loop-equation.plan.equations c.change_of.result (omega arith) h.2 c.change_of.ensures,
    )

pub returns : goal.returns
returns c = record { fold = c.loop-equation.invariant.0; each = λ i l. c.loop-equation.invariant.2 i (omega arith) }
