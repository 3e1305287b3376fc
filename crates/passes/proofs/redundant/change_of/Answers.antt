use Rattle.std.proofs.Common.{ℕ, ◌+◌, not, sym, ap, ◌∙◌, subst, arith}
use Rattle.definitions.specs.Lists.{some}
use Rattle.firstcome.specs.Coming.{listed}
use Rattle.passes.specs.declared.plan.ParameterChange.{ParameterChange}
use Rattle.passes.specs.declared.plan.ParameterChange.TheVariants.{Stays}
use Rattle.passes.specs.declared.plan.Change.{Change}
use Rattle.passes.specs.Comes.{is_parameter}
use Rattle.passes.proofs.ComingPlans.{Making, making_first, making_set, making_keep, place_some}
use Rattle.passes.proofs.ComingR.{stayed}
use Rattle.passes.proofs.redundant.change_of.Goals as goal
use Rattle.passes.proofs.redundant.change_of.Goals.{then-is_none, else-is_none}

pub loop-index-init : goal.loop-index-init
loop-index-init c =
    let f : ℕ → ParameterChange = λ k. stayed (some (is_parameter c.args.equation k) (listed c.args.list.now)) in (
      ap (λ (x : Change). x.equation) c.none-change.ensures,
      subst (Making f Stays 15 0) (sym (ap (λ (x : Change). x.parameters) c.none-change.ensures)) (making_first f Stays 15),
    )

pub loop-index-preserved : goal.loop-index-preserved
loop-index-preserved c =
    let f : ℕ → ParameterChange = λ k. stayed (some (is_parameter c.args.equation k) (listed c.args.list.now)) in
    let k = c.loop-index.index in
    let cs = c.loop-index.change.parameters in
    let h = c.loop-index.invariant in
    let came = sym (place_some (is_parameter c.args.equation k) (listed c.args.list.now) c.find.result c.find.ensures) ∙ c.is_none.ensures in
    elim c.if-is_none.branch [
      | then-is_none w ↦ (
        ap (λ (x : Change). x.equation) w.change-is ∙ h.0,
        subst (Making f Stays 15 (k + 1)) (sym (ap (λ (x : Change). x.parameters) w.change-is))
            (making_set f Stays 15 k cs c.loop-index-test.true h.1 _ (ap stayed (sym (came ∙ ap not w.if-is_none.true)))),
      )
      | else-is_none w ↦ (
        ap (λ (x : Change). x.equation) w.change-is ∙ h.0,
        subst (Making f Stays 15 (k + 1)) (sym (ap (λ (x : Change). x.parameters) w.change-is))
            (making_keep f Stays 15 k cs c.loop-index-test.true h.1 (ap stayed (sym (came ∙ ap not w.if-is_none.false)))),
      )
    ]

pub returns : goal.returns
returns c = record { equation = c.loop-index.invariant.0; each = λ k l. c.loop-index.invariant.1.made k (omega arith) l }
