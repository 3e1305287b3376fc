use Rattle.std.proofs.Common.{ℕ, ◌+◌, not, sym, ap, ◌∙◌, subst, arith}
use Rattle.definitions.specs.Lists.{some}
use Rattle.firstcome.specs.Coming.{listed}
use Rattle.passes.specs.declared.plan.Change.{Change}
use Rattle.passes.specs.declared.plan.Plan.{Plan}
use Rattle.passes.specs.Plans.{change_none}
use Rattle.passes.specs.Comes.{is_number}
use Rattle.passes.proofs.ComingPlans.{Making, making_first, making_was, making_set, making_keep, place_some}
use Rattle.passes.proofs.ComingU.{kept, gone}
use Rattle.passes.proofs.unreachable_equations.plan_keeping.Goals as goal
use Rattle.passes.proofs.unreachable_equations.plan_keeping.Goals.{then-is_none, else-is_none}

pub loop-index-init : goal.loop-index-init
loop-index-init c =
    let f : ℕ → Change = λ i. kept (some (is_number i) (listed c.args.list.now)) in (
      ap (λ (P : Plan). P.fold) c.none-plan.ensures,
      subst (Making f change_none 31 0) (sym (ap (λ (P : Plan). P.equations) c.none-plan.ensures)) (making_first f change_none 31),
    )

pub loop-index-preserved : goal.loop-index-preserved
loop-index-preserved c =
    let f : ℕ → Change = λ i. kept (some (is_number i) (listed c.args.list.now)) in
    let i = c.loop-index.index in
    let cs = c.loop-index.plan.equations in
    let h = c.loop-index.invariant in
    let came = sym (place_some (is_number i) (listed c.args.list.now) c.find.result c.find.ensures) ∙ c.is_none.ensures in
    elim c.if-is_none.branch [
      | then-is_none w ↦
          let no = came ∙ ap not w.if-is_none.true in (
            ap (λ (P : Plan). P.fold) w.plan-is ∙ h.0,
            subst (Making f change_none 31 (i + 1)) (sym (ap (λ (P : Plan). P.equations) w.plan-is))
                (making_set f change_none 31 i cs c.loop-index-test.true h.1 _ (ap gone (making_was f change_none 31 i cs c.loop-index-test.true h.1 _) ∙ ap kept (sym no))),
          )
      | else-is_none w ↦
          let yes_came = came ∙ ap not w.if-is_none.false in (
            ap (λ (P : Plan). P.fold) w.plan-is ∙ h.0,
            subst (Making f change_none 31 (i + 1)) (sym (ap (λ (P : Plan). P.equations) w.plan-is))
                (making_keep f change_none 31 i cs c.loop-index-test.true h.1 (ap kept (sym yes_came))),
          )
    ]

pub returns : goal.returns
returns c = record { fold = c.loop-index.invariant.0; each = λ i l. c.loop-index.invariant.1.made i (omega arith) l }
