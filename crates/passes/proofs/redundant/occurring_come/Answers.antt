use Rattle.std.proofs.Common.{◌≡◌, ◌+◌, ◌<◌, true, length, sym, refl, ap, ◌∙◌, subst, arith}
use Rattle.definitions.specs.ReadSystem.{greatest_depth}
use Rattle.definitions.specs.Passes.{occurs_in}
use Rattle.terms.specs.Shapes.{standing}
use Rattle.terms.specs.Known.{occurs_at}
use Rattle.rows.specs.Listed.{listed}
use Rattle.firstcome.specs.declared.FirstCome.{FirstCome}
use Rattle.passes.specs.declared.redundant.Parameter.{Parameter}
use Rattle.passes.specs.Comes.{Brought, Occurring, parameter}
use Rattle.passes.proofs.Coming.{brought_none, brought_as}
use Rattle.passes.proofs.ComingR.{parameter_fits, parameter_brought, occurring_next, occurring_skip}
use Rattle.passes.proofs.redundant.occurring_come.Goals as goal
use Rattle.passes.proofs.redundant.occurring_come.Goals.{then-occurs+in_ok-ok_or, else-occurs}

pub loop-index-init : goal.loop-index-init
loop-index-init g c = λ t stands p room pass. brought_none p c.args.list.now room (λ x w. let l = w.1 in omega arith)

pub returns-in_err-ok_or : goal.returns-in_err-ok_or
returns-in_err-ok_or g c = λ t stands p room pass.
    let a = g.G.Algebra.meaning c.args.accepted.now.alg.now in
    let i = c.args.numbered.now.number in
    let k = c.loop-index.index in
    let low : k < length (listed c.args.numbered.now.equation.now.header.sorts) = subst (λ n. k < n) c.len-index-end.ensures.count c.loop-index-test.true in
    let there =
    ap (λ bs. occurs_at k (standing a greatest_depth bs c.view.result.at)) c.view.ensures.file ∙ ap (λ q. occurs_at k (standing a greatest_depth c.args.accepted.now.file.now q)) c.view.ensures.place ∙ ap (occurs_at k) stands in
    let occurs : occurs_in k t ≡ true = sym there ∙ sym c.occurs.ensures.value ∙ c.if-occurs.true in
    absurd (parameter_fits i k c.loop-index.list c.come.new.self c.come.result c.in_err-ok_or.ensures.ok_part (c.loop-index.invariant t stands p room pass).room (pass (parameter i k) (k, low, occurs, refl)) c.come.ensures)

pub loop-index-preserved : goal.loop-index-preserved
loop-index-preserved g c = λ t stands p room pass.
    let a = g.G.Algebra.meaning c.args.accepted.now.alg.now in
    let i = c.args.numbered.now.number in
    let k = c.loop-index.index in
    let low : k < length (listed c.args.numbered.now.equation.now.header.sorts) = subst (λ n. k < n) c.len-index-end.ensures.count c.loop-index-test.true in
    let there =
    ap (λ bs. occurs_at k (standing a greatest_depth bs c.view.result.at)) c.view.ensures.file ∙ ap (λ q. occurs_at k (standing a greatest_depth c.args.accepted.now.file.now q)) c.view.ensures.place ∙ ap (occurs_at k) stands in
    let l = c.loop-index.invariant t stands p room pass in
    let goal_at = λ (new : FirstCome Parameter). Brought p (Occurring i (k + 1) t) c.args.list.now new in
    elim c.if-occurs.branch [
      | then-occurs+in_ok-ok_or w ↦
          let occurs : occurs_in k t ≡ true = sym there ∙ sym c.occurs.ensures.value ∙ w.if-occurs.true in
          subst goal_at (sym w.list-is)
          (occurring_next p i t k l w.come.new.self (parameter_brought i k c.loop-index.list w.come.new.self w.come.result w.in_ok-ok_or.field-0 w.in_ok-ok_or.ensures.ok_part l.room (pass (parameter i k) (k, low, occurs, refl)) w.come.ensures))
      | else-occurs w ↦ subst goal_at (sym w.list-is) (occurring_skip p i t k l (sym there ∙ sym c.occurs.ensures.value ∙ w.if-occurs.false))
    ]

pub returns : goal.returns
returns g c = λ t stands p room pass.
    let count = c.len-index-end.ensures.count in
    brought_as p (λ x w. let l = w.1 in (w.0, omega arith, w.2, w.3)) (c.loop-index.invariant t stands p room pass)
