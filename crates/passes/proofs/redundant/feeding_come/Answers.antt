use Rattle.std.proofs.Common.{◌+◌, length, get_or, sym, ap, ◌∙◌, subst, arith}
use Rattle.definitions.specs.ReadSystem.{greatest_depth}
use Rattle.theorems.proofs.Listing.{at_some}
use Rattle.terms.specs.Shapes.{standing}
use Rattle.rows.specs.Listed.{listed}
use Rattle.firstcome.specs.declared.FirstCome.{FirstCome}
use Rattle.firstcome.specs.Coming.{listed as came}
use Rattle.passes.specs.declared.redundant.Parameter.{Parameter}
use Rattle.passes.specs.Comes.{Has, Brought, parameter, is_parameter}
use Rattle.passes.proofs.ComingPlans.{place_some}
use Rattle.passes.proofs.Coming.{Front, brought_none, brought_as, front_first, front_next, front_end}
use Rattle.passes.proofs.ComingR.{Fed, came_parameter, not_come}
use Rattle.passes.proofs.redundant.feeding_come.Goals as goal
use Rattle.passes.proofs.redundant.feeding_come.Goals.{then-is_some+in_ok-occurring_come, else-is_some}

pub loop-index-init : goal.loop-index-init
loop-index-init g c = λ o q of p room pass.
    let i = c.args.numbered.now.number in
    let n = length (listed c.args.numbered.now.equation.now.header.sorts) in
    front_first p (Fed i n o (Has (came c.args.list.now))) o.arguments c.args.list.now room

pub returns-in_err-occurring_come : goal.returns-in_err-occurring_come
returns-in_err-occurring_come g c = λ o q of p room pass.
    let a = g.G.Algebra.meaning c.args.accepted.now.alg.now in
    let f = c.args.accepted.now.file.now in
    let i = c.args.numbered.now.number in
    let n = length (listed c.args.numbered.now.equation.now.header.sorts) in
    let j = c.loop-index.index in
    let xs = c.as_slice-argument-items.result.now in
    let rows = c.as_slice-argument-items.ensures in
    let long = ap length rows in
    let t = at_some o.arguments j (omega (arith, of.count)) in
    let stands = ap (λ ps. standing a greatest_depth f (get_or ps j 0)) rows ∙ of.arguments j t.0 t.1 in
    let l = c.loop-index.invariant o q of p room pass in
    let same = is_parameter c.args.occurrence.now.target j in
    let asked = place_some same (came c.loop-index.list) c.find.result c.find.ensures in
    let has = came_parameter c.args.occurrence.now.target o.target j (came c.loop-index.list) of.target (sym asked ∙ sym c.is_some.ensures ∙ c.if-is_some.true) in
    absurd (c.in_err-occurring_come.ensures t.0 stands p l.room (λ x w. pass x (j, t.0, t.1, l.room.pass has.0 (parameter o.target j) has.1, w)))

pub loop-index-preserved : goal.loop-index-preserved
loop-index-preserved g c = λ o q of p room pass.
    let a = g.G.Algebra.meaning c.args.accepted.now.alg.now in
    let f = c.args.accepted.now.file.now in
    let i = c.args.numbered.now.number in
    let n = length (listed c.args.numbered.now.equation.now.header.sorts) in
    let j = c.loop-index.index in
    let xs = c.as_slice-argument-items.result.now in
    let rows = c.as_slice-argument-items.ensures in
    let long = ap length rows in
    let t = at_some o.arguments j (omega (arith, of.count)) in
    let stands = ap (λ ps. standing a greatest_depth f (get_or ps j 0)) rows ∙ of.arguments j t.0 t.1 in
    let l = c.loop-index.invariant o q of p room pass in
    let same = is_parameter c.args.occurrence.now.target j in
    let asked = place_some same (came c.loop-index.list) c.find.result c.find.ensures in
    let W = Fed i n o (Has (came c.args.list.now)) in
    let goal_at = λ (new : FirstCome Parameter). Brought p (Front W o.arguments (j + 1)) c.args.list.now new in
    elim c.if-is_some.branch [
      | then-is_some+in_ok-occurring_come w ↦
          let has = came_parameter c.args.occurrence.now.target o.target j (came c.loop-index.list) of.target (sym asked ∙ sym c.is_some.ensures ∙ w.if-is_some.true) in
          let b = w.in_ok-occurring_come.ensures t.0 stands p l.room (λ x w. pass x (j, t.0, t.1, l.room.pass has.0 (parameter o.target j) has.1, w)) in
          subst goal_at (sym w.list-is) (front_next p W o.arguments j t.0 t.1 l (brought_as p (λ x h. h.1) b))
      | else-is_some w ↦
          let un = not_come c.args.occurrence.now.target o.target j (came c.loop-index.list) of.target (sym asked ∙ sym c.is_some.ensures ∙ w.if-is_some.false) in
          subst goal_at (sym w.list-is) (front_next p W o.arguments j t.0 t.1 l (brought_none p c.loop-index.list l.room (λ x h. un (h.0.0, l.kept h.0.0 (parameter o.target j) h.0.1))))
    ]

pub returns : goal.returns
returns g c = λ o q of p room pass.
    let i = c.args.numbered.now.number in
    let n = length (listed c.args.numbered.now.equation.now.header.sorts) in
    let long = ap length c.as_slice-argument-items.ensures in
    front_end p (Fed i n o (Has (came c.args.list.now))) o.arguments c.loop-index.index (omega (arith, of.count)) (λ x w. (w.0, w.1, w.2, (w.3, w.4))) (c.loop-index.invariant o q of p room pass)
