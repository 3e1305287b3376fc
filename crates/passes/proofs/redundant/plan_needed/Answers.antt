use Rattle.std.proofs.Common.{◌≡◌, ◌≤◌, length, sym, ap, subst}
use Rattle.passes.specs.Comes.{wanted}
use Rattle.passes.proofs.Coming.{fresh_room}
use Rattle.passes.proofs.ComingPlans.{outlined_fits}
use Rattle.passes.proofs.ComingR.{few_wanted, needing_wanted}
use Rattle.passes.proofs.redundant.plan_needed.Goals as goal

pub returns-in_err-needed_come : goal.returns-in_err-needed_come
returns-in_err-needed_come g c = λ s short out.
    let a = g.G.Algebra.meaning c.args.accepted.now.alg.now in
    let fit = outlined_fits a (g.met.G.Algebra.lawful c.args.accepted.now.alg.now) c.args.accepted.now.file.now s c.args.accepted.now.outline.now out in
    let long : length c.new-list.result.items.now ≡ 465 = ap length c.new-list.ensures.same in
    let room = fresh_room (wanted s) c.new-list.result c.new-list.ensures.none (λ xs once pass. subst (λ n. length xs ≤ n) (sym long) (few_wanted a s fit xs once pass)) in
    absurd (c.in_err-needed_come.ensures s short out fit room)

pub returns : goal.returns
returns g c = λ s short out.
    let a = g.G.Algebra.meaning c.args.accepted.now.alg.now in
    let fit = outlined_fits a (g.met.G.Algebra.lawful c.args.accepted.now.alg.now) c.args.accepted.now.file.now s c.args.accepted.now.outline.now out in
    let long : length c.new-list.result.items.now ≡ 465 = ap length c.new-list.ensures.same in
    let room = fresh_room (wanted s) c.new-list.result c.new-list.ensures.none (λ xs once pass. subst (λ n. length xs ≤ n) (sym long) (few_wanted a s fit xs once pass)) in
    needing_wanted a s c.plan_needing.result fit (c.in_ok-needed_come.ensures s short out fit room) c.plan_needing.ensures
