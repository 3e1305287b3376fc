use Rattle.std.proofs.Common.{◌≡◌, ◌≤◌, length, sym, ap, subst, arith}
use Rattle.rows.specs.Listed.{listed_within}
use Rattle.passes.specs.Comes.{reached}
use Rattle.passes.proofs.Coming.{fresh_room}
use Rattle.passes.proofs.ComingPlans.{outlined_fits}
use Rattle.passes.proofs.ComingU.{few_reached, keeping_reached}
use Rattle.passes.proofs.unreachable_equations.plan_reachable.Goals as goal

pub returns-in_err-reached_come : goal.returns-in_err-reached_come
returns-in_err-reached_come g c = λ s short out.
    let a = g.G.Algebra.meaning c.args.accepted.now.alg.now in
    let fit = outlined_fits a (g.met.G.Algebra.lawful c.args.accepted.now.alg.now) c.args.accepted.now.file.now s c.args.accepted.now.outline.now out in
    let few = listed_within c.args.accepted.now.outline.now.equations in
    let long : length c.new-list.result.items.now ≡ 31 = ap length c.new-list.ensures.same in
    let room = fresh_room (reached s) c.new-list.result c.new-list.ensures.none (λ xs once pass. subst (λ n. length xs ≤ n) (sym long) (few_reached s 31 (omega (arith, out.count)) xs once pass)) in
    absurd (c.in_err-reached_come.ensures s short out fit room)

pub returns : goal.returns
returns g c = λ s short out.
    let a = g.G.Algebra.meaning c.args.accepted.now.alg.now in
    let fit = outlined_fits a (g.met.G.Algebra.lawful c.args.accepted.now.alg.now) c.args.accepted.now.file.now s c.args.accepted.now.outline.now out in
    let few = listed_within c.args.accepted.now.outline.now.equations in
    let long : length c.new-list.result.items.now ≡ 31 = ap length c.new-list.ensures.same in
    let room = fresh_room (reached s) c.new-list.result c.new-list.ensures.none (λ xs once pass. subst (λ n. length xs ≤ n) (sym long) (few_reached s 31 (omega (arith, out.count)) xs once pass)) in
    keeping_reached a s c.plan_keeping.result fit (c.in_ok-reached_come.ensures s short out fit room) c.plan_keeping.ensures
