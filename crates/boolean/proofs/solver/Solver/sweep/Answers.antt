use Rattle.std.proofs.Common.{ℕ, ◌<◌, true, false, length, get_or, ap, sym, ◌∙◌, subst, arith}
use Rattle.system.specs.declared.header.Sign.TheVariants.{Least}
use Rattle.rows.specs.Listed.{listed}
use Rattle.boolean.specs.Steps.{assigned}
use Rattle.boolean.specs.Ranked.{moves_to, Swept}
use Rattle.boolean.specs.Solvers.{variables, sign, body, inside}
use Rattle.theorems.proofs.Expands.{variables_mono}
use Rattle.boolean.proofs.Merges.{in_below}
use Rattle.boolean.proofs.Backwards.{rest, front_all, taken}
use Rattle.boolean.proofs.Sweeping.{count_told, few_entries, swept_start, swept_next}
use Rattle.boolean.proofs.solver.Solver.sweep.Goals as goal

pub loop-v-init : goal.loop-v-init
loop-v-init c =
    let s = c.args.self.now in
    let k = c.args.k in
    let all = front_all c.into_iter-v-iterator.ensures.into_iter_gives c.rev-v-items.ensures.source c.enumerate.ensures.source c.enumerate.ensures.count (c.iter.ensures.rest ∙ c.as_slice-2.ensures) in
    let long = ap length all.1 ∙ count_told s in (
      c.told-truths,
      all.0,
      swept_start (sign s k) (body s) (inside s k) (assigned c.args.truths.now) (length (rest c.into_iter-v-iterator.result))
          (λ x h. let l : x < length (variables s) = in_below (variables s) s.blocks.now.ranks k x h in omega (arith, long)),
    )

pub loop-v-preserved-then-visit : goal.loop-v-preserved-then-visit
loop-v-preserved-then-visit c =
    let s = c.args.self.now in
    let k = c.args.k in
    let i = c.loop-v.invariant in
    let z = c.in-Some.ensures.steps in
    let t = taken (listed s.variables.now.entries) c.loop-v.v-iterator c.next.new.self c.in-Some.v c.in-Some.entry.now i.1 z.0 z.1.0 z.1.1 in (
      c.visit.array_long,
      t.front,
      subst (λ (n : ℕ). Swept (sign s k) (body s) (inside s k) n (assigned c.args.truths.now) (assigned c.visit.new.truths) true) (sym t.behind)
          (swept_next (sign s k) (body s) (inside s k) (assigned c.args.truths.now) (variables_mono (variables s)) (length (rest c.loop-v.v-iterator)) c.in-Some.v c.loop-v.truths c.visit.new.truths c.loop-v.changed
          true c.moves_to-to.result t.before (c.moves_to-to.ensures ∙ ap (λ ss. moves_to (get_or ss k Least)) c.as_slice.ensures)
          (omega (arith, t.within, i.0, few_entries s.variables.now)) i.2 c.if-visit.ensures),
    )

pub loop-v-preserved : goal.loop-v-preserved
loop-v-preserved c =
    let s = c.args.self.now in
    let k = c.args.k in
    let i = c.loop-v.invariant in
    let z = c.in-Some.ensures.steps in
    let t = taken (listed s.variables.now.entries) c.loop-v.v-iterator c.next.new.self c.in-Some.v c.in-Some.entry.now i.1 z.0 z.1.0 z.1.1 in (
      c.visit.array_long,
      t.front,
      subst (λ (n : ℕ). Swept (sign s k) (body s) (inside s k) n (assigned c.args.truths.now) (assigned c.visit.new.truths) c.loop-v.changed) (sym t.behind)
          (swept_next (sign s k) (body s) (inside s k) (assigned c.args.truths.now) (variables_mono (variables s)) (length (rest c.loop-v.v-iterator)) c.in-Some.v c.loop-v.truths c.visit.new.truths c.loop-v.changed
          false c.moves_to-to.result t.before (c.moves_to-to.ensures ∙ ap (λ ss. moves_to (get_or ss k Least)) c.as_slice.ensures)
          (omega (arith, t.within, i.0, few_entries s.variables.now)) i.2 c.if-visit.ensures),
    )

pub visit-requires-clause-its : goal.visit-requires-clause-its
visit-requires-clause-its c =
    let z = c.in-Some.ensures.steps in
    let t = taken (listed c.args.self.now.variables.now.entries) c.loop-v.v-iterator c.next.new.self c.in-Some.v c.in-Some.entry.now c.loop-v.invariant.1 z.0 z.1.0 z.1.1 in
    sym (t.there c.in-Some.entry.now)

pub visit-requires-clause-few : goal.visit-requires-clause-few
visit-requires-clause-few c =
    let z = c.in-Some.ensures.steps in
    let t = taken (listed c.args.self.now.variables.now.entries) c.loop-v.v-iterator c.next.new.self c.in-Some.v c.in-Some.entry.now c.loop-v.invariant.1 z.0 z.1.0 z.1.1 in
    omega (arith, t.within)

pub returns : goal.returns
returns c =
    let s = c.args.self.now in
    let k = c.args.k in
    subst (λ (n : ℕ). Swept (sign s k) (body s) (inside s k) n (assigned c.args.truths.now) (assigned c.loop-v.truths) c.loop-v.changed) c.in-None.ensures.steps.1.0 c.loop-v.invariant.2
