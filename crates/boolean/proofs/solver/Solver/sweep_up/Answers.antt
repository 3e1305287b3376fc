use Rattle.std.proofs.Common.{◌<◌, Bool, ◌||◌, length, get_or, ap, sym, ◌∙◌, subst, arith}
use Rattle.system.specs.declared.header.Sign.TheVariants.{Least}
use Rattle.rows.specs.Listed.{listed}
use Rattle.boolean.specs.Steps.{assigned}
use Rattle.boolean.specs.Ranked.{moves_to, Swept}
use Rattle.boolean.specs.Solvers.{variables, sign, body, inside}
use Rattle.theorems.proofs.Expands.{variables_mono}
use Rattle.boolean.proofs.Merges.{in_below}
use Rattle.boolean.proofs.Sweeping.{count_told, few_entries, swept_start, swept_visit}
use Rattle.boolean.proofs.solver.Solver.sweep_up.Goals as goal
use Rattle.boolean.proofs.solver.Solver.sweep_up.Goals.{then-visit, else-visit}

pub loop-v-init : goal.loop-v-init
loop-v-init c =
    let s = c.args.self.now in
    let k = c.args.k in (
      c.told-truths,
      swept_start (sign s k) (body s) (inside s k) (assigned c.args.truths.now) (length (listed s.variables.now.entries))
          (λ x h. let l : x < length (variables s) = in_below (variables s) s.blocks.now.ranks k x h in omega (arith, count_told s)),
    )

pub loop-v-preserved : goal.loop-v-preserved
loop-v-preserved c =
    let s = c.args.self.now in
    let k = c.args.k in
    let i = c.loop-v.invariant in
    let visited = swept_visit (sign s k) (body s) (inside s k) (assigned c.args.truths.now) (variables_mono (variables s)) (length (listed s.variables.now.entries)) c.loop-v.v c.loop-v.truths c.visit.new.truths
    c.loop-v.changed c.visit.result c.moves_to-to.result (c.moves_to-to.ensures ∙ ap (λ ss. moves_to (get_or ss k Least)) c.as_slice.ensures)
    (omega (arith, i.0, few_entries s.variables.now, ap length c.as_slice-entry-items.ensures, c.loop-v-test.true)) i.1 c.visit.ensures in
    let told = λ (r : Bool). Swept (sign s k) (body s) (inside s k) (length (listed s.variables.now.entries)) (assigned c.args.truths.now) (assigned c.visit.new.truths) r in (
      c.visit.array_long,
      elim c.if-visit.branch [
        | then-visit w ↦ subst told (ap (λ r. r || c.loop-v.changed) w.if-visit.true ∙ sym w.changed-is) visited
        | else-visit w ↦ subst told (ap (λ r. r || c.loop-v.changed) w.if-visit.false ∙ sym w.changed-is) visited
      ],
    )
