use Rattle.std.proofs.Common.{◌+◌, ◌<◌, not, length, get_or, set, sym, ap, ◌∙◌, arith}
use Rattle.definitions.specs.Solution.{put}
use Rattle.system.specs.declared.header.Sign.TheVariants.{Least}
use Rattle.boolean.specs.Steps.{assigned}
use Rattle.boolean.specs.Ranked.{moves_to}
use Rattle.boolean.specs.Solvers.{variables, sign, block}
use Rattle.boolean.proofs.Merges.{in_below}
use Rattle.boolean.proofs.Below.{start_edge}
use Rattle.boolean.proofs.Sweeping.{count_told, belongs_told, few_entries, begun_set, begun_skip, begun_end, begun_is}
use Rattle.boolean.proofs.solver.Solver.begin.Goals as goal
use Rattle.boolean.proofs.solver.Solver.begin.Goals.{then-belongs, else-belongs}

pub loop-v-preserved : goal.loop-v-preserved
loop-v-preserved c =
    let s = c.args.self.now in
    let b = block s c.args.k in
    let t = not c.moves_to-start.result in
    let h = assigned c.args.truths.now in
    let v = c.loop-v.v in
    let ts = c.loop-v.truths in
    let es = c.as_slice-entry-items in
    let long = ap length es.ensures in
    let told = belongs_told s v c.entry-item.result es.result.now es.ensures c.entry-item.is c.loop-v-test.true c.args.k in
    elim c.if-belongs.branch [
      | then-belongs w ↦
          let z = begun_is b t h (v + 1) c.if-belongs.truths (set ts v t) w.truths-is
          (begun_set b t h v ts c.loop-v.invariant.1 c.loop-v.invariant.2 (sym told ∙ sym c.belongs.ensures ∙ w.if-belongs.true) (omega (arith, c.loop-v.invariant.0, few_entries s.variables.now, c.loop-v-test.true))) in
          (c.if-belongs.array_long, z.0, z.1)
      | else-belongs w ↦
          let z = begun_is b t h (v + 1) c.if-belongs.truths ts w.truths-is
          (begun_skip b t h v ts c.loop-v.invariant.1 c.loop-v.invariant.2 (sym told ∙ sym c.belongs.ensures ∙ w.if-belongs.false)) in
          (c.if-belongs.array_long, z.0, z.1)
    ]

pub returns : goal.returns
returns c =
    let s = c.args.self.now in
    let k = c.args.k in
    let b = block s k in
    let h = assigned c.args.truths.now in
    let long = ap length c.as_slice-entry-items.ensures ∙ count_told s in
    begun_end b (not c.moves_to-start.result) h c.loop-v.v c.loop-v.truths c.loop-v.invariant.1 c.loop-v.invariant.2
    (λ x p. let l : x < length (variables s) = in_below (variables s) s.blocks.now.ranks k x p in omega (arith, c.loop-v-test.false)) ∙
    ap (λ z. put b (λ _. z) h) (ap not (c.moves_to-start.ensures ∙ ap (λ ss. moves_to (get_or ss k Least)) c.as_slice.ensures) ∙ start_edge (sign s k))
