use Rattle.std.proofs.Common.{◌≡◌, List, ◌++◌, map, length, take, drop, sym, refl, ap, ◌∙◌, subst, arith}
use Rattle.std.proofs.lemmas.Grind.{merely}
use Rattle.rows.specs.Listed.{listed}
use Rattle.definitions.specs.Algebras.{truth}
use Rattle.definitions.specs.Boolean.{Variable}
use Rattle.boolean.specs.Files.{Described}
use Rattle.boolean.specs.Ranked.{variables_of}
use Rattle.boolean.proofs.Entering.{all_kept_long}
use Rattle.boolean.proofs.Sweeping.{few_entries}
use Rattle.boolean.proofs.Answering.{got_small, variables_of_lem, signed, solution_bytes, no_room, finds, from_nothing, front_part}
use Rattle.boolean.proofs.solving.solve.Goals as goal

pub returns-then-truths-count : goal.returns-then-truths-count
returns-then-truths-count c =
    let f = c.args.file.now in
    let v = c.in_ok-variables.variables in
    let r = c.in_ok-variables.ensures in
    let n : length c.as_slice-count.result.now ≡ length r.0 = ap length c.as_slice-count.ensures ∙ all_kept_long f (length r.0) r.0 (listed v.entries) r.1.1.entries in
    record { why = no_room f r.0 (length c.args.truths.now) r.1.0 (omega (arith, c.if-truths-count.true)); kept = refl }

pub invariant_of-solver : goal.invariant_of-solver
invariant_of-solver c =
    let f = c.args.file.now in
    let r = c.in_ok-variables.ensures in
    record {
      short = omega (arith, got_small f r.0 r.1.0);
      described = merely (subst (λ (ws : List Variable). Described f ws c.in_ok-variables.variables) (sym (variables_of_lem f r.0 r.1.0)) r.1.1);
    }

pub returns : goal.returns
returns c =
    let f = c.args.file.now in
    let v = c.in_ok-variables.variables in
    let r = c.in_ok-variables.ensures in
    let vs = r.0 in
    let b = c.blocks_of-blocks.result in
    let ts = c.solve_below.new.truths in
    let before = c.args.truths.now in
    let m = length c.as_slice-count.result.now in
    let e = ap length c.as_slice-count.ensures in
    let few = few_entries v in
    let n : m ≡ length vs = e ∙ all_kept_long f (length vs) vs (listed v.entries) r.1.1.entries in
    let h = from_nothing vs (variables_of f) b c.as_slice.result.now ts 4096 (variables_of_lem f vs r.1.0) c.as_slice.ensures c.solve_below.ensures in
    finds f vs m before c.deliver.new.truths r.1.0 n (omega (arith, c.if-truths-count.false))
    (c.deliver.ensures ∙ front_part ts before m (omega (arith, c.solve_below.array_long)) ∙ ap (λ xs. xs ++ drop m before)
    (ap (λ m. map truth (take m ts)) n ∙ solution_bytes vs b ts (c.blocks_of-blocks.ensures vs (signed f vs v r.1.1)) (omega (arith, c.solve_below.array_long)) h))
