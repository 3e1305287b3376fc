use Rattle.std.proofs.Common.{◌≡◌, ℕ, ◌+◌, ◌*◌, ◌^◌, ◌<◌, ◌≤◌, ltb, List, length, get_or, drop, ap, ◌∙◌, arith, rules}
use Rattle.std.proofs.lemmas.Bool.{ltb-true}
use Rattle.definitions.specs.Lists.{product}
use Rattle.definitions.specs.Alg.{sized}
use Rattle.algebra.specs.Places.{each_at, sized_at, sized_long, product_next, product_small, power_le}
use Rattle.algebra.proofs.table.file.lists.Goals as goal

pub bounds-sizes-sort : goal.bounds-sizes-sort
bounds-sizes-sort c =
    let ss : List ℕ = c.args.sorts.now in
    let k = c.loop-sort.sort-index in
    ltb-true (get_or ss k 0) (length c.args.sizes.now) (each_at (λ s. ltb s (length c.args.sizes.now)) ss k c.requires.known (omega arith))

pub overflow_mul-total : goal.overflow_mul-total
overflow_mul-total c =
    let k = c.loop-sort.sort-index in
    let t = c.loop-sort.total in
    let z = get_or c.args.sizes.now (get_or c.args.sorts.now k 0) 0 in
    let hz : z < 65536 = search rules in
    let h : t * z ≤ 2 ^ 48 = power_le (k + 1) (t * z) (omega arith) (product_small t z k c.loop-sort.invariant.0 (omega arith)) in
    record { fits = (let i : t * z < 2 ^ 64 = omega arith in i) }

pub loop-sort-preserved : goal.loop-sort-preserved
loop-sort-preserved c =
    let ss : List ℕ = c.args.sorts.now in
    let zs : List ℕ = sized c.args.sizes.now ss in
    let k = c.loop-sort.sort-index in
    let t = c.loop-sort.total in
    let z = get_or c.args.sizes.now (get_or ss k 0) 0 in
    let hz : z < 65536 = search rules in
    let l : length zs ≡ length ss = sized_long c.args.sizes.now ss in
    let e : get_or zs k 0 ≡ z = sized_at c.args.sizes.now ss k (omega arith) in (
      product_small t z k c.loop-sort.invariant.0 (omega arith),
      c.loop-sort.invariant.1 ∙ product_next zs k t (omega arith) ∙ ap (λ (m : ℕ). t * m * product (drop (k + 1) zs)) e,
    )
