use Rattle.std.proofs.Common.{◌≡◌, ℕ, None, ◌+◌, ◌-◌, length, refl, ap, ◌∙◌, subst, arith}
use lib.ListN.{get_or-replicate}
use Rattle.boolean.specs.Ranked.{Merged}
use Rattle.boolean.proofs.Merges.{merged_none, rank_unused}
use Rattle.boolean.proofs.Backwards.{rest, front_all, taken}
use Rattle.boolean.proofs.merging.blocks_of.Goals as goal

pub loop-rank-init : goal.loop-rank-init
loop-rank-init c =
    let all = front_all c.into_iter-rank-iterator.ensures.into_iter_gives c.rev-rank-items.ensures.source c.enumerate.ensures.source c.enumerate.ensures.count c.iter.ensures.rest in
    let n = ap length all.1 in
    let k : 32 - length (rest c.into_iter-rank-iterator.result) ≡ 0 = omega arith in
    (all.0, merged_none c.args.signs.now _ _ k refl c.new.ensures (λ r l. get_or-replicate 32 r 32 0 l))

pub loop-rank-preserved-in-Some-sign : goal.loop-rank-preserved-in-Some-sign
loop-rank-preserved-in-Some-sign c =
    let ss = c.args.signs.now in
    let v = c.loop-rank.invariant in
    let z = c.in-Some.ensures.steps in
    let t = taken ss c.loop-rank.rank-iterator c.next.new.self c.in-Some.rank c.in-Some.sign.now v.0 z.0 z.1.0 z.1.1 in
    let k : 32 - length (rest c.loop-rank.rank-iterator) + 1 ≡ 32 - length (rest c.next.new.self) = omega (arith, t.before, t.behind, t.within) in (
      t.front,
      subst (λ (n : ℕ). Merged ss n c.put_rank.new.all) k
          (c.put_rank.ensures ss (32 - length (rest c.loop-rank.rank-iterator)) v.1 (omega (arith, t.before, t.within)) (t.there None ∙ c.in-Some-sign.is)),
    )

pub loop-rank-preserved : goal.loop-rank-preserved
loop-rank-preserved c =
    let ss = c.args.signs.now in
    let v = c.loop-rank.invariant in
    let z = c.in-Some.ensures.steps in
    let t = taken ss c.loop-rank.rank-iterator c.next.new.self c.in-Some.rank c.in-Some.sign.now v.0 z.0 z.1.0 z.1.1 in
    let k : 32 - length (rest c.loop-rank.rank-iterator) + 1 ≡ 32 - length (rest c.next.new.self) = omega (arith, t.before, t.behind, t.within) in (
      t.front,
      subst (λ (n : ℕ). Merged ss n c.loop-rank.all) k
          (rank_unused ss (32 - length (rest c.loop-rank.rank-iterator)) c.in-Some.rank c.loop-rank.all v.1 (omega (arith, t.before, t.within)) (t.there None ∙ c.in_default.is)),
    )

pub returns : goal.returns
returns c =
    let k : 32 - length (rest c.loop-rank.rank-iterator) ≡ 32 = ap (λ n. 32 - n) c.in-None.ensures.steps.1.0 in
    (subst (λ (n : ℕ). Merged c.args.signs.now n c.loop-rank.all) k c.loop-rank.invariant.1).alike
