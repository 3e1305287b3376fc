use Rattle.std.proofs.Common.{◌≡◌, ◌<◌, ◌^◌, true, false, inl, inr, length, ◌⊎◌, subst, tests, sym, ap, ap₂, ◌∙◌, rules}
use Rattle.definitions.specs.Bits.{bits}
use Rattle.definitions.specs.Fits.{Every}
use Rattle.bits.proofs.Left.{left_first, left_next, left_end}
use Rattle.passes.specs.Planned.{stays}
use Rattle.passes.proofs.Numbering.{stays_same}
use Rattle.passes.proofs.Masks.{beside, beside_yes, beside_no, beside_end, every_next, left_none, left_same}
use Rattle.passes.proofs.rewrite.write_staying.Goals as goal

pub loop-number-init : goal.loop-number-init
loop-number-init c = λ w h.
    let r = c.into_iter-number-iterator.result in
    let a : r.a.rest.now ≡ c.args.numbers.now = ap (λ z. z.a.rest.now) c.into_iter-number-iterator.ensures.into_iter_gives ∙ ap (λ z. z.rest.now) c.zip-number-items.ensures.first ∙ c.iter.ensures.rest in
    let b : r.b.rest.now ≡ c.args.changes.now = search rules in (
      subst (Every (λ n. n < 2 ^ c.args.width)) (sym a) h,
      left_same (sym (ap₂ (beside (bits c.args.width) stays) b a)) (left_first (beside (bits c.args.width) stays c.args.changes.now c.args.numbers.now) c.args.writer.now),
    )

pub loop-number-preserved-in-Continue-1 : goal.loop-number-preserved-in-Continue-1
loop-number-preserved-in-Continue-1 c = λ w h.
    let f = bits c.args.width in
    let d = c.in-Some.ensures.steps in
    let x = c.in-Some.number.now in
    let i = c.loop-number.invariant w h in
    let small = every_next (λ n. n < 2 ^ c.args.width) x d.0 i.0 in
    let yes : stays c.in-Some.change.now ≡ true = sym (stays_same c.eq.result c.in-Some.change.now (search (rules, tests))) ∙ c.if-eq.true in
    let e = ap₂ (beside f stays) d.1 d.0 ∙ beside_yes f stays c.in-Some.change.now c.next.new.self.b.rest.now x c.next.new.self.a.rest.now yes in
    (small.1, left_next (f x) c.put.new.self (left_same e i.1) (c.in_ok-put.ensures.writes w small.0))

pub returns-in_err-put : goal.returns-in_err-put
returns-in_err-put c = λ w h.
    let f = bits c.args.width in
    let d = c.in-Some.ensures.steps in
    let x = c.in-Some.number.now in
    let xs = c.next.new.self.a.rest.now in
    let cs = c.next.new.self.b.rest.now in
    let i = c.loop-number.invariant w h in
    let small = every_next (λ n. n < 2 ^ c.args.width) x d.0 i.0 in
    let yes : stays c.in-Some.change.now ≡ true = sym (stays_same c.eq.result c.in-Some.change.now (search (rules, tests))) ∙ c.if-eq.true in
    let e = ap₂ (beside f stays) d.1 d.0 ∙ beside_yes f stays c.in-Some.change.now cs x xs yes in
    left_none (f x) (beside f stays cs xs) c.put.new.self c.from_residual.result c.from_residual.ensures.0 (left_same e i.1) (c.in_err-put.ensures.writes w small.0)

pub loop-number-preserved : goal.loop-number-preserved
loop-number-preserved c = λ w h.
    let f = bits c.args.width in
    let d = c.in-Some.ensures.steps in
    let x = c.in-Some.number.now in
    let i = c.loop-number.invariant w h in
    let no : stays c.in-Some.change.now ≡ false = sym (stays_same c.eq.result c.in-Some.change.now (search (rules, tests))) ∙ c.if-eq.false in
    let e = ap₂ (beside f stays) d.1 d.0 ∙ beside_no f stays c.in-Some.change.now c.next.new.self.b.rest.now x c.next.new.self.a.rest.now no in
    ((every_next (λ n. n < 2 ^ c.args.width) x d.0 i.0).1, left_same e i.1)

pub returns : goal.returns
returns c = λ w h.
    let f = bits c.args.width in
    let i = c.loop-number.invariant w h in
    let xs = c.loop-number.number-iterator.a.rest.now in
    let cs = c.loop-number.number-iterator.b.rest.now in
    let at_end : (length xs ≡ 0) ⊎ (length cs ≡ 0) = elim c.in-None.ensures.steps [ inl u ↦ inl u.1.0 | inr u ↦ inr u.1.0 ] in
    left_end (left_same (beside_end f stays cs xs at_end) i.1)
