use Rattle.std.proofs.Common.{◌≡◌, ℕ, ◌+◌, ◌*◌, ◌^◌, suc, ◌<◌, Bool, true, false, ◌&&◌, ltb, List, [], ◌∷◌, ◌++◌, length, get_or, Some, None, Option, sym, ap, ◌∙◌, ap₂, subst, arith, rules, length-append}
use Rattle.std.proofs.lemmas.Bool.{ltb-true, lt-ltb, le-ltb}
use Rattle.definitions.specs.Lists.{each}
use Rattle.definitions.specs.Alg.{within, sized}
use Rattle.definitions.specs.Tables.{place_of}
use Rattle.algebra.specs.Lists.{each_cons}
use Rattle.algebra.specs.Places.{sized_long, within_uneven, place_small, power}
use Rattle.algebra.proofs.table.calls.place_of.Goals as goal

answer : (b : Bool) (p : ℕ) → b ≡ false → ◌≡◌ {A = Option ℕ} None (elim b [ true ↦ Some p | false ↦ None ])
answer b p e = sym (ap (λ (b : Bool). elim b [ true ↦ Some p | false ↦ None ]) e)

pub returns-then-args-sorts : goal.returns-then-args-sorts
returns-then-args-sorts c =
    let zs : List ℕ = sized c.args.sizes.now c.args.sorts.now in
    let xs : List ℕ = c.args.args.now in
    let l : length zs ≡ length c.args.sorts.now = sized_long c.args.sizes.now c.args.sorts.now in
    answer (within zs xs) (place_of 0 zs xs) (within_uneven zs xs (λ e. omega arith))

fits48 : (k n z x : ℕ) → k < 3 → n < 65536 ^ k → x < z → z < 65536 → n * z + x < 2 ^ 48
fits48 k n z x h hn hx hz = power (k + 1) (n * z + x) (omega arith) (place_small n z x k hn hx (omega arith))

pub bounds-sizes-sort : goal.bounds-sizes-sort
bounds-sizes-sort c =
    let n = length c.args.sizes.now in
    let p : ℕ → Bool = λ s. ltb s n in
    let s = c.in-Some.sort.now in
    ltb-true s n (each_cons p s c.next.new.self.a.rest.now (sym (ap (each p) c.in-Some.ensures.steps.0) ∙ c.loop-sort.invariant.known)).0

pub returns-then-arg-size : goal.returns-then-arg-size
returns-then-arg-size c =
    let sizes = c.args.sizes.now in
    let d = c.in-Some.ensures.steps in
    let i = c.loop-sort.invariant in
    let sorts = c.next.new.self.a.rest.now in
    let args = c.next.new.self.b.rest.now in
    let done = length c.loop-sort.yielded in
    let n = c.loop-sort.place in
    let x = c.in-Some.arg.now in
    let z = get_or sizes c.in-Some.sort.now 0 in
    let zs : List ℕ = sized sizes c.args.sorts.now in
    let xs : List ℕ = c.args.args.now in
    let e : ltb x z ≡ false = le-ltb x z (omega arith) in
    answer (within zs xs) (place_of 0 zs xs)
    (i.inside ∙ ap₂ (λ (a b : List ℕ). within (sized sizes a) b) d.0 d.1 ∙ ap (λ (b : Bool). b && within (sized sizes sorts) args) e)

pub overflow_mul-place : goal.overflow_mul-place
overflow_mul-place c =
    let z = get_or c.args.sizes.now c.in-Some.sort.now 0 in
    let hz : z < 65536 = search rules in
    let l : length c.loop-sort.sort-iterator.a.rest.now ≡ suc (length c.next.new.self.a.rest.now) = ap (λ (l : List ℕ). length l) c.in-Some.ensures.steps.0 in
    let few = c.loop-sort.invariant.few in
    let small : c.loop-sort.place * z + c.in-Some.arg.now < 2 ^ 48 = fits48 (length c.loop-sort.yielded) c.loop-sort.place z c.in-Some.arg.now (omega arith) c.loop-sort.invariant.small (omega arith) hz in
    record { fits = (let h : c.loop-sort.place * z < 2 ^ 64 = omega arith in h) }

pub overflow_add-place : goal.overflow_add-place
overflow_add-place c =
    let z = get_or c.args.sizes.now c.in-Some.sort.now 0 in
    let hz : z < 65536 = search rules in
    let l : length c.loop-sort.sort-iterator.a.rest.now ≡ suc (length c.next.new.self.a.rest.now) = ap (λ (l : List ℕ). length l) c.in-Some.ensures.steps.0 in
    let few = c.loop-sort.invariant.few in
    let small : c.loop-sort.place * z + c.in-Some.arg.now < 2 ^ 48 = fits48 (length c.loop-sort.yielded) c.loop-sort.place z c.in-Some.arg.now (omega arith) c.loop-sort.invariant.small (omega arith) hz in
    record { fits = (let h : c.loop-sort.place * z + c.in-Some.arg.now < 2 ^ 64 = omega arith in h) }

pub loop-sort-preserved : goal.loop-sort-preserved
loop-sort-preserved c =
    let sizes = c.args.sizes.now in
    let d = c.in-Some.ensures.steps in
    let i = c.loop-sort.invariant in
    let sorts = c.next.new.self.a.rest.now in
    let args = c.next.new.self.b.rest.now in
    let done = length c.loop-sort.yielded in
    let n = c.loop-sort.place in
    let x = c.in-Some.arg.now in
    let z = get_or sizes c.in-Some.sort.now 0 in
    let p : ℕ → Bool = λ s. ltb s (length sizes) in
    let hz : z < 65536 = search rules in
    let la : length c.loop-sort.sort-iterator.a.rest.now ≡ suc (length sorts) = ap (λ (l : List ℕ). length l) d.0 in
    let lb : length c.loop-sort.sort-iterator.b.rest.now ≡ suc (length args) = ap (λ (l : List ℕ). length l) d.1 in
    let ly : length (c.loop-sort.yielded ++ ((c.in-Some.sort, c.in-Some.arg) ∷ [])) ≡ done + 1 = length-append c.loop-sort.yielded ((c.in-Some.sort, c.in-Some.arg) ∷ []) in
    let few = i.few in
    let even = i.even in
    let e : ltb x z ≡ true = lt-ltb x z (omega arith) in
    record {
      small = subst (λ (k : ℕ). n * z + x < 65536 ^ k) (sym ly) (place_small n z x done i.small (omega arith) (omega arith));
      few = omega arith;
      even = omega arith;
      known = (each_cons p c.in-Some.sort.now sorts (sym (ap (each p) d.0) ∙ i.known)).1;
      inside = i.inside ∙ ap₂ (λ (a b : List ℕ). within (sized sizes a) b) d.0 d.1 ∙ ap (λ (b : Bool). b && within (sized sizes sorts) args) e;
      place = i.place ∙ ap₂ (λ (a b : List ℕ). place_of n (sized sizes a) b) d.0 d.1;
    }
