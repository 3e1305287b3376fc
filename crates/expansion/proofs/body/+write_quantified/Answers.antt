use Rattle.std.proofs.Common.{◌≡◌, ℕ, ◌+◌, ◌-◌, ◌≤◌, [], ◌∷◌, ◌++◌, map, length, rules, drop, get_or, set, Some, sym, ap, ◌∙◌, subst, arith, length-append}
use lib.ListN.{length-map}
use Rattle.definitions.specs.Lists.{from, up_to}
use Rattle.definitions.specs.Boolean.{inside_form, spread}
use Rattle.rows.specs.Listed.{listed, listed_within}
use Rattle.system.specs.declared.header.Quantified.{Quantified as Kept}
use Rattle.system.specs.declared.header.Quantifier.TheVariants.{Exists}
use Rattle.system.specs.Files.{kept_quantified}
use Rattle.theorems.proofs.Ranges.{size_range}
use Rattle.expansion.specs.Bodies.{Bound}
use Rattle.expansion.proofs.Drafting.{Writing, well, writing_here, writing_next, writing_stop, writing_end}
use Rattle.expansion.proofs.Inside.{form_same}
use Rattle.expansion.proofs.Values.{alike_next, values_all, values_left, values_done, next_variable, over_values, spread_none}
use Rattle.expansion.proofs.body.+write_quantified.Goals as goal

pub returns-then-level-len : goal.returns-then-level-len
returns-then-level-len g t c = λ s e q ps vs short hs qs sorts l b h fits.
    let a = g.G.Algebra.meaning c.args.accepted.now.alg.now in
    let long = ap length qs ∙ length-map (listed c.args.variables.now) kept_quantified in
    let count = c.len.ensures.count in
    let none : length e.quantified ≤ c.args.level = omega arith in
    form_same s (sym (spread_none a e.quantified c.args.level vs (inside_form a e ps) none)) c.args.draft.now c.write_inside.new.draft c.write_inside.result (c.write_inside.ensures s e q ps vs short hs b h fits)

pub loop-value-init : goal.loop-value-init
loop-value-init g t c = λ s e q ps vs short hs qs sorts l b h fits.
    let a = g.G.Algebra.meaning c.args.accepted.now.alg.now in
    let f = λ (n : ℕ). spread a (drop (c.args.level + 1) e.quantified) (vs ++ (n ∷ [])) (inside_form a e ps) in
    let z = c.in_ok-size.size in
    let mid = c.put_parts.new.self in
    subst (λ zs. Writing s [] (map f (up_to z)) (map f zs) mid mid) (values_all z) (writing_here s (map f (up_to z)) mid)

pub overflow_cast-inner : goal.overflow_cast-inner
overflow_cast-inner g t c =
    let a = g.G.Algebra.meaning c.args.accepted.now.alg.now in
    let d : Kept = record { quantifier = Exists; sort = 0 } in
    let v = get_or c.as_slice.result.now c.args.level d in
    let few = (size_range a (g.met.G.Algebra.lawful c.args.accepted.now.alg.now) v.sort c.in_ok-size.size (sym c.size.ensures ∙ c.in_ok-size.ensures.ok_part)).1 in
    record { fits = omega arith }

pub returns-in_err-write_quantified : goal.returns-in_err-write_quantified
returns-in_err-write_quantified g t c = λ s e q ps vs short hs qs sorts l b h fits.
    let a = g.G.Algebra.meaning c.args.accepted.now.alg.now in
    let law = g.met.G.Algebra.lawful c.args.accepted.now.alg.now in
    let d : Kept = record { quantifier = Exists; sort = 0 } in
    let v = get_or c.as_slice.result.now c.args.level d in
    let z = c.in_ok-size.size in
    let sized = sym c.size.ensures ∙ c.in_ok-size.ensures.ok_part in
    let few = (size_range a law v.sort z sized).1 in
    let p = inside_form a e ps in
    let f = λ (n : ℕ). spread a (drop (c.args.level + 1) e.quantified) (vs ++ (n ∷ [])) p in
    let count = c.len.ensures.count in
    let slice = ap length c.as_slice.ensures in
    let next = next_variable a e.quantified c.as_slice.result.now c.args.level d (qs ∙ ap (map kept_quantified) (sym c.as_slice.ensures)) (omega arith) sorts in
    let n = c.loop-value.value in
    let long : length (vs ++ (n ∷ [])) ≡ c.args.level + 1 = length-append vs (n ∷ []) ∙ ap (λ k. k + 1) l in
    let three = listed_within c.args.variables.now in
    let size : length c.args.env.variables ≡ 3 = search rules in
    let inner : Bound ps (vs ++ (n ∷ [])) (record { parameters = c.args.env.parameters; variables = set c.args.env.variables c.args.level (Some n) }) = record { parameters = b.parameters; variables = alike_next c.args.env.variables vs n c.args.level b.variables l (omega arith) } in
    let w = c.loop-value.invariant s e q ps vs short hs qs sorts l b h fits in
    let mid = c.put_parts.new.self in
    let new = c.write_quantified.new.draft in
    let r = c.from_residual-in_err-write_quantified in
    over_values a s e.quantified c.args.level z _ v vs p c.args.draft.now mid new r.result next.is sized c.token_over.ensures (c.put_parts.ensures few)
    (writing_stop s [] (map f (up_to z)) (f n) (map f (from (n + 1) (z - (n + 1)))) mid c.loop-value.draft new new c.in_err-write_quantified.field-0.0 r.result r.ensures.0
    (subst (λ zs. Writing s [] (map f (up_to z)) (map f zs) mid c.loop-value.draft) (values_left n z c.loop-value-test.true) w)
    (c.in_err-write_quantified.ensures s e q ps (vs ++ (n ∷ [])) short hs qs sorts long inner h fits))

pub loop-value-preserved : goal.loop-value-preserved
loop-value-preserved g t c = λ s e q ps vs short hs qs sorts l b h fits.
    let a = g.G.Algebra.meaning c.args.accepted.now.alg.now in
    let f = λ (n : ℕ). spread a (drop (c.args.level + 1) e.quantified) (vs ++ (n ∷ [])) (inside_form a e ps) in
    let n = c.loop-value.value in
    let z = c.in_ok-size.size in
    let long : length (vs ++ (n ∷ [])) ≡ c.args.level + 1 = length-append vs (n ∷ []) ∙ ap (λ k. k + 1) l in
    let w = c.loop-value.invariant s e q ps vs short hs qs sorts l b h fits in
    let count = c.len.ensures.count in
    let three = listed_within c.args.variables.now in
    let size : length c.args.env.variables ≡ 3 = search rules in
    let inner : Bound ps (vs ++ (n ∷ [])) (record { parameters = c.args.env.parameters; variables = set c.args.env.variables c.args.level (Some n) }) = record { parameters = b.parameters; variables = alike_next c.args.env.variables vs n c.args.level b.variables l (omega arith) } in
    let mid = c.put_parts.new.self in
    writing_next s [] (map f (up_to z)) (f n) (map f (from (n + 1) (z - (n + 1)))) mid c.loop-value.draft c.write_quantified.new.draft
    (subst (λ zs. Writing s [] (map f (up_to z)) (map f zs) mid c.loop-value.draft) (values_left n z c.loop-value-test.true) w)
    (c.in_ok-write_quantified.ensures s e q ps (vs ++ (n ∷ [])) short hs qs sorts long inner h fits)

pub returns : goal.returns
returns g t c = λ s e q ps vs short hs qs sorts l b h fits.
    let a = g.G.Algebra.meaning c.args.accepted.now.alg.now in
    let law = g.met.G.Algebra.lawful c.args.accepted.now.alg.now in
    let d : Kept = record { quantifier = Exists; sort = 0 } in
    let v = get_or c.as_slice.result.now c.args.level d in
    let z = c.in_ok-size.size in
    let sized = sym c.size.ensures ∙ c.in_ok-size.ensures.ok_part in
    let few = (size_range a law v.sort z sized).1 in
    let p = inside_form a e ps in
    let f = λ (n : ℕ). spread a (drop (c.args.level + 1) e.quantified) (vs ++ (n ∷ [])) p in
    let count = c.len.ensures.count in
    let slice = ap length c.as_slice.ensures in
    let next = next_variable a e.quantified c.as_slice.result.now c.args.level d (qs ∙ ap (map kept_quantified) (sym c.as_slice.ensures)) (omega arith) sorts in
    let n = c.loop-value.value in
    let m = c.loop-value.auto.value-end in
    let done : n ≡ z = omega arith in
    let none : map f (from n (z - n)) ≡ [] = ap (λ k. map f (from k (z - k))) done ∙ ap (map f) (values_done z) in
    over_values a s e.quantified c.args.level z _ v vs p c.args.draft.now c.put_parts.new.self c.loop-value.draft well next.is sized c.token_over.ensures (c.put_parts.ensures few)
    (writing_end s [] (map f (up_to z)) (map f (from n (z - n))) c.put_parts.new.self c.loop-value.draft (tt {0}) none (c.loop-value.invariant s e q ps vs short hs qs sorts l b h fits))
