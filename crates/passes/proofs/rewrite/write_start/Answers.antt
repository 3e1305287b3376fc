use Rattle.std.proofs.Common.{◌≡◌, ℕ, ◌-◌, ◌<◌, List, [], ◌∷◌, ◌++◌, map, length, take, replicate, Some, Option, refl, ap, ◌∙◌, subst, arith}
use Rattle.definitions.specs.Lists.{at, flat, strike, place, or_else}
use Rattle.definitions.specs.Alg.{Alg}
use Rattle.definitions.specs.Bits.{bits}
use Rattle.definitions.specs.ReadSystem.{Header}
use Rattle.definitions.specs.Fits.{Every, ValuesFit, header_of}
use Rattle.bits.specs.Writes.{Wrote, NoRoom, Writes}
use Rattle.bits.proofs.Left.{left_first, left_next}
use Rattle.rows.specs.Listed.{listed, listed_within}
use Rattle.system.specs.declared.outline.Equation.{Equation as Told}
use Rattle.system.specs.Files.{kept_header}
use Rattle.system.proofs.Lists.{at_item}
use Rattle.passes.specs.Planned.{mask, remaining, change_of}
use Rattle.passes.proofs.TermBits.{left_last}
use Rattle.theorems.proofs.Refit.{place_low}
use Rattle.passes.proofs.Masks.{left_none}
use Rattle.passes.proofs.rewrite.write_start.Goals as goal

values_long : (a : Alg) (ss vs : List ℕ) → ValuesFit a ss vs → length ss ≡ length vs
values_long a [] [] h = refl
values_long a [] (v ∷ vs) h = absurd h
values_long a (s ∷ ss) [] h = absurd h
values_long a (s ∷ ss) (v ∷ vs) h = let k = values_long a ss vs h.1 in omega arith

values_small : (a : Alg) (ss vs : List ℕ) → ValuesFit a ss vs → Every (λ n. n < 256) vs
values_small a [] [] h = tt
values_small a [] (v ∷ vs) h = absurd h
values_small a (s ∷ ss) [] h = tt
values_small a (s ∷ ss) (v ∷ vs) h = (h.0.0, values_small a ss vs h.1)

front : (xs ys : List ℕ) → take (length xs) (xs ++ ys) ≡ xs
front [] ys = refl
front (x ∷ xs) ys = ap (λ zs. x ∷ zs) (front xs ys)

pub returns-in_err-put : goal.returns-in_err-put
returns-in_err-put g c = λ s o f.
    let P = c.args.plan.now in
    let out = c.args.accepted.now.outline.now in
    let w = c.args.writer.now in
    let there = out.present in
    let within = listed_within out.equations in
    let least = place_low (remaining P) out.start.equation in
    let number : c.number_of.result ≡ place (remaining P) out.start.equation = c.number_of.ensures in
    let rest = flat (map (bits 8) (strike (mask (change_of P s.start)) s.values)) in
    let r = c.from_residual in
    left_none (bits 5 (place (remaining P) s.start)) rest c.put.new.self r.result r.ensures.0 (left_first (bits 5 (place (remaining P) s.start) ++ rest) w)
    (subst (λ (k : ℕ). NoRoom (bits 5 k) w) (number ∙ ap (place (remaining P)) o.start) (c.in_err-put.ensures.writes (omega arith) (omega arith)))

pub returns : goal.returns
returns g c = λ s o f.
    let a = g.G.Algebra.meaning c.args.accepted.now.alg.now in
    let P = c.args.plan.now in
    let out = c.args.accepted.now.outline.now in
    let w = c.args.writer.now in
    let there = out.present in
    let within = listed_within out.equations in
    let least = place_low (remaining P) out.start.equation in
    let number : c.number_of.result ≡ place (remaining P) out.start.equation = c.number_of.ensures in
    let rest = flat (map (bits 8) (strike (mask (change_of P s.start)) s.values)) in
    let l = left_next {rest = rest} (bits 5 (place (remaining P) s.start)) c.put.new.self (left_first (bits 5 (place (remaining P) s.start) ++ rest) w)
    (subst (λ (k : ℕ). Wrote (bits 5 k) w c.put.new.self) (number ∙ ap (place (remaining P)) o.start) (c.in_ok-put.ensures.writes (omega arith) (omega arith))) in
    let x = c.index-as_slice-number.result in
    let i = out.start.equation in
    let it = subst (λ (xs : List Told). Some (kept_header x.header) ≡ at (map (λ (e : Told). kept_header e.header) xs) i) c.as_slice.ensures (at_item (λ (e : Told). kept_header e.header) c.as_slice.result.now i x (rw c.as_slice.ensures there) c.index-as_slice-number.is) in
    let head : Some (kept_header x.header) ≡ Some f.header = it ∙ ap (λ (hs : List Header). at hs i) o.headers ∙ ap (at (map header_of s.equations)) o.start ∙ f.there in
    let same : listed x.header.sorts ≡ f.header.sorts = ap (λ (o : Option Header). (or_else o f.header).sorts) head in
    let long : c.len.result - 0 ≡ length s.values = (let k = values_long a f.header.sorts s.values f.values in let m = ap length same in let n = c.len.ensures.count in omega arith) in
    let values : take (c.len.result - 0) out.start.values ≡ s.values = ap (λ k. take k out.start.values) long ∙ ap (take (length s.values)) o.values ∙ front s.values (replicate (15 - length s.values) 0) in
    let y = c.write_staying in
    let bytes = subst (λ (vs : List ℕ). Every (λ n. n < 256) vs → Writes (flat (map (bits 8) (strike (mask (change_of P i)) vs))) c.put.new.self y.new.writer y.result) values (y.ensures (omega arith)) (values_small a f.header.sorts s.values f.values) in
    left_last rest y.new.writer y.result l (subst (λ (k : ℕ). Writes (flat (map (bits 8) (strike (mask (change_of P k)) s.values))) c.put.new.self y.new.writer y.result) o.start bytes)
