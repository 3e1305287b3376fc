-- The equation of an instance in the file, and the variable that is written of it.
use denote.Enum.Declared.{tag_of}
use Rattle.std.proofs.Common.{◌≡◌, ℕ, zero, suc, ◌-◌, ◌<◌, List, [], ◌∷◌, ◌++◌, map, length, get_or, take, replicate, Some, None, Option, Result, Bor, IfSome, sym, refl, ap, ◌∙◌, subst, append_assoc, arith}
use Rattle.definitions.specs.Lists.{at}
use Rattle.definitions.specs.Alg.{Alg}
use Rattle.definitions.specs.Bits.{bits}
use Rattle.definitions.specs.Systems.{Quantified, Equation, System}
use Rattle.definitions.specs.Reading.{next}
use Rattle.definitions.specs.ReadSystem.{Header, read_body}
use Rattle.definitions.specs.Written.{sign_bits}
use Rattle.definitions.specs.Truth.{Instance}
use Rattle.definitions.specs.Boolean.{vars, spread, inside_form, equation_form, form, form_bits, renamed, sign_at, variable_bits}
use Rattle.definitions.specs.Fits.{Every, SortFits, HeaderFits, BodyFits, SystemFits, header_of}
use Rattle.theorems.proofs.Listing.{some_same, every_at, at_lt, at_mapped}
use Rattle.terms.specs.Known.{Alike}
use Rattle.rows.specs.Listed.{listed}
use Rattle.system.specs.declared.header.Sign.{Sign}
use Rattle.system.specs.declared.header.Sign.TheVariants.{Least, Greatest}
use Rattle.system.specs.contracts.header.Sign.{the_type}
use Rattle.system.specs.declared.outline.Equation.{Equation as Told}
use Rattle.system.specs.declared.outline.Outline.{Outline}
use Rattle.system.specs.declared.instance.Instance.{Instance as Kept}
use Rattle.system.specs.Files.{kept_sign, kept_header, kept_quantified}
use Rattle.system.specs.Whole.{kept_headers, Outlined}
use Rattle.expansion.specs.declared.draft.Draft.{Draft}
use Rattle.expansion.specs.declared.draft.Unfinished.{Unfinished}
use Rattle.expansion.specs.Drafts.{Fine, StandsFor, Puts, Drafts, DraftsForm}
use Rattle.expansion.specs.Bodies.{Bound}
use Rattle.expansion.proofs.Drafting.{puts_more, puts_same, puts_then, drafts_same}

sign_bit : (s : Sign) → bits 1 (tag_of the_type s) ≡ sign_bits (kept_sign s)
sign_bit Least = refl
sign_bit Greatest = refl

pub sign_small : (s : Sign) → tag_of the_type s < 2
sign_small Least = omega arith
sign_small Greatest = omega arith

at_item : {A : Type 0} (xs : List A) (i : ℕ) (y : A) → i < length xs → y ≡ get_or xs i y → at xs i ≡ Some y
at_item [] i y l e = absurd (omega arith)
at_item (x ∷ xs) zero y l e = ap Some (sym e)
at_item (x ∷ xs) (suc i) y l e = at_item xs i y (omega arith) e

-- what a look-up answers in a list
pub got_at : {A : Type 0} (xs ys : List A) (i j : ℕ) (r : Option (Bor A)) (b : Bor A) → IfSome r (λ x. x.now ≡ get_or xs i x.now) → r ≡ Some b → xs ≡ ys → i ≡ j → j < length ys → at ys j ≡ Some b.now
got_at xs ys i j r b h e same n l =
    let k : b.now ≡ get_or xs i b.now = subst (λ o. IfSome o (λ x. x.now ≡ get_or xs i x.now)) e h in
    at_item ys j b.now l (k ∙ ap (λ zs. get_or zs i b.now) same ∙ ap (λ m. get_or ys m b.now) n)

take_front : {A : Type 0} (xs ys : List A) → take (length xs) (xs ++ ys) ≡ xs
take_front [] ys = refl
take_front (x ∷ xs) ys = ap (λ z. x ∷ z) (take_front xs ys)

none_at : (m n : ℕ) → ◌≡◌ {A = Option ℕ} (get_or (replicate m None) n None) None
none_at zero n = refl
none_at (suc m) zero = refl
none_at (suc m) (suc n) = none_at m n

module _ (a : Alg) (f : List ℕ) (s : System) (o : Outline) (out : Outlined a f s o) (fits : SystemFits a s) (x : Instance) (fine : Fine s x) where
  pub equation_there : x.0 < length (listed o.equations)
  equation_there = let l = at_lt s.equations x.0 fine.equation fine.there in let n = out.count in omega arith

  pub equation_small : x.0 < 32
  equation_small = let l = at_lt s.equations x.0 fine.equation fine.there in let n = fits.few in omega arith

  pub body_fits : BodyFits a (kept_headers o) fine.equation
  body_fits = subst (λ (hs : List Header). BodyFits a hs fine.equation) (sym out.headers) (every_at (BodyFits a (map header_of s.equations)) s.equations x.0 fine.equation fine.there fits.bodies)

  pub quantified_fit : Every (λ (q : Quantified). SortFits a q.sort) fine.equation.quantified
  quantified_fit =
      (every_at (HeaderFits a) (map header_of s.equations) x.0 (header_of fine.equation) (at_mapped header_of s.equations x.0 fine.equation fine.there) fits.headers).quantified

  module _ (t : Told) (is : at (listed o.equations) x.0 ≡ Some t) where
    head : kept_header t.header ≡ header_of fine.equation
    head =
        some_same (kept_header t.header) (header_of fine.equation)
        (sym (at_mapped (λ (t : Told). kept_header t.header) (listed o.equations) x.0 t is) ∙ ap (λ hs. at hs x.0) out.headers ∙ at_mapped header_of s.equations x.0 fine.equation fine.there)

    pub body_read : (q : ℕ) × (read_body a (kept_headers o) (header_of fine.equation) f t.body ≡ next fine.equation q)
    body_read = out.bodies x.0 fine.equation t fine.there is

    pub quantified_kept : fine.equation.quantified ≡ map kept_quantified (listed t.header.quantified)
    quantified_kept = sym (ap (λ (h : Header). h.quantified) head)

    -- the environment of the values of the instance
    pub bound_none : (k : Kept) (n : ℕ) (ks vs : List (Option ℕ)) → StandsFor k x → n ≡ length (listed t.header.sorts) → Alike ks (map Some (take n k.values)) → vs ≡ replicate 3 None → Bound x.1 [] (record { parameters = ks; variables = vs })
    bound_none k n ks vs h e alike none =
        let long : n ≡ length x.1 = e ∙ ap (λ (h : Header). length h.sorts) head ∙ sym fine.values in
        record {
          parameters = subst (λ (zs : List ℕ). Alike ks (map Some zs)) (ap (λ m. take m k.values) long ∙ ap (take (length x.1)) h.values ∙ take_front x.1 (replicate (15 - length x.1) 0)) alike;
          variables = λ i. ap (λ zs. get_or zs i None) none ∙ none_at 3 i;
        }

    -- its variable: sign, rank and body
    pub variable_drafts : {T : Type 0} (k : Kept) (old signed ranked new : Draft) (r : Result T Unfinished) → StandsFor k x → Puts (bits 1 (tag_of the_type t.header.sign)) old signed → Puts (bits 5 k.equation) signed ranked →
        DraftsForm s (spread a fine.equation.quantified [] (inside_form a fine.equation x.1)) ranked new r →
        Drafts s (vars (form a s x)) (λ f. variable_bits (record { sign = sign_at (at s.equations x.0); rank = x.0; body = renamed (form a s x) f })) old new r
    variable_drafts k old signed ranked new r h p q b =
        subst (λ (o : Option Equation). Drafts s (vars (equation_form a o x.1)) (λ f. variable_bits (record { sign = sign_at o; rank = x.0; body = renamed (equation_form a o x.1) f })) old new r) (sym fine.there)
        (drafts_same s (vars body) (λ f. (sign_bits fine.equation.sign ++ bits 5 x.0) ++ form_bits (renamed body f)) (λ f. sign_bits fine.equation.sign ++ (bits 5 x.0 ++ form_bits (renamed body f))) old new r
        (λ f. append_assoc (sign_bits fine.equation.sign) (bits 5 x.0) (form_bits (renamed body f)))
        (puts_then s (sign_bits fine.equation.sign ++ bits 5 x.0) (vars body) (λ f. form_bits (renamed body f)) old ranked new r
        (puts_more (sign_bits fine.equation.sign) (bits 5 x.0) {old = old} {mid = signed} {new = ranked}
        (puts_same (bits 1 (tag_of the_type t.header.sign)) (sign_bits fine.equation.sign) {old = old} {new = signed} (sign_bit t.header.sign ∙ ap (λ (h : Header). sign_bits h.sign) head) p)
        (puts_same (bits 5 k.equation) (bits 5 x.0) {old = signed} {new = ranked} (ap (bits 5) h.equation) q))
        b))
      where
        body : Rattle.definitions.specs.Boolean.Form Instance
        body = spread a fine.equation.quantified [] (inside_form a fine.equation x.1)
