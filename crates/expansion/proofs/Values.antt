-- One quantified variable more is bound, and the values that are left to it.
use lib.ListN.{length-map}
use Rattle.std.proofs.Common.{Result, ◌≡◌, ◌≢◌, ℕ, zero, suc, ◌+◌, ◌-◌, ◌<◌, ◌≤◌, Bool, true, false, eqb, List, [], ◌∷◌, ◌++◌, map, length, drop, get_or, set, Some, None, Option, sym, refl, ap, ◌∙◌, subst, arith, get_or-set_other, get_or-set_same}
use Rattle.std.proofs.lemmas.Bool.{eqb-true}
use Rattle.std.proofs.lemmas.Bool.Decides.{nat_tests}
use Rattle.definitions.specs.Lists.{or_else, from, up_to}
use Rattle.definitions.specs.Alg.{Alg}
use Rattle.definitions.specs.Systems.{Quantified}
use Rattle.definitions.specs.Truth.{Instance}
use Rattle.definitions.specs.Boolean.{Form, over, spread}
use Rattle.definitions.specs.Fits.{Every, SortFits}
use Rattle.terms.specs.Known.{Alike}
use Rattle.system.specs.declared.header.Quantified.{Quantified as Kept}
use Rattle.system.specs.Files.{kept_quantifier, kept_quantified}
use Rattle.definitions.specs.Bits.{bits}
use Rattle.definitions.specs.Systems.{System}
use Rattle.theorems.proofs.Listing.{from_long}
use Rattle.theorems.proofs.Coming.{all_bits_by, vars_of}
use Rattle.expansion.specs.declared.draft.Draft.{Draft}
use Rattle.expansion.specs.declared.draft.Unfinished.{Unfinished}
use Rattle.expansion.specs.Drafts.{over_number, Puts, DraftsForm, DraftsForms}
use Rattle.expansion.proofs.Drafting.{puts_same, puts_then, over_drafts}
use Rattle.expansion.proofs.Inside.{form_same}

get_last : (vs : List ℕ) (v : ℕ) → get_or (map Some (vs ++ (v ∷ []))) (length vs) None ≡ Some v
get_last [] v = refl
get_last (w ∷ vs) v = get_last vs v

get_else : (vs : List ℕ) (v n : ℕ) → n ≢ length vs → get_or (map Some (vs ++ (v ∷ []))) n None ≡ get_or (map Some vs) n None
get_else [] v zero h = absurd (h refl)
get_else [] v (suc n) h = refl
get_else (w ∷ vs) v zero h = refl
get_else (w ∷ vs) v (suc n) h = get_else vs v n (λ e. h (ap suc e))

pub alike_next : (xs : List (Option ℕ)) (vs : List ℕ) (v k : ℕ) → Alike xs (map Some vs) → length vs ≡ k → k < length xs → Alike (set xs k (Some v)) (map Some (vs ++ (v ∷ [])))
alike_next xs vs v k h e l n = go (eqb n k) refl
  where
    go : (b : Bool) → eqb n k ≡ b → get_or (set xs k (Some v)) n None ≡ get_or (map Some (vs ++ (v ∷ []))) n None
    go true q =
        let w : n ≡ k = eqb-true n k q in
        ap (λ m. get_or (set xs k (Some v)) m None) w ∙ get_or-set_same xs k (Some v) None l ∙ sym (get_last vs v) ∙ ap (λ m. get_or (map Some (vs ++ (v ∷ []))) m None) (e ∙ sym w)
    go false q =
        let w : n ≢ k = grind (arith, nat_tests, q) in
        (let other : get_or (set xs k (Some v)) n None ≡ get_or xs n None = rw get_or-set_other refl in other) ∙ h n ∙ sym (get_else vs v n (λ z. w (z ∙ e)))

-- the values from i on, of z
pub values_all : (z : ℕ) → from 0 z ≡ from 0 (z - 0)
values_all z = let e : z ≡ z - 0 = omega arith in ap (from 0) e

pub values_left : (i z : ℕ) → i < z → from i (z - i) ≡ i ∷ from (i + 1) (z - (i + 1))
values_left i z l =
    let e : z - i ≡ suc (z - (i + 1)) = omega arith in
    let n : suc i ≡ i + 1 = omega arith in
    ap (from i) e ∙ ap (λ k. i ∷ from k (z - (i + 1))) n

pub values_done : (z : ℕ) → from z (z - z) ≡ []
values_done z = let e : z - z ≡ 0 = omega arith in ap (from z) e

-- the variable numbered k, and those behind it
pub record Next (a : Alg) (qs : List Quantified) (k : ℕ) (q : Kept) : Type 0 where
  pub is : drop k qs ≡ kept_quantified q ∷ drop (k + 1) qs
  pub size : ℕ
  pub sized : a.size q.sort ≡ Some size

walk : (P : Quantified → Type 0) (xs : List Kept) (k : ℕ) (d : Kept) → k < length xs → Every P (map kept_quantified xs) →
    (drop k (map kept_quantified xs) ≡ kept_quantified (get_or xs k d) ∷ drop (suc k) (map kept_quantified xs)) × P (kept_quantified (get_or xs k d))
walk P [] k d l h = absurd (omega arith)
walk P (x ∷ xs) zero d l h = (refl, h.0)
walk P (x ∷ xs) (suc k) d l h = walk P xs k d (omega arith) h.1

pub next_variable : (a : Alg) (qs : List Quantified) (xs : List Kept) (k : ℕ) (d : Kept) → qs ≡ map kept_quantified xs → k < length xs → Every (λ (k : Quantified). SortFits a k.sort) qs → Next a qs k (get_or xs k d)
next_variable a qs xs k d e l h =
    subst (λ (zs : List Quantified). Next a zs k (get_or xs k d)) (sym e)
    (let r = walk (λ (k : Quantified). SortFits a k.sort) xs k d l (subst (Every (λ (k : Quantified). SortFits a k.sort)) e h) in
    let n : suc k ≡ k + 1 = omega arith in
    record { is = r.0 ∙ ap (λ m. kept_quantified (get_or xs k d) ∷ drop m (map kept_quantified xs)) n; size = r.1.1.0; sized = r.1.1.1 })

-- the form over the values of the variable numbered k
pub spread_next : (a : Alg) (qs : List Quantified) (k z : ℕ) (q : Kept) (vs : List ℕ) (p : List ℕ → Form Instance) → drop k qs ≡ kept_quantified q ∷ drop (k + 1) qs → a.size q.sort ≡ Some z →
    spread a (drop k qs) vs p ≡ over (kept_quantifier q.quantifier) (map (λ v. spread a (drop (k + 1) qs) (vs ++ (v ∷ [])) p) (up_to z))
spread_next a qs k z q vs p e s =
    ap (λ zs. spread a zs vs p) e ∙
    ap (λ (o : Option ℕ). over (kept_quantifier q.quantifier) (map (λ v. spread a (drop (k + 1) qs) (vs ++ (v ∷ [])) p) (up_to (or_else o 0)))) s

pub over_values : {T : Type 0} (a : Alg) (s : System) (qs : List Quantified) (k z tok : ℕ) (q : Kept) (vs : List ℕ) (p : List ℕ → Form Instance) (old mid new : Draft) (r : Result T Unfinished) →
    drop k qs ≡ kept_quantified q ∷ drop (k + 1) qs → a.size q.sort ≡ Some z → tok ≡ over_number (kept_quantifier q.quantifier) → Puts (bits 3 tok ++ bits 8 (z - 1)) old mid →
    DraftsForms s (map (λ v. spread a (drop (k + 1) qs) (vs ++ (v ∷ [])) p) (up_to z)) mid new r → DraftsForm s (spread a (drop k qs) vs p) old new r
over_values a s qs k z tok q vs p old mid new r e sized t h d =
    let f = λ (v : ℕ). spread a (drop (k + 1) qs) (vs ++ (v ∷ [])) p in
    let forms = map f (up_to z) in
    let n : z ≡ length forms = sym (from_long 0 z) ∙ sym (length-map (up_to z) f) in
    let Q = kept_quantifier q.quantifier in
    form_same s (sym (spread_next a qs k z q vs p e sized)) old new r
    (over_drafts s Q forms z old new r n
    (puts_then s (bits 3 (over_number Q) ++ bits 8 (z - 1)) (vars_of forms) (all_bits_by forms) old mid new r
    (puts_same (bits 3 tok ++ bits 8 (z - 1)) (bits 3 (over_number Q) ++ bits 8 (z - 1)) (ap (λ v. bits 3 v ++ bits 8 (z - 1)) t) h) d))

pub spread_none : (a : Alg) (qs : List Quantified) (k : ℕ) (vs : List ℕ) (p : List ℕ → Form Instance) → length qs ≤ k → spread a (drop k qs) vs p ≡ p vs
spread_none a qs k vs p l = ap (λ zs. spread a zs vs p) (go qs k l)
  where
    go : (qs : List Quantified) (k : ℕ) → length qs ≤ k → drop k qs ≡ []
    go [] zero l = refl
    go [] (suc k) l = refl
    go (q ∷ qs) zero l = absurd (omega arith)
    go (q ∷ qs) (suc k) l = go qs k (omega arith)
