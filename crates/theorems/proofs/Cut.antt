-- Terms with their kinds changed, parameters removed and renumbered, and known ones replaced by values.
use Rattle.std.proofs.Common.{◌≡◌, ℕ, zero, suc, Bool, true, false, ltb, List, [], ◌∷◌, map, length, get_or, Some, None, Option, sym, refl, ap, ◌∙◌, ap₂}
use mathlib.Core.Bool.{false≢true}
use Rattle.std.proofs.lemmas.Bool.{and_parts, and_from}
use Rattle.definitions.specs.Lists.{at, strike, place, or_else}
use Rattle.definitions.specs.Alg.{Alg, within}
use Rattle.definitions.specs.Systems.{Kind, parameter, variable, value, operation, not, and, or, equal, Term, Terms, node, none, more, term, terms, fold, folds}
use Rattle.definitions.specs.Values.{kind_known, value_of, values_of}
use Rattle.definitions.specs.Terms.{on_parameter, replaced}
use Rattle.definitions.specs.ReadSystem.{Scope}
use Rattle.definitions.specs.Fits.{Fits, fit_parameter, fit_variable, fit_value, fit_operation, fit_not, fit_and, fit_or, fit_equal, FitsArgs, fit_none, fit_more, TermsFit, Every}
use Rattle.definitions.specs.Constants.{kind_for}
use Rattle.theorems.proofs.Knows.{Under, same, unknown, Unders, get_or_under}
use Rattle.theorems.proofs.Listing.{none_some}

-- every kind in a term
abbrev mutual
  pub OnKinds : Term → (Kind → Type 0) → Type 0
  OnKinds (node k ts) P = P k × OnAll ts P

  pub OnAll : Terms → (Kind → Type 0) → Type 0
  OnAll none P = Unit {0}
  OnAll (more t ts) P = OnKinds t P × OnAll ts P

abbrev pub OnParameters : (ℕ → Type 0) → Kind → Type 0
OnParameters P (parameter n) = P n
OnParameters P (variable n) = Unit {0}
OnParameters P (value s v) = Unit {0}
OnParameters P (operation o) = Unit {0}
OnParameters P not = Unit {0}
OnParameters P and = Unit {0}
OnParameters P or = Unit {0}
OnParameters P equal = Unit {0}

module _ {P Q : Kind → Type 0} (f : (k : Kind) → P k → Q k) where
  mutual
    pub on_map : (t : Term) → OnKinds t P → OnKinds t Q
    on_map (node k ts) h = (f k h.0, on_map_all ts h.1)

    on_map_all : (ts : Terms) → OnAll ts P → OnAll ts Q
    on_map_all none h = tt
    on_map_all (more t ts) h = (on_map t h.0, on_map_all ts h.1)

module _ {P : Kind → Type 0} (f : (k : Kind) → P k) where
  mutual
    pub on_any : (t : Term) → OnKinds t P
    on_any (node k ts) = (f k, on_any_all ts)

    on_any_all : (ts : Terms) → OnAll ts P
    on_any_all none = tt
    on_any_all (more t ts) = (on_any t, on_any_all ts)

abbrev pub mapped : (Kind → Kind) → Term → Term
mapped m t = fold t (λ k parts. term (m k) parts)

module _ (m : Kind → Kind) (P : Kind → Type 0) where
  mutual
    pub on_mapped : (t : Term) → OnKinds t (λ k. P (m k)) → OnKinds (mapped m t) P
    on_mapped (node k ts) h = (h.0, on_mapped_all ts h.1)

    on_mapped_all : (ts : Terms) → OnAll ts (λ k. P (m k)) → OnAll (terms (folds ts (λ k parts. term (m k) parts))) P
    on_mapped_all none h = tt
    on_mapped_all (more t ts) h = (on_mapped t h.0, on_mapped_all ts h.1)

-- where each kind means the same, so does the term
module _ {X : Type 0} (m : Kind → Kind) (F G : Kind → List X → X) where
  mutual
    pub mapped_fold : (t : Term) → OnKinds t (λ k. (xs : List X) → F (m k) xs ≡ G k xs) → fold (mapped m t) F ≡ fold t G
    mapped_fold (node k ts) h = ap (F (m k)) (mapped_folds ts h.1) ∙ h.0 (folds ts G)

    mapped_folds : (ts : Terms) → OnAll ts (λ k. (xs : List X) → F (m k) xs ≡ G k xs) →
        folds (terms (folds ts (λ k parts. term (m k) parts))) F ≡ folds ts G
    mapped_folds none h = refl
    mapped_folds (more t ts) h = ap₂ (λ x xs. x ∷ xs) (mapped_fold t h.0) (mapped_folds ts h.1)

-- a term that fits names parameters of its scope
module _ (a : Alg) (c : Scope) where
  mutual
    pub fits_scoped : {d s : ℕ} {t : Term} → Fits a c d s t → OnKinds t (OnParameters (λ n. (s : ℕ) × (at c.parameters n ≡ Some s)))
    fits_scoped (fit_parameter {s = s} l e) = ((s, e), tt)
    fits_scoped (fit_variable l e) = (tt, tt)
    fits_scoped (fit_value l k e m) = (tt, tt)
    fits_scoped (fit_operation l e k h) = (tt, args_scoped h)
    fits_scoped (fit_not h) = (tt, (fits_scoped h, tt))
    fits_scoped (fit_and h k) = (tt, (fits_scoped h, (fits_scoped k, tt)))
    fits_scoped (fit_or h k) = (tt, (fits_scoped h, (fits_scoped k, tt)))
    fits_scoped (fit_equal h k) = (tt, (fits_scoped h, (fits_scoped k, tt)))

    args_scoped : {d o k n : ℕ} {ts : Terms} → FitsArgs a c d o k n ts → OnAll ts (OnParameters (λ n. (s : ℕ) × (at c.parameters n ≡ Some s)))
    args_scoped fit_none = tt
    args_scoped (fit_more e h r) = (fits_scoped h, args_scoped r)

  pub terms_fit : (ss : List ℕ) (ts : List Term) → TermsFit a c ss ts → Every (λ t. (s : ℕ) × Fits a c 32 s t) ts
  terms_fit [] [] h = tt
  terms_fit [] (t ∷ ts) h = absurd h
  terms_fit (s ∷ ss) [] h = absurd h
  terms_fit (s ∷ ss) (t ∷ ts) h = ((s, h.0), terms_fit ss ts h.1)

-- removing
pub strike_map : {A B : Type 0} (f : A → B) (ms : List Bool) (xs : List A) → map f (strike ms xs) ≡ strike ms (map f xs)
strike_map f [] xs = refl
strike_map f (true ∷ ms) [] = refl
strike_map f (false ∷ ms) [] = refl
strike_map f (true ∷ ms) (x ∷ xs) = ap (λ z. f x ∷ z) (strike_map f ms xs)
strike_map f (false ∷ ms) (x ∷ xs) = strike_map f ms xs

pub strike_get : {A : Type 0} (d : A) (ms : List Bool) (k : ℕ) (vs : List A) → get_or ms k false ≡ true → get_or (strike ms vs) (place ms k) d ≡ get_or vs k d
strike_get d [] k vs h = absurd (false≢true h)
strike_get d (true ∷ ms) k [] h = refl
strike_get d (false ∷ ms) k [] h = refl
strike_get d (true ∷ ms) zero (v ∷ vs) h = refl
strike_get d (true ∷ ms) (suc k) (v ∷ vs) h = strike_get d ms k vs h
strike_get d (false ∷ ms) zero (v ∷ vs) h = absurd (false≢true h)
strike_get d (false ∷ ms) (suc k) (v ∷ vs) h = strike_get d ms k vs h

pub strike_within : (ms : List Bool) (ns vs : List ℕ) → within ns vs ≡ true → within (strike ms ns) (strike ms vs) ≡ true
strike_within [] ns vs h = refl
strike_within (true ∷ ms) [] [] h = refl
strike_within (false ∷ ms) [] [] h = refl
strike_within (m ∷ ms) [] (v ∷ vs) h = absurd (false≢true h)
strike_within (m ∷ ms) (n ∷ ns) [] h = absurd (false≢true h)
strike_within (true ∷ ms) (n ∷ ns) (v ∷ vs) h =
    let (k, l) = and_parts (ltb v n) (within ns vs) h in and_from (ltb v n) (within (strike ms ns) (strike ms vs)) k (strike_within ms ns vs l)
strike_within (false ∷ ms) (n ∷ ns) (v ∷ vs) h =
    let (k, l) = and_parts (ltb v n) (within ns vs) h in strike_within ms ns vs l

module _ (a : Alg) (ms : List Bool) (ps vs : List ℕ) where
  kind_renumbered : (k : Kind) → OnParameters (λ n. get_or ms n false ≡ true) k → (xs : List (Option ℕ)) →
      kind_known a (map Some (strike ms ps)) (map Some vs) (on_parameter (λ n. parameter (place ms n)) k) xs ≡ kind_known a (map Some ps) (map Some vs) k xs
  kind_renumbered (parameter n) h xs = ap (λ z. get_or z (place ms n) None) (strike_map Some ms ps) ∙ strike_get None ms n (map Some ps) h
  kind_renumbered (variable n) h xs = refl
  kind_renumbered (value s v) h xs = refl
  kind_renumbered (operation o) h xs = refl
  kind_renumbered not h xs = refl
  kind_renumbered and h xs = refl
  kind_renumbered or h xs = refl
  kind_renumbered equal h xs = refl

  -- a term that names kept parameters alone, renumbered
  pub renumber_value : (t : Term) → OnKinds t (OnParameters (λ n. get_or ms n false ≡ true)) →
      value_of a (strike ms ps) vs (replaced (λ n. parameter (place ms n)) t) ≡ value_of a ps vs t
  renumber_value t h =
      mapped_fold (on_parameter (λ n. parameter (place ms n))) (kind_known a (map Some (strike ms ps)) (map Some vs)) (kind_known a (map Some ps) (map Some vs)) t
      (on_map kind_renumbered t h)

  -- arguments for kept parameters of the target
  pub cut_values : (to : List Bool) (r : Term → Term) (ts : List Term) → Every (λ t. value_of a (strike ms ps) vs (r t) ≡ value_of a ps vs t) ts →
      values_of a (strike ms ps) vs (map r (strike to ts)) ≡ strike to (values_of a ps vs ts)
  cut_values [] r ts h = refl
  cut_values (true ∷ to) r [] h = refl
  cut_values (false ∷ to) r [] h = refl
  cut_values (true ∷ to) r (t ∷ ts) h = ap₂ (λ x xs. or_else x 0 ∷ xs) h.0 (cut_values to r ts h.1)
  cut_values (false ∷ to) r (t ∷ ts) h = cut_values to r ts h.1

-- known parameters replaced
module _ (a : Alg) (ss : List ℕ) (ps : List ℕ) (ks : List (Option ℕ)) (vs : List ℕ) (u : Unders (map Some ps) ks) where
  found : (x y : Option ℕ) → Under x y → (v : ℕ) → y ≡ Some v → Some v ≡ x
  found x y same v e = sym e
  found x y unknown v e = absurd (none_some v e)

  parameter_inserted : (n : ℕ) (xs : List (Option ℕ)) (o : Option ℕ) → get_or ks n None ≡ o →
      kind_known a (map Some ps) (map Some vs) (elim o as (λ _. Kind) [ None ↦ parameter n | Some v ↦ value (get_or ss n 0) v ]) xs ≡ get_or (map Some ps) n None
  parameter_inserted n xs None e = refl
  parameter_inserted n xs (Some v) e = found (get_or (map Some ps) n None) (get_or ks n None) (get_or_under u n) v e

  kind_inserted : (k : Kind) (xs : List (Option ℕ)) →
      kind_known a (map Some ps) (map Some vs) (on_parameter (kind_for ss ks) k) xs ≡ kind_known a (map Some ps) (map Some vs) k xs
  kind_inserted (parameter n) xs = parameter_inserted n xs (get_or ks n None) refl
  kind_inserted (variable n) xs = refl
  kind_inserted (value s v) xs = refl
  kind_inserted (operation o) xs = refl
  kind_inserted not xs = refl
  kind_inserted and xs = refl
  kind_inserted or xs = refl
  kind_inserted equal xs = refl

  pub insert_value : (t : Term) → value_of a ps vs (replaced (kind_for ss ks) t) ≡ value_of a ps vs t
  insert_value t =
      mapped_fold (on_parameter (kind_for ss ks)) (kind_known a (map Some ps) (map Some vs)) (kind_known a (map Some ps) (map Some vs)) t (on_any kind_inserted t)

-- lists by their numbers
-- terms that keep their values, in a list
pub same_values : (a : Alg) (ps vs : List ℕ) (f : Term → Term) (ts : List Term) → ((t : Term) → value_of a ps vs (f t) ≡ value_of a ps vs t) →
    values_of a ps vs (map f ts) ≡ values_of a ps vs ts
same_values a ps vs f [] h = refl
same_values a ps vs f (t ∷ ts) h = ap₂ (λ x xs. or_else x 0 ∷ xs) (h t) (same_values a ps vs f ts h)

pub within_long : (ns vs : List ℕ) → within ns vs ≡ true → length ns ≡ length vs
within_long [] [] h = refl
within_long [] (v ∷ vs) h = absurd (false≢true h)
within_long (n ∷ ns) [] h = absurd (false≢true h)
within_long (n ∷ ns) (v ∷ vs) h = ap suc (within_long ns vs (and_parts (ltb v n) (within ns vs) h).1)

pub unders_long : {xs ys : List (Option ℕ)} → Unders xs ys → length xs ≡ length ys
unders_long Unders.nil = refl
unders_long (Unders.cons h hs) = ap suc (unders_long hs)
