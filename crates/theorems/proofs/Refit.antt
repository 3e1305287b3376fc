-- What fits still fits with parameters replaced, removed and renumbered.
use Rattle.std.proofs.Common.{◌≡◌, ℕ, zero, suc, ◌+◌, ◌<◌, ◌≤◌, Bool, true, false, ◌⊎◌, List, [], ◌∷◌, map, get_or, Some, sym, refl, ◌∙◌, subst, ap₂, inl, inr, arith}
use mathlib.Core.Bool.{false≢true}
use Rattle.definitions.specs.Lists.{at, strike, place, map_from}
use Rattle.definitions.specs.Alg.{Alg, Lawful}
use Rattle.definitions.specs.Systems.{Kind, parameter, variable, value, operation, not, and, or, equal, Term, Terms, node, none, more, term, terms, folds}
use Rattle.definitions.specs.Terms.{on_parameter, replaced}
use Rattle.definitions.specs.ReadSystem.{Scope}
use Rattle.definitions.specs.Fits.{Fits, fit_parameter, fit_variable, fit_value, fit_operation, fit_not, fit_and, fit_or, fit_equal, FitsArgs, fit_none, fit_more, TermsFit, ValuesFit, Every}
use Rattle.std.proofs.lemmas.Bool.{cases_lt}
use Rattle.theorems.proofs.Listing.{some_same, none_some}
use Rattle.theorems.proofs.Ranges.{InSort}

-- replacing parameters by kinds without parts that fit in their places
module _ (a : Alg) (c c' : Scope) (f : ℕ → Kind) (variables : (n s : ℕ) → at c.variables n ≡ Some s → at c'.variables n ≡ Some s)
    (parameters : (d n s : ℕ) → n < 16 → at c.parameters n ≡ Some s → Fits a c' (suc d) s (node (f n) none)) where
  mutual
    pub replaced_fits : {d s : ℕ} {t : Term} → Fits a c d s t → Fits a c' d s (replaced f t)
    replaced_fits (fit_parameter {d} {s} {n} l e) = parameters d n s l e
    replaced_fits (fit_variable {s = s} {n} l e) = fit_variable l (variables n s e)
    replaced_fits (fit_value l k e m) = fit_value l k e m
    replaced_fits (fit_operation l e k h) = fit_operation l e k (replaced_args h)
    replaced_fits (fit_not h) = fit_not (replaced_fits h)
    replaced_fits (fit_and h k) = fit_and (replaced_fits h) (replaced_fits k)
    replaced_fits (fit_or h k) = fit_or (replaced_fits h) (replaced_fits k)
    replaced_fits (fit_equal h k) = fit_equal (replaced_fits h) (replaced_fits k)

    replaced_args : {d o k n : ℕ} {ts : Terms} → FitsArgs a c d o k n ts → FitsArgs a c' d o k n (terms (folds ts (λ q parts. term (on_parameter f q) parts)))
    replaced_args fit_none = fit_none
    replaced_args (fit_more e h r) = fit_more e (replaced_fits h) (replaced_args r)

kind_twice : (f g : ℕ → Kind) (k : Kind) → on_parameter f (on_parameter g k) ≡ on_parameter (λ n. on_parameter f (g n)) k
kind_twice f g (parameter n) = refl
kind_twice f g (variable n) = refl
kind_twice f g (value s v) = refl
kind_twice f g (operation o) = refl
kind_twice f g not = refl
kind_twice f g and = refl
kind_twice f g or = refl
kind_twice f g equal = refl

mutual
  pub replaced_twice : (t : Term) (f g : ℕ → Kind) → replaced f (replaced g t) ≡ replaced (λ n. on_parameter f (g n)) t
  replaced_twice (node k ts) f g = ap₂ (λ q qs. node q (terms qs)) (kind_twice f g k) (replaced_twices ts f g)

  replaced_twices : (ts : Terms) (f g : ℕ → Kind) →
      folds (terms (folds ts (λ q parts. term (on_parameter g q) parts))) (λ q parts. term (on_parameter f q) parts) ≡
      folds ts (λ q parts. term (on_parameter (λ n. on_parameter f (g n)) q) parts)
  replaced_twices none f g = refl
  replaced_twices (more t ts) f g = ap₂ (λ x xs. x ∷ xs) (replaced_twice t f g) (replaced_twices ts f g)

pub strike_at : {A : Type 0} (ms : List Bool) (n : ℕ) (xs : List A) (x : A) → get_or ms n false ≡ true → at xs n ≡ Some x → at (strike ms xs) (place ms n) ≡ Some x
strike_at [] n xs x h e = absurd (false≢true h)
strike_at (m ∷ ms) n [] x h e = absurd (none_some x e)
strike_at (true ∷ ms) zero (y ∷ xs) x h e = e
strike_at (true ∷ ms) (suc n) (y ∷ xs) x h e = strike_at ms n xs x h e
strike_at (false ∷ ms) zero (y ∷ xs) x h e = absurd (false≢true h)
strike_at (false ∷ ms) (suc n) (y ∷ xs) x h e = strike_at ms n xs x h e

pub place_low : (ms : List Bool) (n : ℕ) → place ms n ≤ n
place_low [] n = omega arith
place_low (m ∷ ms) zero = omega arith
place_low (true ∷ ms) (suc n) = omega (arith, place_low ms n)
place_low (false ∷ ms) (suc n) = omega (arith, place_low ms n)

pub strike_every : {A : Type 0} (P : A → Type 0) (ms : List Bool) (xs : List A) → Every P xs → Every P (strike ms xs)
strike_every P [] xs h = tt
strike_every P (true ∷ ms) [] h = tt
strike_every P (false ∷ ms) [] h = tt
strike_every P (true ∷ ms) (x ∷ xs) h = (h.0, strike_every P ms xs h.1)
strike_every P (false ∷ ms) (x ∷ xs) h = strike_every P ms xs h.1

pub strike_values : (a : Alg) (ms : List Bool) (ss vs : List ℕ) → ValuesFit a ss vs → ValuesFit a (strike ms ss) (strike ms vs)
strike_values a [] ss vs h = tt
strike_values a (true ∷ ms) [] [] h = tt
strike_values a (false ∷ ms) [] [] h = tt
strike_values a (m ∷ ms) [] (v ∷ vs) h = absurd h
strike_values a (m ∷ ms) (s ∷ ss) [] h = absurd h
strike_values a (true ∷ ms) (s ∷ ss) (v ∷ vs) h = (h.0, strike_values a ms ss vs h.1)
strike_values a (false ∷ ms) (s ∷ ss) (v ∷ vs) h = strike_values a ms ss vs h.1

-- arguments for kept parameters, each term by r
pub strike_terms : (a : Alg) (c c' : Scope) (r : Term → Term) → ((s : ℕ) (t : Term) → Fits a c 32 s t → Fits a c' 32 s (r t)) →
    (ms : List Bool) (ss : List ℕ) (ts : List Term) → TermsFit a c ss ts → TermsFit a c' (strike ms ss) (map r (strike ms ts))
strike_terms a c c' r f [] ss ts h = tt
strike_terms a c c' r f (true ∷ ms) [] [] h = tt
strike_terms a c c' r f (false ∷ ms) [] [] h = tt
strike_terms a c c' r f (m ∷ ms) [] (t ∷ ts) h = absurd h
strike_terms a c c' r f (m ∷ ms) (s ∷ ss) [] h = absurd h
strike_terms a c c' r f (true ∷ ms) (s ∷ ss) (t ∷ ts) h = (f s t h.0, strike_terms a c c' r f ms ss ts h.1)
strike_terms a c c' r f (false ∷ ms) (s ∷ ss) (t ∷ ts) h = strike_terms a c c' r f ms ss ts h.1

-- lists changed one by one
pub every_map_from : {A B : Type 0} {P : A → Type 0} (Q : B → Type 0) (k : ℕ) (f : ℕ → A → B) (xs : List A) →
    ((j : ℕ) (x : A) → at xs j ≡ Some x → P x → Q (f (k + j) x)) → Every P xs → Every Q (map_from k f xs)
every_map_from Q k f [] h p = tt
every_map_from Q k f (x ∷ xs) h p = (
  subst (λ n. Q (f n x)) (omega arith) (h 0 x refl p.0),
  every_map_from Q (suc k) f xs (λ j y e q. subst (λ n. Q (f n y)) (omega arith) (h (suc j) y e q)) p.1,
)

-- a value in range has a value term
pub value_fits : (a : Alg) → Lawful a → (c : Scope) (d r v : ℕ) → InSort a r v → Fits a c (suc d) r (node (value r v) none)
value_fits a law c d r v (z, e, l) = go (cases_lt r a.sorts)
  where
    go : (r < a.sorts) ⊎ (a.sorts ≤ r) → Fits a c (suc d) r (node (value r v) none)
    go (inl m) =
        let (n, en, ln, hn) = law.sort r m in
        let nz : n ≡ z = some_same n z (sym en ∙ e) in
        fit_value (omega (arith, law.few_sorts)) (omega arith) e l
    go (inr m) = absurd (none_some z (sym (law.no_sort r m) ∙ e))
