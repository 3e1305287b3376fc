-- Plans that are made of what came.
use Rattle.std.proofs.Common.{◌≡◌, ℕ, zero, suc, ◌+◌, ◌<◌, ◌≤◌, Bool, true, false, List, [], ◌∷◌, length, set, get_or, replicate, Some, Option, sym, refl, ap, ◌∙◌, subst, arith}
use native.Mathlib.Decide.{dec_lt}
use Rattle.std.specs.Option.{is_some}
use Rattle.definitions.specs.Lists.{at, some}
use Rattle.definitions.specs.Alg.{Alg, Lawful}
use Rattle.definitions.specs.Systems.{System}
use Rattle.definitions.specs.Fits.{SystemFits}
use Rattle.theorems.proofs.Sounds.{sound_system}
use Rattle.system.specs.declared.outline.Outline.{Outline}
use Rattle.system.specs.Whole.{Outlined}
use Rattle.theorems.proofs.Listing.{at_some, get_or_some}
use Rattle.firstcome.specs.Coming.{place_from, place_of}

pub all_at : {A : Type 0} (n i : ℕ) (x : A) → i < n → at (replicate n x) i ≡ Some x
all_at zero i x l = absurd (omega arith)
all_at (suc n) zero x l = refl
all_at (suc n) (suc i) x l = all_at n i x (omega arith)

set_here : {A : Type 0} (xs : List A) (i : ℕ) (x y : A) → at xs i ≡ Some x → at (set xs i y) i ≡ Some y
set_here [] i x y e = absurd cc
set_here (z ∷ xs) zero x y e = refl
set_here (z ∷ xs) (suc i) x y e = set_here xs i x y e

set_there : {A : Type 0} (xs : List A) (i j : ℕ) (y : A) → (j ≡ i → ⊥) → at (set xs i y) j ≡ at xs j
set_there [] i j y d = refl
set_there (z ∷ xs) zero zero y d = absurd (d refl)
set_there (z ∷ xs) zero (suc j) y d = refl
set_there (z ∷ xs) (suc i) zero y d = refl
set_there (z ∷ xs) (suc i) (suc j) y d = set_there xs i j y (λ e. d (ap suc e))

-- of n things the first i are made, and the others are as they were
pub record Making {A : Type 0} (f : ℕ → A) (d : A) (n i : ℕ) (xs : List A) : Type 0 where
  pub made : (j : ℕ) → j < i → j < n → at xs j ≡ Some (f j)
  pub left : (j : ℕ) → i ≤ j → j < n → at xs j ≡ Some d

module _ {A : Type 0} (f : ℕ → A) (d : A) (n : ℕ) where
  pub making_first : Making f d n 0 (replicate n d)
  making_first = record { made = λ j l m. absurd (omega arith); left = λ j l m. all_at n j d m }

  module _ (i : ℕ) (xs : List A) (low : i < n) (h : Making f d n i xs) where
    -- what stands at the next place
    pub making_was : (z : A) → get_or xs i z ≡ d
    making_was z = get_or_some z xs i d (h.left i (omega arith) low)

    pub making_set : (y : A) → y ≡ f i → Making f d n (i + 1) (set xs i y)
    making_set y e =
        record {
          made = λ j l m. go j l m (dec_lt j i);
          left = λ j l m. set_there xs i j y (λ q. absurd (omega arith)) ∙ h.left j (omega arith) m;
        }
      where
        go : (j : ℕ) → j < i + 1 → j < n → Dec (j < i) → at (set xs i y) j ≡ Some (f j)
        go j l m (yes k) = set_there xs i j y (λ q. absurd (omega arith)) ∙ h.made j k m
        go j l m (no k) =
            let same : j ≡ i = omega arith in
            ap (at (set xs i y)) same ∙ set_here xs i d y (h.left i (omega arith) low) ∙ ap Some (e ∙ ap f (sym same))

    pub making_keep : d ≡ f i → Making f d n (i + 1) xs
    making_keep e =
        record {
          made = λ j l m. go j l m (dec_lt j i);
          left = λ j l m. h.left j (omega arith) m;
        }
      where
        go : (j : ℕ) → j < i + 1 → j < n → Dec (j < i) → at xs j ≡ Some (f j)
        go j l m (yes k) = h.made j k m
        go j l m (no k) =
            let same : j ≡ i = omega arith in
            ap (at xs) same ∙ h.left i (omega arith) low ∙ ap Some (e ∙ ap f (sym same))

-- each of the first i is as told
abbrev pub Each : {A : Type 0} → (ℕ → A → Type 0) → ℕ → List A → Type 0
Each {A} Q i xs = (j : ℕ) → j < i → (x : A) × (at xs j ≡ Some x) × Q j x

pub each_next : {A : Type 0} (Q : ℕ → A → Type 0) (i : ℕ) (xs : List A) (x : A) → i < length xs → Each Q i xs → Q i x → Each Q (i + 1) (set xs i x)
each_next {A} Q i xs x low h q j l = go (dec_lt j i)
  where
    go : Dec (j < i) → (y : A) × (at (set xs i x) j ≡ Some y) × Q j y
    go (yes m) = let r = h j m in (r.0, set_there xs i j x (λ e. absurd (omega arith)) ∙ r.1, r.2)
    go (no m) =
        let same : j ≡ i = omega arith in
        let was = at_some xs i low in
        (x, ap (at (set xs i x)) same ∙ set_here xs i was.0 x was.1, subst (λ k. Q k x) (sym same) q)

-- a place is found where one of the list is as told
placed_some : {T : Type 0} (p : T → Bool) (xs : List T) (k : ℕ) → is_some (place_from k p xs) ≡ some p xs
placed_some p [] k = refl
placed_some p (x ∷ xs) k = go (p x) (placed_some p xs (suc k))
  where
    go : (b : Bool) → is_some (place_from (suc k) p xs) ≡ some p xs → is_some (elim b as (λ _. Option ℕ) [ true ↦ Some k | false ↦ place_from (suc k) p xs ]) ≡ elim b [ true ↦ true | false ↦ some p xs ]
    go true h = refl
    go false h = h

pub place_some : {T : Type 0} (p : T → Bool) (xs : List T) (o : Option ℕ) → o ≡ place_of p xs → is_some o ≡ some p xs
place_some p xs o e = ap is_some e ∙ placed_some p xs 0

-- equal truths
pub same_truth : (p q : Bool) → (p ≡ true → q ≡ true) → (q ≡ true → p ≡ true) → p ≡ q
same_truth true q f g = sym (f refl)
same_truth false true f g = g refl
same_truth false false f g = refl

-- a system that is outlined fits its algebra
pub outlined_fits : (a : Alg) → Lawful a → (f : List ℕ) (s : System) (o : Outline) → Outlined a f s o → SystemFits a s
outlined_fits a law f s o out = ((sound_system f a law).run 0 (omega arith) s o.end out.whole).fact.1
