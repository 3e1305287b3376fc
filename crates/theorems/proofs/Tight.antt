-- Lists whose weights do not fall, and masks that strike nothing.
use Rattle.std.proofs.Common.{◌≡◌, ℕ, zero, suc, ◌+◌, ◌<◌, ◌≤◌, Bool, true, false, List, [], ◌∷◌, map, length, Some, sym, refl, ap, subst, add-zero, arith}
use Rattle.definitions.specs.Lists.{at, sum, map_from, strike, place, keep}
use Rattle.definitions.specs.Fits.{Every}
use Rattle.theorems.proofs.Listing.{some_same, none_some, strike_short}
use Rattle.theorems.proofs.Weights.{map_le, from_le, strike_le, keep_le}

pub map_tight : {A : Type 0} (w : A → ℕ) (g : A → A) → ((x : A) → w (g x) ≤ w x) → (xs : List A) → sum (map w xs) ≤ sum (map w (map g xs)) → Every (λ x. w x ≤ w (g x)) xs
map_tight w g h [] l = tt
map_tight w g h (x ∷ xs) l = (omega (arith, h x, map_le w g h xs), map_tight w g h xs (omega (arith, h x, map_le w g h xs)))

pub map_same : {A : Type 0} (g : A → A) (xs : List A) → Every (λ x. g x ≡ x) xs → map g xs ≡ xs
map_same g [] h = refl
map_same g (x ∷ xs) h = let e = h.0 in let r = map_same g xs h.1 in cc

shift : (k i : ℕ) → suc k + i ≡ k + suc i
shift k i = omega arith

pub zero_plus : (i : ℕ) → 0 + i ≡ i
zero_plus i = omega arith

pub from_tight : {A : Type 0} (w : A → ℕ) (k : ℕ) (g : ℕ → A → A) → ((i : ℕ) (x : A) → w (g i x) ≤ w x) → (xs : List A) →
    sum (map w xs) ≤ sum (map w (map_from k g xs)) → (i : ℕ) (x : A) → at xs i ≡ Some x → w x ≤ w (g (k + i) x)
from_tight w k g h [] l i x e = absurd (none_some x e)
from_tight w k g h (y ∷ xs) l zero x e =
    let q : w y ≤ w (g k y) = omega (arith, h k y, from_le w (suc k) g h xs) in
    rw (← some_same y x e, add-zero) q
from_tight w k g h (y ∷ xs) l (suc i) x e =
    subst (λ (j : ℕ). w x ≤ w (g j x)) (shift k i) (from_tight w (suc k) g h xs (omega (arith, h k y, from_le w (suc k) g h xs)) i x e)

pub from_same : {A : Type 0} (k : ℕ) (g : ℕ → A → A) (xs : List A) → ((i : ℕ) (x : A) → at xs i ≡ Some x → g (k + i) x ≡ x) → map_from k g xs ≡ xs
from_same k g [] h = refl
from_same k g (x ∷ xs) h =
    let e : g k x ≡ x = rw add-zero at (h 0 x refl) in
    let r : map_from (suc k) g xs ≡ xs = from_same (suc k) g xs (λ i y p. subst (λ (j : ℕ). g j y ≡ y) (sym (shift k i)) (h (suc i) y p)) in
    cc

-- the mask keeps the first n
abbrev pub Full : List Bool → ℕ → Type 0
Full ms zero = Unit {0}
Full [] (suc n) = ⊥
Full (true ∷ ms) (suc n) = Full ms n
Full (false ∷ ms) (suc n) = ⊥

pub full_strike : {A : Type 0} (ms : List Bool) (xs : List A) → Full ms (length xs) → strike ms xs ≡ xs
full_strike [] [] f = refl
full_strike (m ∷ ms) [] f = refl
full_strike [] (x ∷ xs) f = absurd f
full_strike (true ∷ ms) (x ∷ xs) f = ap (λ ys. x ∷ ys) (full_strike ms xs f)
full_strike (false ∷ ms) (x ∷ xs) f = absurd f

pub full_place : (ms : List Bool) (n : ℕ) → Full ms n → (k : ℕ) → k < n → place ms k ≡ k
full_place ms zero f k l = absurd (omega arith)
full_place [] (suc n) f k l = absurd f
full_place (true ∷ ms) (suc n) f zero l = refl
full_place (true ∷ ms) (suc n) f (suc k) l = ap suc (full_place ms n f k (omega arith))
full_place (false ∷ ms) (suc n) f k l = absurd f

pub full_of : {A : Type 0} (ms : List Bool) (xs : List A) → length xs ≤ length (strike ms xs) → Full ms (length xs)
full_of ms [] l = tt
full_of [] (x ∷ xs) l = absurd (omega arith)
full_of (true ∷ ms) (x ∷ xs) l = full_of ms xs (omega arith)
full_of (false ∷ ms) (x ∷ xs) l = absurd (omega (arith, strike_short ms xs))

pub full_weight : {A : Type 0} (w : A → ℕ) → ((x : A) → 1 ≤ w x) → (ms : List Bool) (xs : List A) → sum (map w xs) ≤ sum (map w (strike ms xs)) → Full ms (length xs)
full_weight w h ms [] l = tt
full_weight w h [] (x ∷ xs) l = absurd (omega (arith, h x))
full_weight w h (true ∷ ms) (x ∷ xs) l = full_weight w h ms xs (omega arith)
full_weight w h (false ∷ ms) (x ∷ xs) l = absurd (omega (arith, h x, strike_le w ms xs))

pub nothing : {A : Type 0} (w : A → ℕ) → ((x : A) → 1 ≤ w x) → (xs : List A) → sum (map w xs) ≤ 0 → xs ≡ []
nothing w h [] l = refl
nothing w h (x ∷ xs) l = absurd (omega (arith, h x))

pub no_length : {A : Type 0} (xs : List A) → length xs ≤ 0 → xs ≡ []
no_length [] l = refl
no_length (x ∷ xs) l = absurd (omega arith)

pub keep_tight : {A : Type 0} (w : A → ℕ) (p : A → Bool) → ((x : A) → 1 ≤ w x) → (xs : List A) → sum (map w xs) ≤ sum (map w (keep p xs)) → keep p xs ≡ xs
keep_tight w p h [] l = refl
keep_tight w p h (x ∷ xs) l = go (keep_tight w p h xs) (p x) refl
  where
    go : (sum (map w xs) ≤ sum (map w (keep p xs)) → keep p xs ≡ xs) → (b : Bool) → p x ≡ b → keep p (x ∷ xs) ≡ x ∷ xs
    go i true e = let m : sum (map w (x ∷ xs)) ≤ sum (map w (x ∷ keep p xs)) = rw (e, keep) at l in rw (e, keep) (ap (λ ys. x ∷ ys) (i (omega arith)))
    go i false e = let m : sum (map w (x ∷ xs)) ≤ sum (map w (keep p xs)) = rw (e, keep) at l in absurd (omega (arith, h x, keep_le w p xs))

pub tight_0 : {A : Type 0} (w : A → ℕ) (g : ℕ → A → A) → ((i : ℕ) (x : A) → w (g i x) ≤ w x) → (xs : List A) →
    sum (map w xs) ≤ sum (map w (map_from 0 g xs)) → (i : ℕ) (x : A) → at xs i ≡ Some x → w x ≤ w (g i x)
tight_0 w g h xs l i x e = subst (λ (j : ℕ). w x ≤ w (g j x)) (zero_plus i) (from_tight w 0 g h xs l i x e)

pub same_0 : {A : Type 0} (g : ℕ → A → A) (xs : List A) → ((i : ℕ) (x : A) → at xs i ≡ Some x → g i x ≡ x) → map_from 0 g xs ≡ xs
same_0 g xs h = from_same 0 g xs (λ i x e. subst (λ (j : ℕ). g j x ≡ x) (sym (zero_plus i)) (h i x e))
