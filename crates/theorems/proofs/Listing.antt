-- Facts of lists, options and tests.
use Rattle.std.proofs.Common.{◌≡◌, ℕ, zero, suc, ◌+◌, ◌<◌, ◌≤◌, Bool, true, false, ◌&&◌, eqb, List, [], ◌∷◌, ◌++◌, map, length, get_or, Some, None, Option, refl, ap, ◌∙◌, subst, ap₂, le_refl, arith}
use mathlib.Core.Bool.{false≢true}
use Rattle.std.proofs.lemmas.Bool.{eqb-true, eq-eqb}
use Rattle.definitions.specs.Lists.{at, bind, each, same, some, keep, from, map_from, strike}
use Rattle.definitions.specs.Fits.{Every}

pub none_some : {A : Type 0} {P : Type 0} (x : A) → ◌≡◌ {A = Option A} None (Some x) → P
none_some x e = absurd cc

pub some_same : {A : Type 0} (x y : A) → ◌≡◌ {A = Option A} (Some x) (Some y) → x ≡ y
some_same x y e = cc

pub bind_inv : {A B : Type 0} (o : Option A) (g : A → Option B) (y : B) → bind o g ≡ Some y → (x : A) × (o ≡ Some x) × (g x ≡ Some y)
bind_inv None g y e = none_some y e
bind_inv (Some x) g y e = (x, refl, e)

pub and_left : (p q : Bool) → (p && q) ≡ true → p ≡ true
and_left true q h = refl
and_left false q h = h

pub and_right : (p q : Bool) → (p && q) ≡ true → q ≡ true
and_right true q h = h
and_right false q h = absurd (false≢true h)

-- the member numbered n
pub at_lt : {A : Type 0} (xs : List A) (n : ℕ) (x : A) → at xs n ≡ Some x → n < length xs
at_lt [] n x e = none_some x e
at_lt (y ∷ xs) zero x e = omega arith
at_lt (y ∷ xs) (suc n) x e = omega (arith, at_lt xs n x e)

pub at_some : {A : Type 0} (xs : List A) (n : ℕ) → n < length xs → (x : A) × (at xs n ≡ Some x)
at_some [] n h = absurd (omega arith)
at_some (x ∷ xs) zero h = (x, refl)
at_some (x ∷ xs) (suc n) h = at_some xs n (omega arith)

pub get_or_some : {A : Type 0} (d : A) (xs : List A) (n : ℕ) (x : A) → at xs n ≡ Some x → get_or xs n d ≡ x
get_or_some d [] n x e = none_some x e
get_or_some d (y ∷ xs) zero x e = some_same y x e
get_or_some d (y ∷ xs) (suc n) x e = get_or_some d xs n x e

pub at_map : {A B : Type 0} (g : A → B) (xs : List A) (n : ℕ) → at (map g xs) n ≡ bind (at xs n) (λ x. Some (g x))
at_map g [] n = refl
at_map g (x ∷ xs) zero = refl
at_map g (x ∷ xs) (suc n) = at_map g xs n

pub at_mapped : {A B : Type 0} (f : A → B) (xs : List A) (n : ℕ) (x : A) → at xs n ≡ Some x → at (map f xs) n ≡ Some (f x)
at_mapped f xs n x e = at_map f xs n ∙ ap (λ o. bind o (λ x. Some (f x))) e

pub at_map_some : {A B : Type 0} (f : A → B) (xs : List A) (n : ℕ) (y : B) → at (map f xs) n ≡ Some y → (x : A) × (at xs n ≡ Some x) × (f x ≡ y)
at_map_some f [] n y e = none_some y e
at_map_some f (x ∷ xs) zero y e = (x, refl, some_same (f x) y e)
at_map_some f (x ∷ xs) (suc n) y e = at_map_some f xs n y e

pub at_map_from : {A B : Type 0} (k : ℕ) (f : ℕ → A → B) (xs : List A) (n : ℕ) (x : A) → at xs n ≡ Some x → at (map_from k f xs) n ≡ Some (f (k + n) x)
at_map_from k f [] n x e = none_some x e
at_map_from k f (y ∷ xs) zero x e = ap₂ (λ m z. Some (f m z)) (omega arith) (some_same y x e)
at_map_from k f (y ∷ xs) (suc n) x e = at_map_from (suc k) f xs n x e ∙ ap (λ m. Some (f m x)) (omega arith)

-- what holds of every member
pub every_at : {A : Type 0} (P : A → Type 0) (xs : List A) (n : ℕ) (x : A) → at xs n ≡ Some x → Every P xs → P x
every_at P [] n x e h = none_some x e
every_at P (y ∷ xs) zero x e h = subst P (some_same y x e) h.0
every_at P (y ∷ xs) (suc n) x e h = every_at P xs n x e h.1

pub every_map : {A : Type 0} {P Q : A → Type 0} (xs : List A) → ((x : A) → P x → Q x) → Every P xs → Every Q xs
every_map [] f h = tt
every_map (x ∷ xs) f h = (f x h.0, every_map xs f h.1)

-- the same with the predicates written
pub every_with : {A : Type 0} (P Q : A → Type 0) (xs : List A) → Every P xs → ((x : A) → P x → Q x) → Every Q xs
every_with P Q xs h f = every_map xs f h

pub every_two : {A : Type 0} {P Q R : A → Type 0} (xs : List A) → ((x : A) → P x → Q x → R x) → Every P xs → Every Q xs → Every R xs
every_two [] f h k = tt
every_two (x ∷ xs) f h k = (f x h.0 k.0, every_two xs f h.1 k.1)

pub every_of : {A : Type 0} {P : A → Type 0} (xs : List A) → ((x : A) → P x) → Every P xs
every_of [] f = tt
every_of (x ∷ xs) f = (f x, every_of xs f)

pub every_mapped : {A B : Type 0} (P : B → Type 0) (f : A → B) (xs : List A) → Every (λ x. P (f x)) xs → Every P (map f xs)
every_mapped P f [] h = tt
every_mapped P f (x ∷ xs) h = (h.0, every_mapped P f xs h.1)

pub every_unmapped : {A B : Type 0} (P : B → Type 0) (f : A → B) (xs : List A) → Every P (map f xs) → Every (λ x. P (f x)) xs
every_unmapped P f [] h = tt
every_unmapped P f (x ∷ xs) h = (h.0, every_unmapped P f xs h.1)

pub every_left : {A : Type 0} (P : A → Type 0) (xs ys : List A) → Every P (xs ++ ys) → Every P xs
every_left P [] ys h = tt
every_left P (x ∷ xs) ys h = (h.0, every_left P xs ys h.1)

pub every_right : {A : Type 0} (P : A → Type 0) (xs ys : List A) → Every P (xs ++ ys) → Every P ys
every_right P [] ys h = h
every_right P (x ∷ xs) ys h = every_right P xs ys h.1

pub every_keep : {A : Type 0} (P : A → Type 0) (q : A → Bool) (xs : List A) → Every P xs → Every P (keep q xs)
every_keep P q [] h = tt
every_keep P q (x ∷ xs) h = go (every_keep P q xs h.1) (q x) refl
  where
    go : Every P (keep q xs) → (b : Bool) → q x ≡ b → Every P (keep q (x ∷ xs))
    go ih true e = rw (e, keep) (h.0, ih)
    go ih false e = rw (e, keep) ih

-- tests of lists
pub each_map : {A B : Type 0} (p : B → Bool) (g : A → B) (xs : List A) → each p (map g xs) ≡ each (λ x. p (g x)) xs
each_map p g [] = refl
each_map p g (x ∷ xs) = ap (λ z. elim (p (g x)) [ true ↦ z | false ↦ false ]) (each_map p g xs)

pub some_map : {A B : Type 0} (p : B → Bool) (g : A → B) (xs : List A) → some p (map g xs) ≡ some (λ x. p (g x)) xs
some_map p g [] = refl
some_map p g (x ∷ xs) = ap (λ z. elim (p (g x)) [ true ↦ true | false ↦ z ]) (some_map p g xs)

-- the same numbers
pub same_eq : (xs ys : List ℕ) → same xs ys ≡ true → xs ≡ ys
same_eq [] [] h = refl
same_eq [] (y ∷ ys) h = absurd (false≢true h)
same_eq (x ∷ xs) [] h = absurd (false≢true h)
same_eq (x ∷ xs) (y ∷ ys) h = ap₂ (λ u us. u ∷ us) (eqb-true x y (and_left (eqb x y) (same xs ys) h)) (same_eq xs ys (and_right (eqb x y) (same xs ys) h))

pub same_refl : (xs : List ℕ) → same xs xs ≡ true
same_refl [] = refl
same_refl (x ∷ xs) = ap₂ (λ p q. p && q) (eq-eqb x x refl) (same_refl xs)

pub some_none : {A : Type 0} (p : A → Bool) (xs : List A) → ((x : A) → p x ≡ false) → some p xs ≡ false
some_none p [] h = refl
some_none p (x ∷ xs) h = ap (λ b. elim b [ true ↦ true | false ↦ some p xs ]) (h x) ∙ some_none p xs h

-- lengths
pub from_long : (k n : ℕ) → length (from k n) ≡ n
from_long k zero = refl
from_long k (suc n) = ap suc (from_long (suc k) n)

pub keep_short : {A : Type 0} (q : A → Bool) (xs : List A) → length (keep q xs) ≤ length xs
keep_short q [] = le_refl 0
keep_short {A} q (x ∷ xs) = go (keep_short q xs) (q x)
  where
    go : length (keep q xs) ≤ length xs → (b : Bool) → length {A = A} (elim b [ true ↦ x ∷ keep q xs | false ↦ keep q xs ]) ≤ suc (length xs)
    go h true = omega arith
    go h false = omega arith

pub strike_short : {A : Type 0} (ms : List Bool) (xs : List A) → length (strike ms xs) ≤ length xs
strike_short [] xs = omega arith
strike_short (m ∷ ms) [] = omega arith
strike_short (true ∷ ms) (x ∷ xs) = omega (arith, strike_short ms xs)
strike_short (false ∷ ms) (x ∷ xs) = omega (arith, strike_short ms xs)

pub map_from_long : {A B : Type 0} (k : ℕ) (f : ℕ → A → B) (xs : List A) → length (map_from k f xs) ≡ length xs
map_from_long k f [] = refl
map_from_long k f (x ∷ xs) = ap suc (map_from_long (suc k) f xs)

-- one function after another
pub map_twice : {A B C : Type 0} (f : B → C) (g : A → B) (xs : List A) → map f (map g xs) ≡ map (λ x. f (g x)) xs
map_twice f g [] = refl
map_twice f g (x ∷ xs) = ap (λ z. f (g x) ∷ z) (map_twice f g xs)

pub map_from_twice : {A B C : Type 0} (k : ℕ) (f : ℕ → B → C) (g : ℕ → A → B) (xs : List A) → map_from k f (map_from k g xs) ≡ map_from k (λ i x. f i (g i x)) xs
map_from_twice k f g [] = refl
map_from_twice k f g (x ∷ xs) = ap (λ z. f k (g k x) ∷ z) (map_from_twice (suc k) f g xs)
