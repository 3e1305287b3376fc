-- Facts of lists, options and tests.
use Rattle.std.specs.Prelude.{◌≡◌, ℕ, zero, suc, ◌<◌, ◌≤◌, Bool, true, false, ◌&&◌, List, [], ◌∷◌, ◌++◌, map, length, take, Some, None, Option, slice_index, slice_index_or, refl}
use Rattle.std.specs.List.{list_all}
use Rattle.std.proofs.Common.{sym, subst, arith}
use Rattle.std.proofs.lemmas.Bool.{false≢true}
use Rattle.definitions.specs.Lists.{at, bind, each}
use Rattle.definitions.specs.Fits.{Every}

pub none_some : {A : Type 0} {P : Type 0} (x : A) → ◌≡◌ {A = Option A} None (Some x) → P
none_some x e = absurd cc

pub some_inj : {A : Type 0} (x y : A) → ◌≡◌ {A = Option A} (Some x) (Some y) → x ≡ y
some_inj x y e = cc

pub and_left : (p q : Bool) → (p && q) ≡ true → p ≡ true
and_left true q h = refl
and_left false q h = h

pub and_right : (p q : Bool) → (p && q) ≡ true → q ≡ true
and_right true q h = h
and_right false q h = absurd (false≢true h)

pub at_some : {A : Type 0} (l : List A) (k : ℕ) → k < length l → (x : A) × (at l k ≡ Some x)
at_some [] k h = absurd (omega arith)
at_some (x ∷ l) zero h = (x, refl)
at_some (x ∷ l) (suc k) h = at_some l k (omega arith)

pub at_over : {A : Type 0} (l : List A) (k : ℕ) → length l ≤ k → at l k ≡ None
at_over [] k h = refl
at_over (x ∷ l) zero h = absurd (omega arith)
at_over (x ∷ l) (suc k) h = at_over l k (omega arith)

pub at_lt : {A : Type 0} (l : List A) (j : ℕ) (x : A) → at l j ≡ Some x → j < length l
at_lt [] j x e = none_some x e
at_lt (y ∷ l) zero x e = omega arith
at_lt (y ∷ l) (suc j) x e = let h : j < length l = at_lt l j x e in omega arith

pub at_in : {A : Type 0} (l : List A) (k : ℕ) (d : A) → k < length l → at l k ≡ Some (slice_index_or l k d)
at_in [] k d h = absurd (omega arith)
at_in (x ∷ l) zero d h = refl
at_in (x ∷ l) (suc k) d h = at_in l k d (omega arith)

pub at_get_or : (l : List ℕ) (k x : ℕ) → at l k ≡ Some x → slice_index l k ≡ x
at_get_or [] k x e = none_some x e
at_get_or (y ∷ l) zero x e = some_inj y x e
at_get_or (y ∷ l) (suc k) x e = at_get_or l k x e

pub at_map : {A B : Type 0} (g : A → B) (l : List A) (i : ℕ) → at (map g l) i ≡ bind (at l i) (λ x. Some (g x))
at_map g [] i = refl
at_map g (x ∷ l) zero = refl
at_map g (x ∷ l) (suc i) = at_map g l i

pub every_at : {A : Type 0} (P : A → Type 0) (l : List A) (i : ℕ) (x : A) → Every P l → at l i ≡ Some x → P x
every_at P [] i x h e = none_some x e
every_at P (y ∷ l) zero x h e = subst P (some_inj y x e) h.0
every_at P (y ∷ l) (suc i) x h e = every_at P l i x h.1 e

pub every_append : {A : Type 0} (P : A → Type 0) (l m : List A) → Every P l → Every P m → Every P (l ++ m)
every_append P [] m h k = k
every_append P (x ∷ l) m h k = (h.0, every_append P l m h.1 k)

pub bind_inv : {A B : Type 0} (o : Option A) (g : A → Option B) (y : B) → bind o g ≡ Some y → (x : A) × (o ≡ Some x) × (g x ≡ Some y)
bind_inv None g y e = none_some y e
bind_inv (Some x) g y e = (x, refl, e)

pub each_cons : {A : Type 0} (p : A → Bool) (x : A) (l : List A) → each p (x ∷ l) ≡ true → (p x ≡ true) × (each p l ≡ true)
each_cons p x l h = go (p x) refl h
  where
    go : (b : Bool) → p x ≡ b → elim b [ true ↦ each p l | false ↦ false ] ≡ true → (p x ≡ true) × (each p l ≡ true)
    go true e k = (e, k)
    go false e k = absurd (false≢true k)

-- what a test says of each member
pub every_each : {A : Type 0} (p : A → Bool) (P : A → Type 0) → ((x : A) → p x ≡ true → P x) → (l : List A) → each p l ≡ true → Every P l
every_each p P f [] h = tt
every_each p P f (x ∷ l) h = let e = each_cons p x l h in (f x e.0, every_each p P f l e.1)

pub front_long : {A : Type 0} (n : ℕ) (l : List A) → length (take n l) ≤ n
front_long zero l = omega arith
front_long (suc n) [] = omega arith
front_long (suc n) (x ∷ l) = let h : length (take n l) ≤ n = front_long n l in omega arith

pub at_none : {A : Type 0} (l : List A) (j : ℕ) → at l j ≡ None → length l ≤ j
at_none [] j e = omega arith
at_none (y ∷ l) zero e = none_some y (sym e)
at_none (y ∷ l) (suc j) e = let h : length l ≤ j = at_none l j e in omega arith

-- the test of each member as the library says it
pub each_all : {A : Type 0} (p : A → Bool) (l : List A) → list_all p l ≡ each p l
each_all p [] = refl
each_all p (x ∷ l) = go (p x) (list_all p l) (each p l) (each_all p l)
  where
    go : (b c d : Bool) → c ≡ d → (b && c) ≡ elim b [ true ↦ d | false ↦ false ]
    go true c d e = e
    go false c d e = refl
