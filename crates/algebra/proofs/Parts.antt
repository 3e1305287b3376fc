-- Laws of the parts of lists by index: the front of a list, tests, places and products from an index on.
use Rattle.std.specs.Prelude.{◌≡◌, ℕ, zero, suc, ◌+◌, ◌-◌, ◌*◌, ◌<◌, ◌≤◌, Bool, true, false, ◌&&◌, List, [], ◌∷◌, map, length, take, drop, Some, None, Option, slice_index, slice_index_or, refl}
use Rattle.std.proofs.Common.{sym, ◌∙◌, ap, ap₂, arith, add-one, drop-cons}
use Rattle.std.proofs.lemmas.Bool.{lt-ltb, le-ltb}
use Rattle.std.proofs.lemmas.List.{drop_all}
use Rattle.definitions.specs.Lists.{at, bind, each, product}
use Rattle.definitions.specs.Alg.{Op, within}
use Rattle.definitions.specs.Tables.{place_of, tabled}
use Rattle.algebra.specs.Kept.{kept_op}
use Rattle.algebra.specs.declared.table.operation.Operation.{Operation}

-- members of the front of a list
pub front_in : {A : Type 0} (n : ℕ) (l : List A) (i : ℕ) (d : A) → n ≤ length l → i < n → at (take n l) i ≡ Some (slice_index_or l i d)
front_in zero l i d h k = absurd (omega arith)
front_in (suc n) [] i d h k = absurd (omega arith)
front_in (suc n) (x ∷ l) zero d h k = refl
front_in (suc n) (x ∷ l) (suc i) d h k = front_in n l i d (omega arith) (omega arith)

pub front_out : {A : Type 0} (n : ℕ) (l : List A) (i : ℕ) → n ≤ i → at (take n l) i ≡ None
front_out zero l i h = refl
front_out (suc n) [] i h = refl
front_out (suc n) (x ∷ l) zero h = absurd (omega arith)
front_out (suc n) (x ∷ l) (suc i) h = front_out n l i (omega arith)

-- a part from the start
pub front_part : (n : ℕ) (l : List ℕ) → take (n - 0) l ≡ take n l
front_part n l = let e : n - 0 ≡ n = omega arith in ap (λ k. take k l) e

-- a test of each member, one more
pub each_step : (p : ℕ → Bool) (l : List ℕ) (i : ℕ) → i < length l → p (slice_index l i) ≡ true → each p (drop i l) ≡ each p (drop (i + 1) l)
each_step p l i h e = rw (add-one) (ap (each p) (drop-cons l i 0 h) ∙ ap (λ (b : Bool). elim b [ true ↦ each p (drop (suc i) l) | false ↦ false ]) e)

pub each_stop : (p : ℕ → Bool) (l : List ℕ) (i : ℕ) → i < length l → p (slice_index l i) ≡ false → each p (drop i l) ≡ false
each_stop p l i h e = ap (each p) (drop-cons l i 0 h) ∙ ap (λ (b : Bool). elim b [ true ↦ each p (drop (suc i) l) | false ↦ false ]) e

pub each_end : (p : ℕ → Bool) (l : List ℕ) (i : ℕ) → length l ≤ i → each p (drop i l) ≡ true
each_end p l i h = ap (each p) (drop_all i l h)

module _ (zs xs : List ℕ) (k : ℕ) (hz : k < length zs) (hx : k < length xs) where
  open_at : {Y : Type 0} (f : List ℕ → List ℕ → Y) → f (drop k zs) (drop k xs) ≡ f (slice_index zs k ∷ drop (suc k) zs) (slice_index xs k ∷ drop (suc k) xs)
  open_at f = ap₂ f (drop-cons zs k 0 hz) (drop-cons xs k 0 hx)

  pub within_next : slice_index_or xs k 0 < slice_index zs k → within (drop k zs) (drop k xs) ≡ within (drop (k + 1) zs) (drop (k + 1) xs)
  within_next h = rw add-one (open_at within ∙ ap (λ b. b && within (drop (suc k) zs) (drop (suc k) xs)) (lt-ltb (slice_index xs k) (slice_index zs k) h))

  pub within_stop : slice_index_or zs k 0 ≤ slice_index xs k → within (drop k zs) (drop k xs) ≡ false
  within_stop h = open_at within ∙ ap (λ b. b && within (drop (suc k) zs) (drop (suc k) xs)) (le-ltb (slice_index xs k) (slice_index zs k) h)

  pub place_next : (n : ℕ) → place_of n (drop k zs) (drop k xs) ≡ place_of (n * slice_index zs k + slice_index xs k) (drop (k + 1) zs) (drop (k + 1) xs)
  place_next n = rw add-one (open_at (place_of n))

pub within_end : (zs xs : List ℕ) (k : ℕ) → length zs ≤ k → length xs ≤ k → within (drop k zs) (drop k xs) ≡ true
within_end zs xs k h i = ap₂ within (drop_all k zs h) (drop_all k xs i)

pub place_end : (n : ℕ) (zs xs : List ℕ) (k : ℕ) → length zs ≤ k → place_of n (drop k zs) (drop k xs) ≡ n
place_end n zs xs k h = ap (λ l. place_of n l (drop k xs)) (drop_all k zs h)

pub product_end : (zs : List ℕ) (k t : ℕ) → length zs ≤ k → t * product (drop k zs) ≡ t
product_end zs k t h = ap (λ l. t * product l) (drop_all k zs h) ∙ (let e : t * 1 ≡ t = omega arith in e)

-- an operation that is not there is not asked
ask_twice : {Y : Type 0} (sizes values : List ℕ) (os : List Operation) (i : ℕ) (g : Op → Option Y) →
    bind (at (map (tabled sizes) (map (kept_op sizes values) os)) i) g ≡ bind (at os i) (λ o. g (tabled sizes (kept_op sizes values o)))
ask_twice sizes values [] i g = refl
ask_twice sizes values (o ∷ os) zero g = refl
ask_twice sizes values (o ∷ os) (suc i) g = ask_twice sizes values os i g

pub ask_none : {Y : Type 0} (sizes values : List ℕ) (os : List Operation) (i : ℕ) (g : Op → Option Y) → None ≡ at os i → None ≡ bind (at (map (tabled sizes) (map (kept_op sizes values) os)) i) g
ask_none sizes values os i g e = ap (λ z. bind z (λ o. g (tabled sizes (kept_op sizes values o)))) e ∙ sym (ask_twice sizes values os i g)
