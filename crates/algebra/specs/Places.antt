-- The place of some arguments among the values of an operation.
use Rattle.std.specs.Prelude.{◌≡◌, ℕ, zero, suc, ◌+◌, ◌*◌, ◌^◌, ◌<◌, ◌≤◌, Bool, true, false, ◌&&◌, List, [], ◌∷◌, length, take, drop, Some, None, Option, ◌≢◌, nat_lt, slice_index, refl}
use Rattle.std.proofs.Common.{sym, ◌∙◌, ap, arith, add-one, pow-suc, mul_assoc, mul-le-mul_right, mul-le-mul_left, mul-le-mul, suc-mul, drop-cons, get_or-take, get_or-drop}
use Rattle.std.proofs.Math.Arith.{digits_lt}
use Rattle.std.proofs.lemmas.List.{length-map}
use Rattle.std.proofs.lemmas.Bool.{ltb-true, false≢true}
use Rattle.definitions.specs.Lists.{each, product}
use Rattle.definitions.specs.Alg.{within, sized}
use Rattle.definitions.specs.Tables.{place_of}
use Rattle.algebra.specs.Lists.{and_left, and_right, some_inj, none_some, each_cons}

-- a test of each member, at one
pub each_at : (p : ℕ → Bool) (l : List ℕ) (k : ℕ) → each p l ≡ true → k < length l → p (slice_index l k) ≡ true
each_at p [] k e h = absurd (omega arith)
each_at p (x ∷ l) zero e h = (each_cons p x l e).0
each_at p (x ∷ l) (suc k) e h = each_at p l k (each_cons p x l e).1 (omega arith)

pub sized_at : (sizes ss : List ℕ) (k : ℕ) → k < length ss → slice_index (sized sizes ss) k ≡ slice_index sizes (slice_index ss k)
sized_at sizes [] k h = absurd (omega arith)
sized_at sizes (s ∷ ss) zero h = refl
sized_at sizes (s ∷ ss) (suc k) h = sized_at sizes ss k (omega arith)

pub sized_long : (sizes ss : List ℕ) → length (sized sizes ss) ≡ length ss
sized_long sizes ss = length-map ss (λ s. slice_index sizes s)

pub within_uneven : (zs xs : List ℕ) → (length xs ≢ length zs) → within zs xs ≡ false
within_uneven [] [] h = absurd (h refl)
within_uneven [] (x ∷ xs) h = refl
within_uneven (z ∷ zs) [] h = refl
within_uneven (z ∷ zs) (x ∷ xs) h = ap (λ b. nat_lt x z && b) (within_uneven zs xs (λ e. h (ap suc e))) ∙ go (nat_lt x z)
  where
    go : (b : Bool) → (b && false) ≡ false
    go true = refl
    go false = refl

-- no place is too large for its type
pub place_small : (n z x k : ℕ) → n < 65536 ^ k → x < z → z ≤ 65536 → n * z + x < 65536 ^ (k + 1)
place_small n z x k hn hx hz =
    let a : n * z + x < 65536 ^ k * z = digits_lt {m = 65536 ^ k} hn hx in
    let b : 65536 ^ k * z ≤ 65536 ^ k * 65536 = mul-le-mul_left (65536 ^ k) hz in
    let e : 65536 ^ suc k ≡ 65536 ^ k * 65536 = pow-suc 65536 k in
    rw add-one (omega arith)

more : (n z x p : ℕ) → x < z → (n * z + x + 1) * p ≤ (n + 1) * (z * p)
more n z x p h =
    let a : n * z + x + 1 ≤ (n + 1) * z = (let e : (n + 1) * z ≡ n * z + z = rw add-one (suc-mul n z) in omega arith) in
    let b : (n * z + x + 1) * p ≤ (n + 1) * z * p = mul-le-mul_right p a in
    let c : (n + 1) * z * p ≡ (n + 1) * (z * p) = mul_assoc (n + 1) z p in
    omega arith

-- the place of arguments in range is one of the values'
pub place_below : (n : ℕ) (zs xs : List ℕ) → within zs xs ≡ true → place_of n zs xs < (n + 1) * product zs
place_below n [] [] e = omega arith
place_below n [] (x ∷ xs) e = absurd (false≢true e)
place_below n (z ∷ zs) [] e = absurd (false≢true e)
place_below n (z ∷ zs) (x ∷ xs) e =
    let h : x < z = ltb-true x z (and_left (nat_lt x z) (within zs xs) e) in
    let i : place_of (n * z + x) zs xs < (n * z + x + 1) * product zs = place_below (n * z + x) zs xs (and_right (nat_lt x z) (within zs xs) e) in
    let m = more n z x (product zs) h in
    omega arith

pub placed : (b : Bool) (v w : ℕ) → Some w ≡ elim b [ true ↦ Some v | false ↦ None ] → (b ≡ true) × (v ≡ w)
placed true v w e = (refl, some_inj v w (sym e))
placed false v w e = none_some w (sym e)

pub unplaced : (b : Bool) (v : ℕ) → ◌≡◌ {A = Option ℕ} None (elim b [ true ↦ Some v | false ↦ None ]) → b ≡ false
unplaced true v e = none_some v e
unplaced false v e = refl

pub value_at : (values : List ℕ) (offset m p : ℕ) → p < m → slice_index (take m (drop offset values)) p ≡ slice_index values (offset + p)
value_at values offset m p h = get_or-take m (drop offset values) p 0 h ∙ get_or-drop offset values p 0

-- one factor more of a product
pub product_next : (zs : List ℕ) (k t : ℕ) → k < length zs → t * product (drop k zs) ≡ t * slice_index zs k * product (drop (k + 1) zs)
product_next zs k t h = rw add-one (ap (λ l. t * product l) (drop-cons zs k 0 h) ∙ sym (mul_assoc t (slice_index zs k) (product (drop (suc k) zs))))

pub product_small : (t z k : ℕ) → t ≤ 65536 ^ k → z ≤ 65536 → t * z ≤ 65536 ^ (k + 1)
product_small t z k ht hz =
    let a : t * z ≤ 65536 ^ k * 65536 = mul-le-mul ht hz in
    let e : 65536 ^ suc k ≡ 65536 ^ k * 65536 = pow-suc 65536 k in
    rw add-one (omega arith)

-- three sizes fit 48 bits
pub power_le : (k n : ℕ) → k ≤ 3 → n ≤ 65536 ^ k → n ≤ 2 ^ 48
power_le zero n h l = omega arith
power_le (suc zero) n h l = omega arith
power_le (suc (suc zero)) n h l = omega arith
power_le (suc (suc (suc zero))) n h l = l
power_le (suc (suc (suc (suc k)))) n h l = absurd (omega arith)

pub power : (k n : ℕ) → k ≤ 3 → n < 65536 ^ k → n < 2 ^ 48
power zero n h l = omega arith
power (suc zero) n h l = omega arith
power (suc (suc zero)) n h l = omega arith
power (suc (suc (suc zero))) n h l = l
power (suc (suc (suc (suc k)))) n h l = absurd (omega arith)
