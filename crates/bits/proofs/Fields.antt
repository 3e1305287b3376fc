-- Laws of the fields of bits.
use Rattle.std.proofs.Common.{◌≡◌, ℕ, zero, suc, ◌+◌, ◌-◌, ◌*◌, ◌/◌, ◌%◌, ◌^◌, ◌<◌, ◌≤◌, List, length, get_or, sym, refl, ap, ◌∙◌, subst, add-zero, mul_assoc, mul_comm, add-mul, suc-add, pow-suc, zero-add, zero-mul, one-add, arith, pow_mono, pow-add, shl_exact, shr-shr}
use Rattle.std.specs.Int.{w32, from_be_bytes}
use lib.Arith.{digits_lt}
use Rattle.std.proofs.lemmas.Nat.{div-mul-add, mod-mul-add}
use lib.Pow.{mod-pow-add}
use Rattle.std.proofs.lemmas.Bool.{le-leb, lt-leb}
use Rattle.faults.specs.declared.Reason.TheVariants.{EndsInField}
use Rattle.definitions.specs.Reading.{next, stop, take}
use Rattle.definitions.specs.Bits.{bit_at, field}

pub bit_small : (f : List ℕ) (p : ℕ) → bit_at f p < 2
bit_small f p = omega arith

pub field_small : (f : List ℕ) (p w : ℕ) → field f p w < 2 ^ w
field_small f p zero = omega arith
field_small f p (suc w) =
    subst (λ n. bit_at f p * 2 ^ w + field f (suc p) w < n) (mul_comm 2 (2 ^ w) ∙ sym (pow-suc 2 w))
    (digits_lt {m = 2} (bit_small f p) (field_small f (suc p) w))

spread : (b k w x y z : ℕ) → z ≡ k * w → b * z + (x * w + y) ≡ (b * k + x) * w + y
spread b k w x y z e =
    let h : b * z ≡ b * k * w = ap (λ n. b * n) e ∙ sym (mul_assoc b k w) in
    let d : (b * k + x) * w ≡ b * k * w + x * w = add-mul (b * k) x w in
    omega arith

-- two fields in a row as one
pub field_join : (f : List ℕ) (p k w : ℕ) → field f p (k + w) ≡ field f p k * 2 ^ w + field f (p + k) w
field_join f p zero w = rw (zero-add w, zero-mul (2 ^ w), add-zero p, zero-add (field f p w)) refl
field_join f p (suc k) w =
    let ih : field f (suc p) (k + w) ≡ field f (suc p) k * 2 ^ w + field f (suc p + k) w = field_join f (suc p) k w in
    let e : suc p + k ≡ p + suc k = omega arith in
    rw (suc-add k w) (ap (λ n. bit_at f p * 2 ^ (k + w) + n) ih ∙
    spread (bit_at f p) (2 ^ k) (2 ^ w) (field f (suc p) k) (field f (suc p + k) w) (2 ^ (k + w)) (pow-add 2 k w) ∙
    ap (λ n. (bit_at f p * 2 ^ k + field f (suc p) k) * 2 ^ w + field f n w) e)

-- the first of some bits of a byte, and those behind it
first_of : (x s t k n : ℕ) → t ≡ s + k → n ≡ x / 2 ^ s % 2 ^ k → x / 2 ^ t % 2 * 2 ^ k + n ≡ x / 2 ^ s % 2 ^ suc k
first_of x s t k n e h =
    let d : x / 2 ^ t ≡ x / 2 ^ s / 2 ^ k = ap (λ m. x / 2 ^ m) e ∙ sym (shr-shr x s k) in
    let m : x / 2 ^ s % 2 ^ (1 + k) ≡ (x / 2 ^ s / 2 ^ k % 2 ^ 1) * 2 ^ k + x / 2 ^ s % 2 ^ k = mod-pow-add (x / 2 ^ s) 1 k in
    let m' : x / 2 ^ s % 2 ^ suc k ≡ (x / 2 ^ s / 2 ^ k % 2) * 2 ^ k + x / 2 ^ s % 2 ^ k = ap (λ j. x / 2 ^ s % 2 ^ j) (sym (one-add k)) ∙ m in
    ap (λ y. y % 2 * 2 ^ k + n) d ∙ ap (λ y. x / 2 ^ s / 2 ^ k % 2 * 2 ^ k + y) h ∙ sym m'

-- a field inside a byte
pub field_in : (f : List ℕ) (p k : ℕ) → p % 8 + k ≤ 8 → field f p k ≡ get_or f (p / 8) 0 / 2 ^ (8 - p % 8 - k) % 2 ^ k
field_in f p zero h = omega arith
field_in f p (suc zero) h = first_of (get_or f (p / 8) 0) (8 - p % 8 - 1) (7 - p % 8) 0 0 (omega arith) (omega arith)
field_in f p (suc (suc k)) h =
    let q : suc p / 8 ≡ p / 8 = omega arith in
    let m : suc p % 8 ≡ p % 8 + 1 = omega arith in
    let s : 8 - suc p % 8 - suc k ≡ 8 - p % 8 - suc (suc k) = omega arith in
    let ih : field f (suc p) (suc k) ≡ get_or f (suc p / 8) 0 / 2 ^ (8 - suc p % 8 - suc k) % 2 ^ suc k = field_in f (suc p) (suc k) (omega arith) in
    let i : field f (suc p) (suc k) ≡ get_or f (p / 8) 0 / 2 ^ (8 - p % 8 - suc (suc k)) % 2 ^ suc k = ih ∙ ap (λ n. get_or f n 0 / 2 ^ (8 - suc p % 8 - suc k) % 2 ^ suc k) q ∙ ap (λ n. get_or f (p / 8) 0 / 2 ^ n % 2 ^ suc k) s in
    first_of (get_or f (p / 8) 0) (8 - p % 8 - suc (suc k)) (7 - p % 8) (suc k) (field f (suc p) (suc k)) (omega arith) i

-- what a shifted 1 is
pub weight : (k : ℕ) → k ≤ 31 → (1 * 2 ^ k) % 2 ^ 32 ≡ 2 ^ k
weight k h = shl_exact {a = 1} 1 k 32 (omega arith) (omega arith) ∙ (let e : 1 * 2 ^ k ≡ 2 ^ k = omega arith in e)

pub taken : (f : List ℕ) (p w v : ℕ) → p + w ≤ 8 * length f → v ≡ field f p w → next v (p + w) ≡ take w f p
taken f p w v h e = rw (le-leb (p + w) (8 * length f) h, take) (ap (λ n. next n (p + w)) e)

pub cut_short : (f : List ℕ) (p w : ℕ) → 8 * length f < p + w → stop EndsInField p ≡ take w f p
cut_short f p w h = rw (lt-leb (p + w) (8 * length f) h, take) refl

-- a byte is the field of its eight bits
byte_is : (f : List ℕ) (k : ℕ) → get_or f k 0 < 256 → get_or f k 0 ≡ field f (8 * k) 8
byte_is f k h =
    let q : 8 * k / 8 ≡ k = omega arith in
    let m : 8 - 8 * k % 8 - 8 ≡ 0 = omega arith in
    let g : get_or f k 0 / 2 ^ 0 % 2 ^ 8 ≡ get_or f k 0 = omega arith in
    sym (field_in f (8 * k) 8 (omega arith) ∙ ap (λ n. get_or f n 0 / 2 ^ (8 - 8 * k % 8 - 8) % 2 ^ 8) q ∙ ap (λ n. get_or f k 0 / 2 ^ n % 2 ^ 8) m ∙ g)

-- one byte more of a field of bytes
byte_more : (f : List ℕ) (a i : ℕ) → get_or f (a + i) 0 < 256 → field f (8 * a) (8 * i) * 2 ^ 8 + get_or f (a + i) 0 ≡ field f (8 * a) (8 * i + 8)
byte_more f a i b =
    let p : 8 * (a + i) ≡ 8 * a + 8 * i = omega arith in
    ap (λ x. field f (8 * a) (8 * i) * 2 ^ 8 + x) (byte_is f (a + i) b ∙ ap (λ q. field f q 8) p) ∙ sym (field_join f (8 * a) (8 * i) 8)

pub field_byte : (f : List ℕ) (a i v : ℕ) → i ≤ 4 → get_or f (a + i) 0 < 256 → v ≡ field f (8 * a) (8 * i) → v * 256 % 2 ^ 64 + get_or f (a + i) 0 ≡ field f (8 * a) (8 * (i + 1))
field_byte f a i v h b e =
    let s : v < 2 ^ (8 * i) = rw e (field_small f (8 * a) (8 * i)) in
    let m : 2 ^ (8 * i) ≤ 2 ^ 32 = pow_mono {i = 8 * i} {j = 32} (omega arith) in
    let w : v * 256 % 2 ^ 64 ≡ v * 2 ^ 8 = omega arith in
    let n : 8 * i + 8 ≡ 8 * (i + 1) = omega arith in
    ap (λ x. x + get_or f (a + i) 0) w ∙ ap (λ x. x * 2 ^ 8 + get_or f (a + i) 0) e ∙ byte_more f a i b ∙ ap (λ q. field f (8 * a) q) n

-- four bytes as a number
pub four_bytes : (f bs : List ℕ) (a : ℕ) → ((k : ℕ) → get_or f k 0 < 256) → ((i : ℕ) → i < 4 → get_or bs i 0 ≡ get_or f (a + i) 0) → from_be_bytes w32 bs ≡ field f (8 * a) (8 * 4)
four_bytes f bs a small same =
    let more : (i : ℕ) → i < 4 → field f (8 * a) (8 * i) * 2 ^ 8 + get_or bs i 0 ≡ field f (8 * a) (8 * i + 8) = λ i h. ap (λ x. field f (8 * a) (8 * i) * 2 ^ 8 + x) (same i h) ∙ byte_more f a i (small (a + i)) in
    omega (arith, more 0 (omega arith), more 1 (omega arith), more 2 (omega arith), more 3 (omega arith))

-- a field cut out of one that begins before it and ends behind it
pub field_cut : (f : List ℕ) (p d w t : ℕ) → field f p (d + w + t) / 2 ^ t % 2 ^ w ≡ field f (p + d) w
field_cut f p d w t =
    ap (λ n. n / 2 ^ t % 2 ^ w) (field_join f p (d + w) t) ∙
    ap (λ n. n % 2 ^ w) (div-mul-add (field f p (d + w)) (2 ^ t) (field f (p + (d + w)) t) (field_small f (p + (d + w)) t)) ∙
    ap (λ n. n % 2 ^ w) (field_join f p d w) ∙ mod-mul-add (field f p d) (2 ^ w) (field f (p + d) w) (field_small f (p + d) w)

-- a field cut out of n bytes that hold it, with t bits behind it
pub field_of_bytes : (f : List ℕ) (p w n t v : ℕ) → w ≤ 32 → 8 * n ≡ p % 8 + w + t → v ≡ field f (8 * (p / 8)) (8 * n) → v / 2 ^ t % (1 * 2 ^ w % 2 ^ 64) ≡ field f p w
field_of_bytes f p w n t v h z i =
    let d = p % 8 in
    let q : 8 * (p / 8) + d ≡ p = omega arith in
    let s : 1 * 2 ^ w % 2 ^ 64 ≡ 2 ^ w = shl_exact {a = 1} 1 w 64 (omega arith) (omega arith) ∙ (let e : 1 * 2 ^ w ≡ 2 ^ w = omega arith in e) in
    ap (λ m. v / 2 ^ t % m) s ∙ ap (λ x. x / 2 ^ t % 2 ^ w) (i ∙ ap (λ m. field f (8 * (p / 8)) m) z) ∙ field_cut f (8 * (p / 8)) d w t ∙ ap (λ x. field f x w) q
