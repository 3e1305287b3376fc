-- The bits of packed bytes, and whole files read back.
use Rattle.std.proofs.Common.{◌≡◌, ℕ, zero, suc, ◌+◌, ◌-◌, ◌*◌, ◌/◌, ◌%◌, ◌^◌, ◌<◌, ◌≤◌, List, [], ◌∷◌, ◌++◌, map, length, get_or, drop, replicate, sym, refl, ap, ◌∙◌, subst, ap₂, append_assoc, append-nil, mod-eq_of_lt, mul_comm, suc-add, pow-suc, zero-add, arith, length-append, pow_pos}
use native.Mathlib.Nat.{div-eq_of_lt}
use lib.Arith.{digits_lt}
use lib.Pow.{high, low}
use Rattle.definitions.specs.Lists.{flat}
use Rattle.definitions.specs.Bits.{bit_at, field, bits, number, bytes_of, packed, Stands}
use Rattle.definitions.specs.Fits.{Every}
use Rattle.theorems.proofs.Fields.{stands_left, stands_right}

-- all bits of a file
abbrev pub bits_of : List ℕ → List ℕ
bits_of f = flat (map (bits 8) f)

-- the bit at a place, by division, is the member of the list of all bits
pub bit_in : (f : List ℕ) (p : ℕ) → bit_at f p ≡ get_or (bits_of f) p 0
bit_in [] p = ap (λ n. n % 2) (div-eq_of_lt (pow_pos (7 - p % 8)))
bit_in (x ∷ f) zero = omega arith
bit_in (x ∷ f) (suc zero) = omega arith
bit_in (x ∷ f) (suc (suc zero)) = omega arith
bit_in (x ∷ f) (suc (suc (suc zero))) = omega arith
bit_in (x ∷ f) (suc (suc (suc (suc zero)))) = omega arith
bit_in (x ∷ f) (suc (suc (suc (suc (suc zero))))) = omega arith
bit_in (x ∷ f) (suc (suc (suc (suc (suc (suc zero)))))) = omega arith
bit_in (x ∷ f) (suc (suc (suc (suc (suc (suc (suc zero))))))) = omega arith
bit_in (x ∷ f) (suc (suc (suc (suc (suc (suc (suc (suc p)))))))) =
    let n = suc (suc (suc (suc (suc (suc (suc (suc p))))))) in
    let e : n / 8 ≡ suc (p / 8) = omega arith in
    let e' : n % 8 ≡ p % 8 = omega arith in
    ap₂ (λ k m. get_or (x ∷ f) k 0 / 2 ^ (7 - m) % 2) e e' ∙ bit_in f p

-- the first w bits, with zeros behind the end
abbrev pub pad : ℕ → List ℕ → List ℕ
pad zero bs = []
pad (suc w) [] = 0 ∷ pad w []
pad (suc w) (b ∷ bs) = b ∷ pad w bs

abbrev pub Bit : ℕ → Type 0
Bit b = b < 2

pub number_below : (w : ℕ) (bs : List ℕ) → Every Bit bs → number w bs < 2 ^ w
number_below zero bs h = omega arith
number_below (suc w) [] h = pow_pos (suc w)
number_below (suc w) (b ∷ bs) h =
    subst (λ n. b * 2 ^ w + number w bs < n) (mul_comm 2 (2 ^ w) ∙ sym (pow-suc 2 w)) (digits_lt {m = 2} h.0 (number_below w bs h.1))

pub bits_zero : (w : ℕ) → bits w 0 ≡ pad w []
bits_zero zero = refl
bits_zero (suc w) = ap₂ (λ x xs. x ∷ xs) (ap (λ n. n % 2) (div-eq_of_lt (pow_pos w))) (ap (bits w) (mod-eq_of_lt (pow_pos w)) ∙ bits_zero w)

bits_number : (w : ℕ) (bs : List ℕ) → Every Bit bs → bits w (number w bs) ≡ pad w bs
bits_number zero bs h = refl
bits_number (suc w) [] h = bits_zero (suc w)
bits_number (suc w) (b ∷ bs) h =
    ap₂ (λ x xs. x ∷ xs) (ap (λ n. n % 2) (high b w (number_below w bs h.1)) ∙ mod-eq_of_lt h.0)
    (ap (bits w) (low b w (number_below w bs h.1)) ∙ bits_number w bs h.1)

drop_none : (m : ℕ) → drop {A = ℕ} m [] ≡ []
drop_none zero = refl
drop_none (suc m) = refl

pad_split : (m k : ℕ) (bs : List ℕ) → pad (m + k) bs ≡ pad m bs ++ pad k (drop m bs)
pad_split zero k bs = rw (zero-add k) refl
pad_split (suc m) k [] = ap (λ n. pad n []) (suc-add m k) ∙ ap (λ l. 0 ∷ l) (pad_split m k [] ∙ ap (λ l. pad m [] ++ pad k l) (drop_none m))
pad_split (suc m) k (b ∷ bs) = ap (λ n. pad n (b ∷ bs)) (suc-add m k) ∙ ap (λ l. b ∷ l) (pad_split m k bs)

pub every_drop : (m : ℕ) (bs : List ℕ) → Every Bit bs → Every Bit (drop m bs)
every_drop zero bs h = h
every_drop (suc m) [] h = tt
every_drop (suc m) (b ∷ bs) h = every_drop m bs h.1

pub bytes_bits : (n : ℕ) (bs : List ℕ) → Every Bit bs → bits_of (bytes_of n bs) ≡ pad (8 * n) bs
bytes_bits zero bs h = refl
bytes_bits (suc n) bs h =
    let e : 8 + 8 * n ≡ 8 * suc n = omega arith in
    ap₂ (λ x y. x ++ y) (bits_number 8 bs h) (bytes_bits n (drop 8 bs) (every_drop 8 bs h)) ∙ sym (pad_split 8 (8 * n) bs) ∙ ap (λ m. pad m bs) e

pub pad_none : (w : ℕ) → pad w [] ≡ replicate w 0
pad_none zero = refl
pad_none (suc w) = ap (λ l. 0 ∷ l) (pad_none w)

pub pad_long : (w : ℕ) (bs : List ℕ) → length bs ≤ w → pad w bs ≡ bs ++ replicate (w - length bs) 0
pad_long w [] h = pad_none w ∙ ap (λ n. replicate n 0) (sym_sub w)
  where
    sym_sub : (w : ℕ) → w ≡ w - 0
    sym_sub w = omega arith
pad_long zero (b ∷ bs) h = absurd (omega arith)
pad_long (suc w) (b ∷ bs) h =
    let e : w - length bs ≡ suc w - suc (length bs) = omega arith in
    ap (λ l. b ∷ l) (pad_long w bs (omega arith) ∙ ap (λ n. bs ++ replicate n 0) e)

pub bytes_long : (n : ℕ) (bs : List ℕ) → length (bytes_of n bs) ≡ n
bytes_long zero bs = refl
bytes_long (suc n) bs = ap suc (bytes_long n (drop 8 bs))

pub bits_long : (f : List ℕ) → length (bits_of f) ≡ 8 * length f
bits_long [] = refl
bits_long (x ∷ f) = let h = bits_long f in omega arith

-- what the list of all bits has stands in the file
get_mid : (pre : List ℕ) (b : ℕ) (post : List ℕ) → get_or (pre ++ (b ∷ post)) (length pre) 0 ≡ b
get_mid [] b post = refl
get_mid (x ∷ pre) b post = get_mid pre b post

stands_in : (f pre bs post : List ℕ) → bits_of f ≡ pre ++ (bs ++ post) → Stands f (length pre) bs
stands_in f pre [] post e =
    let l : length (bits_of f) ≡ length pre + length post = ap length e ∙ length-append pre post in
    omega (arith, bits_long f)
stands_in f pre (b ∷ bs) post e =
    let e' : bits_of f ≡ (pre ++ (b ∷ [])) ++ (bs ++ post) = e ∙ sym (append_assoc pre (b ∷ []) (bs ++ post)) in
    let l : length (pre ++ (b ∷ [])) ≡ suc (length pre) = omega (arith, length-append pre (b ∷ [])) in (
      bit_in f (length pre) ∙ ap (λ l. get_or l (length pre) 0) e ∙ get_mid pre b (bs ++ post),
      subst (λ n. Stands f n bs) l (stands_in f (pre ++ (b ∷ [])) bs post e'),
    )

field_zeros : (f : List ℕ) (p k : ℕ) → Stands f p (replicate k 0) → field f p k ≡ 0
field_zeros f p zero h = refl
field_zeros f p (suc k) h = ap₂ (λ x y. x * 2 ^ k + y) h.0 (field_zeros f (suc p) k h.1) ∙ zero_times (2 ^ k)
  where
    zero_times : (n : ℕ) → 0 * n + 0 ≡ 0
    zero_times n = omega arith

pub record Packed (bs : List ℕ) : Type 0 where
  pub stand : Stands (packed bs) 0 bs
  pub rest : field (packed bs) (length bs) (8 * length (packed bs) - length bs) ≡ 0
  pub short : 8 * length (packed bs) - length bs ≤ 7
  pub long : length (packed bs) ≡ (length bs + 7) / 8

pub packs : (bs : List ℕ) → Every Bit bs → Packed bs
packs bs h =
    let n = (length bs + 7) / 8 in
    let f = packed bs in
    let k = 8 * n - length bs in
    let all : bits_of f ≡ bs ++ replicate k 0 = bytes_bits n bs h ∙ pad_long (8 * n) bs (omega arith) in
    let s : Stands f 0 (bs ++ replicate k 0) = stands_in f [] (bs ++ replicate k 0) [] (all ∙ sym (append-nil (bs ++ replicate k 0))) in
    let z : Stands f (length bs) (replicate k 0) = subst (λ p. Stands f p (replicate k 0)) (zero-add (length bs)) (stands_right f 0 bs (replicate k 0) s) in
    record {
      stand = stands_left f 0 bs (replicate k 0) s;
      rest = subst (λ m. field f (length bs) (8 * m - length bs) ≡ 0) (sym (bytes_long n bs)) (field_zeros f (length bs) k z);
      short = omega (arith, bytes_long n bs);
      long = bytes_long n bs;
    }
