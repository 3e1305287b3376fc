-- Bits written from the first place on, and closed, are packed.
use Rattle.std.proofs.Common.{◌≡◌, ℕ, zero, suc, ◌+◌, ◌-◌, ◌*◌, ◌/◌, ◌%◌, ◌^◌, ◌<◌, ◌≤◌, Bool, true, false, ltb, List, [], ◌∷◌, ◌++◌, length, get_or, take, drop, set, replicate, sym, refl, ap, ◌∙◌, subst, ap₂, mul_comm, pow-suc, zero-add, zero-mul, arith, length-append, length-drop, take-append-drop, pow_pos}
use lib.ListN.{length-replicate}
use lib.Arith.{digits_lt, digits_div, digits_mod}
use Rattle.std.proofs.lemmas.Bool.{ltb-true}
use Rattle.definitions.specs.Bits.{bits, number, bytes_of, packed}
use Rattle.bits.specs.Put.{with_bit, set_bit, overwritten, padding, closed}
use Rattle.bits.specs.Back.{Bytes, are_bits}
use Rattle.bits.proofs.Puts.{in_a_row, put_in, with_bits}
use Rattle.bits.proofs.Written.{each_cons}

-- bits behind the first byte leave it
set_behind : (y : ℕ) (f : List ℕ) (p b : ℕ) → set_bit (y ∷ f) (8 + p) b ≡ y ∷ set_bit f p b
set_behind y f p b =
    let q : (8 + p) / 8 ≡ suc (p / 8) = omega arith in
    let m : (8 + p) % 8 ≡ p % 8 = omega arith in
    ap₂ (λ i r. set (y ∷ f) i (with_bit (get_or (y ∷ f) i 0) (2 ^ (7 - r)) b)) q m

behind : (y : ℕ) (f : List ℕ) (p : ℕ) (bs : List ℕ) → overwritten (y ∷ f) (8 + p) bs ≡ y ∷ overwritten f p bs
behind y f p [] = refl
behind y f p (b ∷ bs) =
    let e : suc (8 + p) ≡ 8 + suc p = omega arith in
    ap₂ (λ g n. overwritten g n bs) (set_behind y f p b) e ∙ behind y (set_bit f p b) (suc p) bs

number_small : (w : ℕ) (bs : List ℕ) → are_bits bs ≡ true → number w bs < 2 ^ w
number_small zero bs h = omega arith
number_small (suc w) [] h = pow_pos (suc w)
number_small (suc w) (b ∷ bs) h =
    let e = each_cons (λ b. ltb b 2) b bs h in
    subst (λ n. b * 2 ^ w + number w bs < n) (mul_comm 2 (2 ^ w) ∙ sym (pow-suc 2 w)) (digits_lt {m = 2} (ltb-true b 2 e.0) (number_small w bs e.1))

-- the bits of a number of bits
bits_number : (w : ℕ) (bs : List ℕ) → are_bits bs ≡ true → w ≤ length bs → bits w (number w bs) ≡ take w bs
bits_number zero bs h l = refl
bits_number (suc w) [] h l = absurd (omega arith)
bits_number (suc w) (b ∷ bs) h l =
    let e = each_cons (λ b. ltb b 2) b bs h in
    let b2 : b < 2 = ltb-true b 2 e.0 in
    let s = number_small w bs e.1 in
    let d : (b * 2 ^ w + number w bs) / 2 ^ w ≡ b = digits_div b s in
    let m : (b * 2 ^ w + number w bs) % 2 ^ w ≡ number w bs = digits_mod b s in
    let z : b % 2 ≡ b = omega arith in
    ap₂ (λ x xs. x ∷ xs) (ap (λ n. n % 2) d ∙ z) (ap (bits w) m ∙ bits_number w bs e.1 (omega arith))

drop_are : (k : ℕ) (bs : List ℕ) → are_bits bs ≡ true → are_bits (drop k bs) ≡ true
drop_are zero bs h = h
drop_are (suc k) [] h = refl
drop_are (suc k) (b ∷ bs) h = drop_are k bs (each_cons (λ b. ltb b 2) b bs h).1

zeros_are : (z : ℕ) → are_bits (replicate z 0) ≡ true
zeros_are zero = refl
zeros_are (suc z) = zeros_are z

append_are : (bs cs : List ℕ) → are_bits bs ≡ true → are_bits cs ≡ true → are_bits (bs ++ cs) ≡ true
append_are [] cs h k = k
append_are (b ∷ bs) cs h k =
    let e = each_cons (λ b. ltb b 2) b bs h in
    ap (λ (t : Bool). elim t [ true ↦ are_bits (bs ++ cs) | false ↦ false ]) e.0 ∙ append_are bs cs e.1 k

byte : (x v : ℕ) → x < 256 → with_bits x 256 1 v ≡ v
byte x v h = omega arith

-- whole bytes of bits from the first place on
whole : (n : ℕ) (f cs : List ℕ) → Bytes f → are_bits cs ≡ true → length cs ≡ 8 * n → n ≤ length f → overwritten f 0 cs ≡ bytes_of n cs ++ drop n f
whole zero f [] by h l k = refl
whole zero f (c ∷ cs) by h l k = absurd (omega arith)
whole (suc n) [] cs by h l k = absurd (omega arith)
whole (suc n) (x ∷ f) cs by h l k =
    let v = number 8 cs in
    let r = drop 8 cs in
    let lr : length r ≡ length cs - 8 = length-drop 8 cs in
    let e : cs ≡ bits 8 v ++ r = sym (take-append-drop 8 cs) ∙ ap (λ bs. bs ++ r) (sym (bits_number 8 cs h (omega arith))) in
    let lp : 0 < 8 * length (x ∷ f) = omega arith in
    ap (overwritten (x ∷ f) 0) e ∙ sym (in_a_row (x ∷ f) 0 (bits 8 v) r) ∙
    ap (λ g. overwritten g 8 r) (put_in (x ∷ f) 0 8 v (omega arith) (number_small 8 cs h) lp ∙ ap (λ y. y ∷ f) (byte x v (by 0))) ∙
    behind v f 0 r ∙ ap (λ g. v ∷ g) (whole n f r (λ i. by (suc i)) (drop_are 8 cs h) (omega arith) (omega arith))

number_zeros : (w z : ℕ) → number w (replicate z 0) ≡ 0
number_zeros zero z = refl
number_zeros (suc w) zero = refl
number_zeros (suc w) (suc z) = let e = number_zeros w z in let m : 0 * 2 ^ w ≡ 0 = zero-mul (2 ^ w) in omega arith

number_more : (w : ℕ) (bs : List ℕ) (z : ℕ) → number w (bs ++ replicate z 0) ≡ number w bs
number_more zero bs z = refl
number_more (suc w) [] z = number_zeros (suc w) z
number_more (suc w) (b ∷ bs) z = ap (λ n. b * 2 ^ w + n) (number_more w bs z)

drop_zeros : (w z : ℕ) → (y : ℕ) × (drop {A = ℕ} w (replicate z 0) ≡ replicate y 0)
drop_zeros zero z = (z, refl)
drop_zeros (suc w) zero = (0, refl)
drop_zeros (suc w) (suc z) = drop_zeros w z

drop_more : (w : ℕ) (bs : List ℕ) (z : ℕ) → (y : ℕ) × (drop w (bs ++ replicate z 0) ≡ drop w bs ++ replicate y 0)
drop_more zero bs z = (z, refl)
drop_more (suc w) [] z = drop_zeros (suc w) z
drop_more (suc w) (b ∷ bs) z = drop_more w bs z

-- zeros behind the end are there already
bytes_more : (n : ℕ) (bs : List ℕ) (z : ℕ) → bytes_of n (bs ++ replicate z 0) ≡ bytes_of n bs
bytes_more zero bs z = refl
bytes_more (suc n) bs z = let (y, e) = drop_more 8 bs z in ap₂ (λ v vs. v ∷ vs) (number_more 8 bs z) (ap (bytes_of n) e ∙ bytes_more n (drop 8 bs) y)

pub packs : (f bs : List ℕ) → Bytes f → are_bits bs ≡ true → length bs ≤ 8 * length f → closed (overwritten f 0 bs) (length bs) ≡ packed bs ++ drop ((length bs + 7) / 8) f
packs f bs by h l =
    let z = padding (length bs) in
    let zs = replicate z 0 in
    let n = (length bs + 7) / 8 in
    let k : length (bs ++ zs) ≡ 8 * n = length-append bs zs ∙ (let lz : length zs ≡ z = length-replicate z 0 in omega arith) in
    ap (λ p. overwritten (overwritten f 0 bs) p zs) (sym (zero-add (length bs))) ∙ in_a_row f 0 bs zs ∙
    whole n f (bs ++ zs) by (append_are bs zs h (zeros_are z)) k (omega arith) ∙ ap (λ ys. ys ++ drop n f) (bytes_more n bs z)
