-- The bits stand where they were written, and all else is as it was.
use Rattle.std.proofs.Common.{◌≡◌, ℕ, zero, suc, ◌+◌, ◌-◌, ◌*◌, ◌/◌, ◌%◌, ◌^◌, ◌<◌, ◌≤◌, Bool, true, false, cond, eqb, ltb, ◌≢◌, ◌⊎◌, List, [], ◌∷◌, length, get_or, sym, refl, ap, ◌∙◌, subst, ap₂, inl, inr, add-zero, mod-eq_of_lt, one-add, arith, length-set, get_or-set_other, get_or-set_same}
use mathlib.Core.Bool.{false≢true}
use native.Mathlib.Nat.{mod-mod}
use lib.Pow.{mod-pow-add}
use Rattle.std.proofs.lemmas.Bool.Decides.{nat_tests}
use Rattle.std.proofs.lemmas.Bool.{ltb-true, lt-ltb}
use Rattle.definitions.specs.Bits.{bit_at, field, Stands, bits}
use Rattle.definitions.specs.Lists.{each}
use Rattle.bits.specs.Put.{with_bit, set_bit, overwritten}
use Rattle.bits.specs.Back.{Bytes, are_bits, Written}
use Rattle.bits.proofs.Bytewise.{bit_in}
use Rattle.bits.proofs.Puts.{length_bits, with_bits_small}

eq_self : (n a b : ℕ) → cond (eqb n n) a b ≡ a
eq_self n a b = grind (arith, nat_tests)

neq : (m n a b : ℕ) → (m ≡ n → ⊥) → cond (eqb m n) a b ≡ b
neq m n a b h = grind (arith, nat_tests)

pub each_cons : (p : ℕ → Bool) (x : ℕ) (xs : List ℕ) → each p (x ∷ xs) ≡ true → (p x ≡ true) × (each p xs ≡ true)
each_cons p x xs h = go (p x) refl h
  where
    go : (b : Bool) → p x ≡ b → elim b [ true ↦ each p xs | false ↦ false ] ≡ true → (p x ≡ true) × (each p xs ≡ true)
    go true e h = (e, h)
    go false e h = absurd (false≢true h)

set_same : (f : List ℕ) (p b : ℕ) → Bytes f → p < 8 * length f → b < 2 → bit_at (set_bit f p b) p ≡ b
set_same f p b by hp hb =
    let lt : p / 8 < length f = omega arith in
    let x = get_or f (p / 8) 0 in
    let j = 7 - p % 8 in
    ap (λ y. y / 2 ^ j % 2) (get_or-set_same f (p / 8) (with_bit x (2 ^ j) b) 0 lt) ∙ bit_in x j j b (by (p / 8)) (omega arith) (omega arith) hb ∙ eq_self j b (x / 2 ^ j % 2)

set_other : (f : List ℕ) (p b k : ℕ) → Bytes f → p < 8 * length f → b < 2 → (k ≡ p → ⊥) → bit_at (set_bit f p b) k ≡ bit_at f k
set_other f p b k by hp hb ne =
    let lt : p / 8 < length f = omega arith in
    let x = get_or f (p / 8) 0 in
    let j = 7 - p % 8 in
    let i = 7 - k % 8 in
    elim (eqb (k / 8) (p / 8)) as (λ v. eqb (k / 8) (p / 8) ≡ v → bit_at (set_bit f p b) k ≡ bit_at f k) [
      | true ↦ λ e.
          let q : k / 8 ≡ p / 8 = grind (arith, nat_tests, e) in
          let d : j ≡ i → ⊥ = λ w. omega (arith, w, q, ne (omega (arith, w, q))) in
          ap (λ m. get_or (set_bit f p b) m 0 / 2 ^ i % 2) q ∙ ap (λ y. y / 2 ^ i % 2) (get_or-set_same f (p / 8) (with_bit x (2 ^ j) b) 0 lt) ∙
          bit_in x j i b (by (p / 8)) (omega arith) (omega arith) hb ∙ neq j i b (x / 2 ^ i % 2) d ∙ ap (λ m. get_or f m 0 / 2 ^ i % 2) (sym q)
      | false ↦ λ e. let n : k / 8 ≢ p / 8 = grind (arith, nat_tests, e) in ap (λ y. y / 2 ^ i % 2) (rw get_or-set_other)
    ] refl

set_bytes : (f : List ℕ) (p b : ℕ) → Bytes f → p < 8 * length f → b < 2 → Bytes (set_bit f p b)
set_bytes f p b by hp hb k =
    let lt : p / 8 < length f = omega arith in
    let x = get_or f (p / 8) 0 in
    let j = 7 - p % 8 in
    elim (eqb k (p / 8)) as (λ v. eqb k (p / 8) ≡ v → get_or (set_bit f p b) k 0 < 256) [
      | true ↦ λ e. let q : p / 8 ≡ k = grind (arith, nat_tests, e) in
          subst (λ (m : ℕ). get_or (set_bit f p b) m 0 < 256) q (rw get_or-set_same (with_bit_small x j b (by (p / 8)) (omega arith) hb))
      | false ↦ λ e. let n : k ≢ p / 8 = grind (arith, nat_tests, e) in rw get_or-set_other (by k)
    ] refl
  where
    with_bit_small : (x j b : ℕ) → x < 256 → j < 8 → b < 2 → with_bit x (2 ^ j) b < 256
    with_bit_small x j b hx hj hb =
        let d : 2 ^ suc j ≡ 2 * 2 ^ j = native.Mathlib.Nat.pow-suc 2 j ∙ native.Mathlib.Nat.mul_comm (2 ^ j) 2 in
        subst (λ (m : ℕ). x / m * m + b * 2 ^ j + x % 2 ^ j < 256) d (with_bits_small x (suc j) j 1 b hx (omega arith) (omega arith) hb)

pub long : (f : List ℕ) (p : ℕ) (bs : List ℕ) → length (overwritten f p bs) ≡ length f
long f p [] = refl
long f p (b ∷ bs) = long (set_bit f p b) (suc p) bs ∙ length-set f (p / 8) (with_bit (get_or f (p / 8) 0) (2 ^ (7 - p % 8)) b)

pub written : (f : List ℕ) (p : ℕ) (bs : List ℕ) → Bytes f → are_bits bs ≡ true → p + length bs ≤ 8 * length f → Written f p bs
written f p [] by hb h = record { long = refl; bytes = by; stands = subst (λ n. n ≤ 8 * length f) (add-zero p) h; same = λ k o. refl }
written f p (b ∷ bs) by hb h =
    let g = set_bit f p b in
    let e = each_cons (λ b. ltb b 2) b bs hb in
    let b2 : b < 2 = ltb-true b 2 e.0 in
    let lg : length g ≡ length f = length-set f (p / 8) (with_bit (get_or f (p / 8) 0) (2 ^ (7 - p % 8)) b) in
    let hp : p < 8 * length f = omega arith in
    let r = written g (suc p) bs (set_bytes f p b by hp b2) e.1 (omega arith) in
    record {
      long = r.long ∙ lg;
      bytes = r.bytes;
      stands = (r.same p (inl (omega arith)) ∙ set_same f p b by hp b2, r.stands);
      same = λ k o.
          let far : (k ≡ p → ⊥) × ((k < suc p) ⊎ (suc p + length bs ≤ k)) = elim o [ inl a ↦ ((λ e. omega arith), inl (omega arith)) | inr a ↦ ((λ e. omega arith), inr (omega arith)) ] in
          r.same k far.1 ∙ set_other f p b k by hp b2 far.0;
    }

pub bits_are : (w v : ℕ) → are_bits (bits w v) ≡ true
bits_are zero v = refl
bits_are (suc w) v =
    let l : (v / 2 ^ w) % 2 < 2 = omega arith in
    ap (λ (t : Bool). elim t [ true ↦ are_bits (bits w (v % 2 ^ w)) | false ↦ false ]) (lt-ltb ((v / 2 ^ w) % 2) 2 l) ∙ bits_are w (v % 2 ^ w)

-- the number of a field whose bits stand
pub field_of : (f : List ℕ) (p w v : ℕ) → Stands f p (bits w v) → field f p w ≡ v % 2 ^ w
field_of f p zero v s = omega arith
field_of f p (suc w) v s =
    let i : field f (suc p) w ≡ v % 2 ^ w % 2 ^ w = field_of f (suc p) w (v % 2 ^ w) s.1 in
    let m : v % 2 ^ (1 + w) ≡ (v / 2 ^ w % 2 ^ 1) * 2 ^ w + v % 2 ^ w = mod-pow-add v 1 w in
    ap₂ (λ x y. x * 2 ^ w + y) s.0 (i ∙ mod-mod v (2 ^ w)) ∙ sym m ∙ ap (λ n. v % 2 ^ n) (one-add w)

pub field_back : (f : List ℕ) (p w v : ℕ) → Bytes f → v < 2 ^ w → p + w ≤ 8 * length f → field (overwritten f p (bits w v)) p w ≡ v
field_back f p w v by hv h =
    let l : length (bits w v) ≡ w = length_bits w v in
    field_of (overwritten f p (bits w v)) p w v (written f p (bits w v) by (bits_are w v) (omega arith)).stands ∙ mod-eq_of_lt hv
