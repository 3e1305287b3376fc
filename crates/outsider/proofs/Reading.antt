-- Reading bit by bit what stands in a file.
use Rattle.std.proofs.Common.{◌≡◌, ℕ, zero, suc, ◌+◌, ◌*◌, ◌<◌, ◌≤◌, List, [], ◌∷◌, length, Some, None, Option, sym, refl, ap, ◌∙◌, subst, arith}
use Rattle.definitions.specs.Bits.{bits, bit_at, Stands}
use Rattle.definitions.specs.Reading.{next, take}
use Rattle.bits.specs.Took.{took}
use Rattle.theorems.proofs.Fields.{takes}

bit_below : (f : List ℕ) (p : ℕ) → bit_at f p < 2
bit_below f p = omega arith

pub one_bit : (b : ℕ) → b < 2 → bits 1 b ≡ b ∷ []
one_bit zero l = refl
one_bit (suc zero) l = refl
one_bit (suc (suc b)) l = absurd (omega arith)

pub bit_small : (f : List ℕ) (p b : ℕ) (bs : List ℕ) → Stands f p (b ∷ bs) → b < 2
bit_small f p b bs h = subst (λ n. n < 2) h.0 (bit_below f p)

at_end : (f : List ℕ) (p : ℕ) (bs : List ℕ) → Stands f p bs → p ≤ 8 * length f
at_end f p [] h = h
at_end f p (b ∷ bs) h = omega (arith, at_end f (suc p) bs h.1)

same_took : (r : Option ℕ) (p q b u : ℕ) → took r p q ≡ next b u → (r ≡ Some b) × (q ≡ u)
same_took None p q b u e = absurd cc
same_took (Some v) p q b u e =
    let x : v ≡ b = cc in
    let y : q ≡ u = cc in
    (ap Some x, y)

-- the bit that stands there is read
pub bit_read : (f : List ℕ) (p : ℕ) (b : ℕ) (bs : List ℕ) (r : Option ℕ) (q : ℕ) → Stands f p (b ∷ bs) → took r p q ≡ take 1 f p → (r ≡ Some b) × (q ≡ suc p)
bit_read f p b bs r q h e =
    let l = bit_small f p b bs h in
    let s : Stands f p (bits 1 b) = subst (Stands f p) (sym (one_bit b l)) (h.0, at_end f (suc p) bs h.1) in
    let t = same_took r p q b (p + 1) (e ∙ takes f p 1 b l s) in
    (t.0, omega (arith, t.1))
