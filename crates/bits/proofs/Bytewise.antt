-- One bit of a byte, by a test over all bytes.
use Rattle.std.proofs.Common.{◌≡◌, ℕ, zero, suc, ◌/◌, ◌%◌, ◌^◌, ◌<◌, Bool, true, false, ◌&&◌, cond, eqb, refl, ap, ◌∙◌, arith}
use Rattle.std.proofs.lemmas.Bool.{eqb-true, and_parts}
use Rattle.bits.specs.Put.{with_bit}

-- the test holds of each number below n
abbrev below : ℕ → (ℕ → Bool) → Bool
below zero f = true
below (suc n) f = f n && below n f

below_at : (n : ℕ) (f : ℕ → Bool) → below n f ≡ true → (k : ℕ) → k < n → f k ≡ true
below_at zero f t k h = absurd (omega arith)
below_at (suc n) f t k h =
    elim (eqb k n) as (λ v. eqb k n ≡ v → f k ≡ true) [
      | true ↦ λ e. ap f (eqb-true k n e) ∙ (and_parts (f n) (below n f) t).0
      | false ↦ λ e. below_at n f (and_parts (f n) (below n f) t).1 k (grind (arith, e))
    ] refl

bit_test : ℕ → ℕ → ℕ → ℕ → Bool
bit_test x j k b = eqb (with_bit x (2 ^ j) b / 2 ^ k % 2) (cond (eqb j k) b (x / 2 ^ k % 2))

bit_all : below 256 (λ x. below 8 (λ j. below 8 (λ k. below 2 (λ b. bit_test x j k b)))) ≡ true
unfolding bit_test
bit_all = refl

-- the bit that was put in, and the others
pub bit_in : (x j k b : ℕ) → x < 256 → j < 8 → k < 8 → b < 2 → with_bit x (2 ^ j) b / 2 ^ k % 2 ≡ cond (eqb j k) b (x / 2 ^ k % 2)
unfolding bit_test
bit_in x j k b hx hj hk hb =
    eqb-true (with_bit x (2 ^ j) b / 2 ^ k % 2) (cond (eqb j k) b (x / 2 ^ k % 2))
    (below_at 2 (λ b. bit_test x j k b) (below_at 8 (λ k. below 2 (λ b. bit_test x j k b)) (below_at 8 (λ j. below 8 (λ k. below 2 (λ b. bit_test x j k b))) (below_at 256 (λ x. below 8 (λ j. below 8 (λ k. below 2 (λ b. bit_test x j k b)))) bit_all x hx) j hj) k hk) b hb)
