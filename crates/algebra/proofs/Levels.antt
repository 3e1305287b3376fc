-- A table of pairs, the pair (a, b) at 16a + b, each entry by a rule.
use Rattle.std.proofs.Common.{◌≡◌, ℕ, zero, suc, ◌+◌, ◌*◌, ◌/◌, ◌%◌, ◌<◌, List, map, get_or, ap, ◌∙◌, ap₂, arith}
use Rattle.definitions.specs.Lists.{from, up_to}

abbrev pub pairs : (ℕ → ℕ → ℕ) → List ℕ
pairs f = map (λ k. f (k / 16) (k % 16)) (up_to 256)

entry : (g : ℕ → ℕ) (k n i : ℕ) → i < n → get_or (map g (from k n)) i 0 ≡ g (k + i)
entry g k zero i h = absurd (omega arith)
entry g k (suc n) zero h = let e : k ≡ k + 0 = omega arith in ap g e
entry g k (suc n) (suc i) h = let e : suc k + i ≡ k + suc i = omega arith in entry g (suc k) n i (omega arith) ∙ ap g e

pub pair_at : (f : ℕ → ℕ → ℕ) (a b : ℕ) → a < 16 → b < 16 → get_or (pairs f) (16 * a + b) 0 ≡ f a b
pair_at f a b ha hb =
    let k : ℕ = 16 * a + b in
    let q : (0 + k) / 16 ≡ a = omega arith in
    let r : (0 + k) % 16 ≡ b = omega arith in
    entry (λ n. f (n / 16) (n % 16)) 0 256 k (omega arith) ∙ ap₂ f q r
