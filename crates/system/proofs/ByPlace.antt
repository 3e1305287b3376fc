-- What one reader reads one after another, gone through by the place.
use Rattle.std.proofs.Common.{◌≡◌, ℕ, zero, suc, ◌+◌, ◌-◌, ◌<◌, List, [], ◌∷◌, length, drop, Some, sym, ap, ◌∙◌, add-one, arith}
use Rattle.definitions.specs.Lists.{at}
use Rattle.definitions.specs.Reading.{next, Reader, follow, repeated}
use Rattle.terms.proofs.Laws.{followed}

-- where a list goes on with x, x is its next item
front : {X : Type 0} (xs : List X) (j : ℕ) (x : X) (ys : List X) → drop j xs ≡ x ∷ ys → (at xs j ≡ Some x) × (ys ≡ drop (suc j) xs)
front [] zero x ys e = absurd cc
front [] (suc j) x ys e = absurd cc
front (z ∷ zs) zero x ys e =
    let i : z ≡ x = cc in
    let k : zs ≡ ys = cc in
    (ap Some i, sym k)
front (z ∷ zs) (suc j) x ys e = front zs j x ys e

module _ {B : Type 0} (r : Reader B) (f : List ℕ) where
  -- as many are read as are asked for
  pub repeated_length : (n p : ℕ) (xs : List B) (q : ℕ) → repeated r n f p ≡ next xs q → length xs ≡ n
  repeated_length zero p xs q e = let i : xs ≡ [] = cc in ap length i
  repeated_length (suc n) p xs q e =
      let d = followed (r f p) (λ y t. follow (repeated r n f t) (λ ys u. next (y ∷ ys) u)) xs q e in
      let b = followed (repeated r n f d.1.0) (λ ys u. next (d.0 ∷ ys) u) xs q d.1.1.1 in
      let h : next (d.0 ∷ b.0) b.1.0 ≡ next xs q = b.1.1.1 in
      let i : xs ≡ d.0 ∷ b.0 = cc in
      ap length i ∙ ap suc (repeated_length n d.1.0 b.0 b.1.0 b.1.1.0)

  -- of the n things xs that are read up to q, those from number j on are read at p
  abbrev pub Ahead : ℕ → List B → ℕ → ℕ → ℕ → Type 0
  Ahead n xs q j p = repeated r (n - j) f p ≡ next (drop j xs) q

  pub ahead_begin : (n p : ℕ) (xs : List B) (q : ℕ) → repeated r n f p ≡ next xs q → Ahead n xs q 0 p
  ahead_begin n p xs q e = let i : n - 0 ≡ n = omega arith in ap (λ m. repeated r m f p) i ∙ e

  -- the next of them is read at p, and those behind it where it ends
  pub ahead_next : (n : ℕ) (xs : List B) (q j p : ℕ) → j < n → Ahead n xs q j p → (x : B) × ((u : ℕ) × ((at xs j ≡ Some x) × ((r f p ≡ next x u) × Ahead n xs q (j + 1) u)))
  ahead_next n xs q j p l e = go (n - j) (n - (j + 1)) (omega arith) e
    where
      go : (m k : ℕ) → m ≡ k + 1 → repeated r m f p ≡ next (drop j xs) q → (x : B) × ((u : ℕ) × ((at xs j ≡ Some x) × ((r f p ≡ next x u) × (repeated r k f u ≡ next (drop (j + 1) xs) q))))
      go zero k h e = absurd (omega arith)
      go (suc m) k h e =
          let d = followed (r f p) (λ y t. follow (repeated r m f t) (λ ys u. next (y ∷ ys) u)) (drop j xs) q e in
          let b = followed (repeated r m f d.1.0) (λ ys u. next (d.0 ∷ ys) u) (drop j xs) q d.1.1.1 in
          let z : next (d.0 ∷ b.0) b.1.0 ≡ next (drop j xs) q = b.1.1.1 in
          let i : drop j xs ≡ d.0 ∷ b.0 = cc in
          let w : b.1.0 ≡ q = cc in
          let y = front xs j d.0 b.0 i in
          let c : k ≡ m = omega arith in
          (d.0, (d.1.0, (y.0, (d.1.1.0, ap (λ m. repeated r m f d.1.0) c ∙ b.1.1.0 ∙ ap (λ ys. next ys b.1.0) (y.1 ∙ ap (λ i. drop i xs) (sym (add-one j))) ∙ ap (λ v. next (drop (j + 1) xs) v) w))))

  -- behind the last of them is their end
  pub ahead_end : (n : ℕ) (xs : List B) (q j p : ℕ) → n ≡ j → Ahead n xs q j p → p ≡ q
  ahead_end n xs q j p l e =
      let i : 0 ≡ n - j = omega arith in
      let z : repeated r 0 f p ≡ next (drop j xs) q = ap (λ m. repeated r m f p) i ∙ e in
      cc
