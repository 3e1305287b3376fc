-- Zeros behind the values that are kept.
use Rattle.std.proofs.Common.{◌≡◌, ℕ, zero, suc, ◌+◌, ◌-◌, ◌<◌, ◌≤◌, List, [], ◌∷◌, ◌++◌, length, take, drop, set, replicate, sym, ap, ◌∙◌, add-one, arith, take-append-drop, length-take-le}
use Rattle.system.specs.Bodies.{padded}

pub zeros_next : (xs : List ℕ) (i n x : ℕ) → drop i xs ≡ replicate (n - i) 0 → i < n → drop (i + 1) (set xs i x) ≡ replicate (n - (i + 1)) 0
zeros_next xs i n x e h = rw add-one (go xs i (n - i) (n - suc i) e (omega arith))
  where
    go : (xs : List ℕ) (i u v : ℕ) → drop i xs ≡ replicate u 0 → u ≡ suc v → drop (suc i) (set xs i x) ≡ replicate v 0
    go xs i zero v e k = absurd (omega arith)
    go [] zero (suc u) v e k = absurd cc
    go [] (suc i) (suc u) v e k = absurd cc
    go (y ∷ ys) zero (suc u) v e k = let j : u ≡ v = omega arith in let l : ys ≡ replicate u 0 = cc in l ∙ ap (λ m. replicate m 0) j
    go (y ∷ ys) (suc i) (suc u) v e k = go ys i (suc u) v e k

pub zeros_end : (xs : List ℕ) (n : ℕ) → n ≤ length xs → drop n xs ≡ replicate (15 - n) 0 → xs ≡ padded (take n xs)
zeros_end xs n h e =
    let l : n ≡ length (take n xs) = sym (length-take-le n xs h) in
    sym (take-append-drop n xs) ∙ ap (λ ys. take n xs ++ ys) e ∙ ap (λ m. take n xs ++ replicate (15 - m) 0) l
