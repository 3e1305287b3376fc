-- Zero tails, and results in front of a buffer.
use Rattle.std.proofs.Common.{◌≡◌, ℕ, zero, suc, ◌+◌, ◌-◌, ◌≤◌, List, [], ◌∷◌, ◌++◌, length, get_or, take, drop, replicate, sym, refl, ap, ◌∙◌, arith}
use lib.Seq.{take-append_seam, drop-append_seam}
use Rattle.std.proofs.lemmas.List.{get_or-drop}
use Rattle.definitions.specs.Calls.{Delivered}
use Rattle.bench.specs.declared.Bench.{Bench}
use Rattle.bench.specs.Holds.{holding}

pub none : (k : ℕ) → get_or {A = ℕ} [] k 0 ≡ 0
none zero = refl
none (suc k) = refl

pub zeros : (n k : ℕ) → get_or {A = ℕ} (replicate n 0) k 0 ≡ 0
zeros zero k = none k
zeros (suc n) zero = refl
zeros (suc n) (suc k) = zeros n k

-- what is put in front stands there, and what stood behind it stays
pub seam_front : (f before after : List ℕ) → after ≡ f ++ drop (length f) before → take (length f) after ≡ f
seam_front f before after e = ap (take (length f)) e ∙ take-append_seam f (drop (length f) before)

pub seam_rest : (f before after : List ℕ) → after ≡ f ++ drop (length f) before → drop (length f) after ≡ drop (length f) before
seam_rest f before after e = ap (drop (length f)) e ∙ drop-append_seam f (drop (length f) before)

pub delivered_rest : (g before after : List ℕ) (n : ℕ) → Delivered g before after n → drop n after ≡ drop n before
delivered_rest g before after n d =
    ap (λ m. drop m after) d.long ∙ (seam_rest g before after d.front ∙ ap (λ m. drop m before) (sym d.long))

pub tail_zero : (n : ℕ) (xs ys : List ℕ) → drop n xs ≡ drop n ys → ((k : ℕ) → get_or ys k 0 ≡ 0) → (k : ℕ) → n ≤ k → get_or xs k 0 ≡ 0
tail_zero n xs ys e z k h =
    let i : n + (k - n) ≡ k = omega arith in
    ap (λ j. get_or xs j 0) (sym i) ∙ (sym (get_or-drop n xs (k - n) 0) ∙ (ap (λ l. get_or l (k - n) 0) e ∙ (get_or-drop n ys (k - n) 0 ∙ z (n + (k - n)))))

-- a bench whose length is not zero holds something
pub holds_some : (b : Bench) → 1 ≤ b.len → 1 ≤ length b.bytes → 1 ≤ length (holding b)
holds_some b l m = go b.len b.bytes l m
  where
    go : (n : ℕ) (xs : List ℕ) → 1 ≤ n → 1 ≤ length xs → 1 ≤ length (take n xs)
    go zero xs l m = absurd (omega arith)
    go (suc n) [] l m = absurd (omega arith)
    go (suc n) (x ∷ xs) l m = omega arith
