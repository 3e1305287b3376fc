-- A rising operator on finitely many bits comes to rest within as many rounds as there are bits.
use Rattle.fixpoint.proofs.Truths.{implies}
use Rattle.std.proofs.Common.{◌≡◌, ℕ, zero, suc, ◌<◌, ◌≤◌, Bool, true, ◌⊎◌, List, length, sym, refl, ap, ◌∙◌, subst, inl, inr, one-mul, arith}
use mathlib.Core.List.{Memᴰ}
use native.Mathlib.Decide.{dec_le}
use Rattle.definitions.specs.Lists.{times}
use Rattle.definitions.specs.Solution.{iter}
use Rattle.definitions.specs.Order.{truths}
use Rattle.fixpoint.proofs.Rounds.{total, total_le, total_same}

pub times_iter : {A : Type 0} (n : ℕ) (f : A → A) (x : A) → times n f x ≡ iter n f x
times_iter {A} zero f x = refl
times_iter {A} (suc n) f x = times_iter n f (f x) ∙ out n
  where
    out : (n : ℕ) → iter n f (f x) ≡ f (iter n f x)
    out zero = refl
    out (suc n) = ap f (out n)

abbrev pub Lower : {A I : Type 0} → (A → I → Bool) → A → A → Type 0
Lower {I = I} bit M N = (x : I) → bit M x ≡ true → bit N x ≡ true

module _ {A I : Type 0} (bit : A → I → Bool) (F : A → A) (z : A) (up : (M N : A) → Lower bit M N → Lower bit (F M) (F N))
    (low : (x : I) → bit z x ≡ true → ⊥) (all : List I) (mem : (M : A) (x : I) → bit (F M) x ≡ true → Memᴰ x all) where
  abbrev run : ℕ → A
  run n = iter n F z

  abbrev weigh : ℕ → ℕ
  weigh n = total truths all (bit (run n))

  climbs : (n : ℕ) → Lower bit (run n) (run (suc n))
  climbs zero x e = absurd (low x e)
  climbs (suc n) x e = up (run n) (run (suc n)) (climbs n) x e

  rest_here : (n : ℕ) → weigh (suc n) ≤ weigh n → Lower bit (run (suc n)) (run n)
  rest_here n h x e = total_same truths (bit (run n)) (bit (run (suc n))) (λ y. implies (bit (run n) y) (bit (run (suc n)) y) (climbs n y)) h (mem (run n) x e) ∙ e

  progress : (n : ℕ) → Lower bit (run (suc n)) (run n) ⊎ (n < weigh (suc n))
  progress zero = go (dec_le (weigh 1) (weigh 0))
    where
      go : Dec (weigh 1 ≤ weigh 0) → Lower bit (run 1) (run 0) ⊎ (0 < weigh 1)
      go (yes h) = inl (rest_here 0 h)
      go (no h) = inr (omega arith)
  progress (suc n) = go (progress n)
    where
      decide : Dec (weigh (suc (suc n)) ≤ weigh (suc n)) → n < weigh (suc n) → Lower bit (run (suc (suc n))) (run (suc n)) ⊎ (suc n < weigh (suc (suc n)))
      decide (yes h) k = inl (rest_here (suc n) h)
      decide (no h) k = inr (omega arith)

      go : Lower bit (run (suc n)) (run n) ⊎ (n < weigh (suc n)) → Lower bit (run (suc (suc n))) (run (suc n)) ⊎ (suc n < weigh (suc (suc n)))
      go (inl p) = inl (up (run (suc n)) (run n) p)
      go (inr k) = decide (dec_le (weigh (suc (suc n))) (weigh (suc n))) k

  pub closes : (n : ℕ) → length all ≤ n → Lower bit (F (times n F z)) (times n F z)
  closes n l = subst (λ M. Lower bit (F M) M) (sym (times_iter n F z)) (go (progress n))
    where
      go : Lower bit (run (suc n)) (run n) ⊎ (n < weigh (suc n)) → Lower bit (run (suc n)) (run n)
      go (inl p) = p
      go (inr k) = absurd (omega (arith, total_le truths all (bit (run (suc n))), one-mul (length all)))
