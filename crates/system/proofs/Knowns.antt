-- Values that become known one by one.
use Rattle.std.proofs.Common.{◌≡◌, ℕ, zero, suc, ◌+◌, ◌<◌, ◌≤◌, List, [], ◌∷◌, map, length, get_or, set, take, replicate, Some, None, Option, sym, refl, ap, ◌∙◌, subst, add-one, arith, length-set}
use Rattle.std.proofs.lemmas.List.{take_all}
use Rattle.definitions.specs.Lists.{at}
use Rattle.terms.specs.Known.{Alike}

-- the first i of xs are known, each as f says, and nothing behind them
pub record Known {X : Type 0} (f : X → Option ℕ) (xs : List X) (i : ℕ) (vs : List (Option ℕ)) : Type 0 where
  pub long : length vs ≡ 15
  pub alike : Alike vs (map f (take i xs))

none_behind : (k n : ℕ) → get_or {A = Option ℕ} (replicate k None) n None ≡ None
none_behind zero n = refl
none_behind (suc k) zero = refl
none_behind (suc k) (suc n) = none_behind k n

module _ {X : Type 0} (f : X → Option ℕ) where
  pub known_first : (xs : List X) → Known f xs 0 (replicate 15 None)
  known_first xs = record { long = refl; alike = none_behind 15 }

  -- one more
  one_more : (xs : List X) (i : ℕ) (x : X) (vs : List (Option ℕ)) → at xs i ≡ Some x → i < length vs → Alike vs (map f (take i xs)) → Alike (set vs i (f x)) (map f (take (suc i) xs))
  one_more [] i x vs e h a n = absurd cc
  one_more (y ∷ xs) zero x [] e h a n = absurd (omega arith)
  one_more (y ∷ xs) zero x (v ∷ vs) e h a zero = let k : y ≡ x = cc in ap f (sym k)
  one_more (y ∷ xs) zero x (v ∷ vs) e h a (suc n) = a (suc n)
  one_more (y ∷ xs) (suc i) x [] e h a n = absurd (omega arith)
  one_more (y ∷ xs) (suc i) x (v ∷ vs) e h a zero = a 0
  one_more (y ∷ xs) (suc i) x (v ∷ vs) e h a (suc n) = one_more xs i x vs e (omega arith) (λ n. a (suc n)) n

  pub known_next : {xs : List X} {i : ℕ} {vs : List (Option ℕ)} (x : X) (v : Option ℕ) → at xs i ≡ Some x → i < 15 → v ≡ f x → Known f xs i vs → Known f xs (i + 1) (set vs i v)
  known_next {xs = xs} {i = i} {vs = vs} x v e h k b = record {
    long = length-set vs i v ∙ b.long;
    alike = λ n. ap (λ w. get_or (set vs i w) n None) k ∙ one_more xs i x vs e (omega (arith, b.long)) b.alike n ∙ ap (λ j. get_or (map f (take j xs)) n None) (sym (add-one i));
  }

  pub known_all : {xs : List X} {i : ℕ} {vs : List (Option ℕ)} → length xs ≤ i → Known f xs i vs → Alike vs (map f xs)
  known_all {xs = xs} {i = i} {vs = vs} h b = subst (λ (ys : List X). Alike vs (map f ys)) (take_all i xs h) b.alike
