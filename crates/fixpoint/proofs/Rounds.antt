-- The rounds of one block: they come to rest, at the least assignment that the block's operator gives back.
use Prim.Native.Nat.{ℕ, zero, suc, ◌≤◌, ◌<◌, ◌+◌, ◌*◌}
use mathlib.Core.Path.{◌≡◌, refl, sym, ◌∙◌, ap, subst, fun_ext}
use mathlib.Core.Bool.{Bool, true, false}
use mathlib.Core.List.{List, [], ◌∷◌, Memᴰ}
use mathlib.Core.Logic.{◌⊎◌, inl, inr}
use native.Mathlib.Nat.{mul-suc, add-suc, add-zero, le_refl}
use native.Mathlib.Decide.{dec_le}
use native.Mathlib.Omega.{arith}
use lib.ListN.{length}
use Rattle.definitions.specs.Solution.{Block, iter, put, settled}
use Rattle.definitions.specs.Order.{Order, Le, Below, Monotone, Enough}

abbrev pub pick : {V : Type 0} → Bool → V → V → V
pick c a d = elim c [ true ↦ a | false ↦ d ]

pub antisym : {V : Type 0} (O : Order V) {a b : V} → Le O a b → Le O b a → a ≡ b
antisym O {a} {b} h k = O.height_strict a b h (O.height_mono b a k)

pub le_eq : {V : Type 0} (O : Order V) {a b : V} → a ≡ b → Le O a b
le_eq O {a} p = subst (Le O a) p (O.refl_le a)

-- the heights of the members, added up
abbrev pub total : {I V : Type 0} → Order V → List I → (I → V) → ℕ
total O [] f = 0
total O (x ∷ xs) f = O.height (f x) + total O xs f

pub total_mono : {I V : Type 0} (O : Order V) (l : List I) (f g : I → V) → Below O f g → total O l f ≤ total O l g
total_mono O [] f g h = le_refl 0
total_mono O (x ∷ xs) f g h = omega (arith, O.height_mono (f x) (g x) (h x), total_mono O xs f g h)

pub total_le : {I V : Type 0} (O : Order V) (l : List I) (f : I → V) → total O l f ≤ O.high * length l
total_le O [] f = omega arith
total_le O (x ∷ xs) f = rw mul-suc (omega (arith, O.height_le (f x), total_le O xs f))

-- as high and above: the same at each member
pub total_same : {I V : Type 0} (O : Order V) {x : I} {l : List I} (f g : I → V) → Below O f g →
    total O l g ≤ total O l f → Memᴰ x l → f x ≡ g x
total_same O {x} f g h k (Memᴰ.head {x = y} {xs} e) =
    O.height_strict (f x) (g x) (h x)
    (rw e (omega (arith, k, O.height_mono (f y) (g y) (h y), total_mono O xs f g h)))
total_same O f g h k (Memᴰ.tail {x = y} {xs} m) =
    total_same O f g h (omega (arith, k, O.height_mono (f y) (g y) (h y))) m

pub cond_le : {V : Type 0} (O : Order V) (c : Bool) {a a' d d' : V} → Le O a a' → Le O d d' → Le O (pick c a d) (pick c a' d')
cond_le O true p q = p
cond_le O false p q = q

pub put_mono : {I V : Type 0} (O : Order V) (b : Block I) (f f' e e' : I → V) → Below O f f' → Below O e e' →
    Below O (put b f e) (put b f' e')
put_mono O b f f' e e' p q x = cond_le O (b.inside x) (p x) (q x)

pub iter_mono : {I V : Type 0} (O : Order V) (n : ℕ) (g g' : (I → V) → I → V) (s s' : I → V) →
    ((f f' : I → V) → Below O f f' → Below O (g f) (g' f')) → Below O s s' → Below O (iter n g s) (iter n g' s')
iter_mono O zero g g' s s' p q = q
iter_mono O (suc n) g g' s s' p q = p (iter n g s) (iter n g' s') (iter_mono O n g g' s s' p q)

pub settled_mono : {I V : Type 0} (O : Order V) (v : V) (b : Block I) (op : (I → V) → I → V) → Monotone O op →
    Monotone O (settled v b op)
settled_mono O v b op mono e e' h =
    iter_mono O b.rounds (λ f. put b (op f) e) (λ f. put b (op f) e') (put b (λ _. v) e) (put b (λ _. v) e')
    (λ f f' k. put_mono O b (op f) (op f') e e' (mono f f' k) h)
    (put_mono O b (λ _. v) (λ _. v) e e' (λ _. O.refl_le v) h)

-- one round, and the first assignment
abbrev pub step : {I V : Type 0} → Block I → ((I → V) → I → V) → (I → V) → (I → V) → I → V
step b op e f = put b (op f) e

abbrev pub start : {I V : Type 0} → V → Block I → (I → V) → I → V
start v b e = put b (λ _. v) e

abbrev pub after : {I V : Type 0} → V → Block I → ((I → V) → I → V) → (I → V) → ℕ → I → V
after v b op e n = iter n (step b op e) (start v b e)

pub cond_false : {V : Type 0} (c : Bool) (a d : V) → c ≡ false → pick c a d ≡ d
cond_false c a d e = ap (λ z. pick z a d) e

pub cond_true : {V : Type 0} (c : Bool) (a d : V) → c ≡ true → pick c a d ≡ a
cond_true c a d e = ap (λ z. pick z a d) e

-- outside the block nothing moves
pub after_outside : {I V : Type 0} (v : V) (b : Block I) (op : (I → V) → I → V) (e : I → V) (n : ℕ) (x : I) →
    b.inside x ≡ false → after v b op e n x ≡ e x
after_outside v b op e zero x h = cond_false (b.inside x) v (e x) h
after_outside v b op e (suc n) x h = cond_false (b.inside x) (op (after v b op e n) x) (e x) h

module _ {I V : Type 0} (O : Order V) (b : Block I) (op : (I → V) → I → V) (mono : Monotone O op) (e : I → V) where
  step_mono : Monotone O (step b op e)
  step_mono f g h = put_mono O b (op f) (op g) e e (mono f g h) (λ x. O.refl_le (e x))

  pub climbs : (n : ℕ) → Below O (after O.bot b op e n) (after O.bot b op e (suc n))
  climbs zero x = cond_le O (b.inside x) (O.bot_le (op (start O.bot b e) x)) (O.refl_le (e x))
  climbs (suc n) x = step_mono (after O.bot b op e n) (after O.bot b op e (suc n)) (climbs n) x

  -- below every assignment that the round takes no higher
  pub after_least : (n : ℕ) (g : I → V) → Below O (step b op e g) g → Below O (after O.bot b op e n) g
  after_least zero g h x =
      O.trans_le (start O.bot b e x) (step b op e g x) (g x)
      (cond_le O (b.inside x) (O.bot_le (op g x)) (O.refl_le (e x))) (h x)
  after_least (suc n) g h x =
      O.trans_le (after O.bot b op e (suc n) x) (step b op e g x) (g x)
      (step_mono (after O.bot b op e n) g (after_least n g h) x) (h x)

  module _ (enough : Enough O b) where
    at : ℕ → I → V
    at n = after O.bot b op e n

    rest_here : (n : ℕ) → total O enough.members (at (suc n)) ≤ total O enough.members (at n) → at n ≡ at (suc n)
    unfolding at
    rest_here n h = fun_ext (λ x. by_place x (b.inside x) refl)
      where
        by_place : (x : I) (c : Bool) → b.inside x ≡ c → at n x ≡ at (suc n) x
        by_place x true p = total_same O (at n) (at (suc n)) (climbs n) h (enough.all x p)
        by_place x false p = after_outside O.bot b op e n x p ∙ sym (after_outside O.bot b op e (suc n) x p)

    progress : (n : ℕ) → (at n ≡ at (suc n)) ⊎ (n < total O enough.members (at (suc n)))
    unfolding at
    progress zero = go (dec_le (total O enough.members (at 1)) (total O enough.members (at 0)))
      where
        go : Dec (total O enough.members (at 1) ≤ total O enough.members (at 0)) → (at 0 ≡ at 1) ⊎ (0 < total O enough.members (at 1))
        go (yes h) = inl (rest_here 0 h)
        go (no h) = inr (omega arith)
    progress (suc n) = go (progress n)
      where
        decide : Dec (total O enough.members (at (suc (suc n))) ≤ total O enough.members (at (suc n))) → n < total O enough.members (at (suc n)) →
            (at (suc n) ≡ at (suc (suc n))) ⊎ (suc n < total O enough.members (at (suc (suc n))))
        decide (yes h) k = inl (rest_here (suc n) h)
        decide (no h) k = inr (omega arith)

        go : (at n ≡ at (suc n)) ⊎ (n < total O enough.members (at (suc n))) →
            (at (suc n) ≡ at (suc (suc n))) ⊎ (suc n < total O enough.members (at (suc (suc n))))
        go (inl p) = inl (ap (step b op e) p)
        go (inr k) = decide (dec_le (total O enough.members (at (suc (suc n)))) (total O enough.members (at (suc n)))) k

    rests : (n : ℕ) → b.rounds ≤ n → at n ≡ at (suc n)
    rests n h = go (progress n)
      where
        go : (at n ≡ at (suc n)) ⊎ (n < total O enough.members (at (suc n))) → at n ≡ at (suc n)
        go (inl p) = p
        go (inr k) = absurd (omega (arith, total_le O enough.members (at (suc n)), enough.rounds_le))

    -- more rounds change nothing
    pub more_rounds : (d : ℕ) → after O.bot b op e (b.rounds + d) ≡ settled O.bot b op e
    unfolding at
    more_rounds zero = ap (after O.bot b op e) (add-zero b.rounds)
    more_rounds (suc d) =
        ap (after O.bot b op e) (add-suc b.rounds d) ∙ sym (rests (b.rounds + d) (omega arith)) ∙ more_rounds d

    -- the round gives the settled assignment back
    pub settled_back : step b op e (settled O.bot b op e) ≡ settled O.bot b op e
    unfolding at
    settled_back = sym (rests b.rounds (le_refl b.rounds))
