-- Lists in which each record stands once, and what is in those that are closed under what R and U follow.
use Rattle.std.proofs.Common.{◌≡◌, ℕ, zero, suc, ◌+◌, ◌<◌, ◌≤◌, Bool, true, false, ◌||◌, eqb, List, [], ◌∷◌, map, length, get_or, Some, sym, refl, ap, ◌∙◌, subst, true≢false, arith}
use mathlib.Core.Bool.{false≢true}
use mathlib.Core.List.Memᴰ
use mathlib.Core.List.{Memᴰ}
use lib.ListN.{length-map}
use Rattle.definitions.specs.Lists.{at, some, flat, from, up_to, strike}
use Rattle.definitions.specs.Systems.{Term, Occurrence, Equation, System}
use Rattle.definitions.specs.Solution.{iter}
use Rattle.definitions.specs.Passes.{occurs_in, marked, occurrences, calls, chained, reachable, needed}
use Rattle.definitions.specs.Reach.{ReachesMark, is_marked, leads_on, ReachedEquation, is_start, is_called}
use Rattle.theorems.proofs.Closing.{times_iter}
use Rattle.theorems.proofs.Listing.{none_some, some_same, at_map_some, from_long}
use Rattle.theorems.proofs.Numbers.{Has}
use Rattle.theorems.proofs.Marks.{true_low}
use Rattle.theorems.proofs.Reaching.{reaches_mark}
use Rattle.theorems.proofs.Expanding.{pigeons}

-- members
pub mem_has : {A : Type 0} {x : A} {xs : List A} → Memᴰ x xs → Has xs x
mem_has (Memᴰ.head e) = (0, ap Some (sym e))
mem_has (Memᴰ.tail m) = let h = mem_has m in (suc h.0, h.1)

pub has_mem : {A : Type 0} (xs : List A) (k : ℕ) (x : A) → at xs k ≡ Some x → Memᴰ x xs
has_mem [] k x e = none_some x e
has_mem (y ∷ xs) zero x e = Memᴰ.head (sym (some_same y x e))
has_mem (y ∷ xs) (suc k) x e = Memᴰ.tail (has_mem xs k x e)

pub flat_has : {A B : Type 0} (f : A → List B) {x : A} {xs : List A} {y : B} → Memᴰ x xs → Memᴰ y (f x) → Memᴰ y (flat (map f xs))
flat_has f {y = y} (Memᴰ.head {x = z} {xs} e) m = Memᴰ.append_left (flat (map f xs)) (subst (λ w. Memᴰ y (f w)) e m)
flat_has f (Memᴰ.tail {x = z} m) n = Memᴰ.append_right (f z) (flat_has f m n)

-- a record, by a test that only it passes
module _ {A : Type 0} (same : A → Bool) (x : A) (exact : (y : A) → same y ≡ true → y ≡ x) (own : same x ≡ true) where
  pub tested_has : (ys : List A) → some same ys ≡ true → Has ys x
  tested_has [] h = absurd (false≢true h)
  tested_has (y ∷ ys) h = go (tested_has ys) (same y) refl h
    where
      go : (some same ys ≡ true → Has ys x) → (b : Bool) → same y ≡ b → elim b [ true ↦ true | false ↦ some same ys ] ≡ true → Has (y ∷ ys) x
      go ih true e k = (0, ap Some (exact y e))
      go ih false e k = (suc (ih k).0, (ih k).1)

  pub tested_not : (ys : List A) → some same ys ≡ false → Has ys x → ⊥
  tested_not [] h m = none_some x m.1
  tested_not (y ∷ ys) h m = go (tested_not ys) (same y) refl h m.0 m.1
    where
      go : (some same ys ≡ false → Has ys x → ⊥) → (b : Bool) → same y ≡ b → elim b [ true ↦ true | false ↦ some same ys ] ≡ false → (j : ℕ) → at (y ∷ ys) j ≡ Some x → ⊥
      go ih true e k j q = true≢false k
      go ih false e k zero q = true≢false (sym (ap same (some_same y x q) ∙ own) ∙ e)
      go ih false e k (suc j) q = ih k (j, q)

-- distinct records that have numbers of their own below n are at most n
at_from : (k n i : ℕ) → i < n → at (from k n) i ≡ Some (k + i)
at_from k zero i l = absurd (omega arith)
at_from k (suc n) zero l = ap Some (omega arith)
at_from k (suc n) (suc i) l = at_from (suc k) n i (omega arith) ∙ ap Some (omega arith)

module _ {A : Type 0} (code : A → ℕ) (n : ℕ) (xs : List A) (once : (i j : ℕ) (x : A) → at xs i ≡ Some x → at xs j ≡ Some x → i ≡ j) (low : (i : ℕ) (x : A) → at xs i ≡ Some x → code x < n)
    (exact : (i j : ℕ) (x y : A) → at xs i ≡ Some x → at xs j ≡ Some y → code x ≡ code y → x ≡ y) where
  coded_once : (i j v : ℕ) → at (map code xs) i ≡ Some v → at (map code xs) j ≡ Some v → i ≡ j
  coded_once i j v e f =
      let (x, p, q) = at_map_some code xs i v e in
      let (y, r, t) = at_map_some code xs j v f in
      once i j y (p ∙ ap Some (exact i j x y p r (q ∙ sym t))) r

  coded_low : (i v : ℕ) → at (map code xs) i ≡ Some v → (k : ℕ) × (at (up_to n) k ≡ Some v)
  coded_low i v e =
      let (x, p, q) = at_map_some code xs i v e in
      (v, at_from 0 n v (subst (λ w. w < n) q (low i x p)) ∙ ap Some (omega arith))

  pub coded_few : length xs ≤ n
  coded_few = omega (arith, pigeons (map code xs) (up_to n) coded_once coded_low, length-map xs code, from_long 0 n)

-- U: what has the start's equation, and with an equation the targets of its occurrences, has all that are reached
module _ (s : System) (H : ℕ → Type 0) (start : H s.start) (next : (i : ℕ) (e : Equation) (o : Occurrence) → H i → at s.equations i ≡ Some e → Memᴰ o (occurrences e) → H o.target) where
  pub reached_in : {j : ℕ} → ReachedEquation s j → H j
  reached_in is_start = start
  reached_in (is_called {i} e o p m r) = next i e o (reached_in r) p m

round_low : (s : System) (n : ℕ) → length (iter n (chained s) []) ≤ length s.equations
round_low s zero = omega arith
round_low s (suc n) = omega (arith, length-map (up_to (length s.equations)) (λ j. eqb j s.start || some (calls j) (strike (iter n (chained s) []) s.equations)), from_long 0 (length s.equations))

pub reachable_low : (s : System) (j : ℕ) → get_or (reachable s) j false ≡ true → j < length s.equations
reachable_low s j h =
    omega (arith, true_low (reachable s) j h, ap length (times_iter (length s.equations) (chained s) []), round_low s (length s.equations))

-- R: what has the marked parameters, and with a parameter those that occur in an argument for it, has all that reach a mark
module _ (s : System) (H : ℕ → ℕ → Type 0) (mark : (i k : ℕ) (e : Equation) → at s.equations i ≡ Some e → k < length e.sorts → marked e k ≡ true → H i k)
    (feed : (i k : ℕ) (e : Equation) (o : Occurrence) (n : ℕ) (t : Term) → at s.equations i ≡ Some e → k < length e.sorts → Memᴰ o (occurrences e) → at o.arguments n ≡ Some t → occurs_in k t ≡ true → H o.target n → H i k) where
  pub reaching_in : {i k : ℕ} → ReachesMark s i k → H i k
  reaching_in (is_marked {i} {k} e p l m) = mark i k e p l m
  reaching_in (leads_on {i} {k} e o n t p l m there occurs r) = feed i k e o n t p l m there occurs (reaching_in r)

reaching_there : (s : System) {i k : ℕ} → ReachesMark s i k → (e : Equation) × (at s.equations i ≡ Some e) × (k < length e.sorts)
reaching_there s (is_marked e p l m) = (e, p, l)
reaching_there s (leads_on e o n t p l m there occurs r) = (e, p, l)

pub needed_there : (s : System) (i k : ℕ) → get_or (get_or (needed s) i []) k false ≡ true → (e : Equation) × (at s.equations i ≡ Some e) × (k < length e.sorts)
needed_there s i k h = reaching_there s ((reaches_mark s i k).0 h)
