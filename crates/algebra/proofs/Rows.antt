-- What readers, also in a row, leave of their values, and that they go forward.
use Rattle.std.proofs.Common.{◌≡◌, ℕ, zero, suc, ◌+◌, ◌*◌, ◌≤◌, Bool, true, false, ltb, leb, List, [], ◌∷◌, length, IsErrAnd, Some, None, Ok, Err, Option, Result, sym, refl, ap, ◌∙◌, subst, arith}
use Rattle.std.proofs.lemmas.Bool.{leb-true}
use Rattle.faults.specs.declared.Reason.{Reason}
use Rattle.faults.specs.declared.Reason.TheVariants.{EndsInField}
use Rattle.faults.specs.declared.Stop.{Stop}
use Rattle.bits.specs.Told.{told}
use Rattle.definitions.specs.Bits.{field}
use Rattle.definitions.specs.Lists.{each}
use Rattle.definitions.specs.Reading.{Step, next, stop, Reader, follow, given, take, take_for, below, repeated}
use Rattle.algebra.specs.Lists.{some_inj, none_some}

-- a field that was accepted
pub for_inv : {X : Type 0} (w : ℕ) (what : ℕ → Option X) (r : Reason) (f : List ℕ) (p : ℕ) (x : X) (q : ℕ) → next x q ≡ take_for w what r f p →
    (what (field f p w) ≡ Some x) × (q ≡ p + w) × (p + w ≤ 8 * length f)
for_inv {X = X} w what r f p x q e = go (leb (p + w) (8 * length f)) refl e
  where
    there : (o : Option X) → next x q ≡ given o r p f (p + w) → (o ≡ Some x) × (q ≡ p + w)
    there (Some y) e = (cc, cc)
    there None e = absurd cc

    go : (b : Bool) → leb (p + w) (8 * length f) ≡ b → next x q ≡ follow (elim b [ true ↦ next (field f p w) (p + w) | false ↦ stop EndsInField p ]) (λ n t. given (what n) r p f t) →
        (what (field f p w) ≡ Some x) × (q ≡ p + w) × (p + w ≤ 8 * length f)
    go true l e = let h = there (what (field f p w)) e in (h.0, h.1, leb-true (p + w) (8 * length f) l)
    go false l e = absurd cc

pub below_inv : (n v s : ℕ) → below n v ≡ Some s → ltb s n ≡ true
below_inv n v s e = go (ltb v n) refl e
  where
    go : (b : Bool) → ltb v n ≡ b → elim b [ true ↦ Some v | false ↦ None ] ≡ Some s → ltb s n ≡ true
    go true l e = ap (λ k. ltb k n) (sym (some_inj v s e)) ∙ l
    go false l e = none_some s e

-- what holds of each that a reader gives holds of all that it gives in a row
module _ {X : Type 0} (f : List ℕ) (r : Reader X) (p : X → Bool) (holds : (at : ℕ) (x : X) (q : ℕ) → next x q ≡ r f at → p x ≡ true) where
  pub row_inv : (n at : ℕ) (xs : List X) (q : ℕ) → next xs q ≡ repeated r n f at → (each p xs ≡ true) × (length xs ≡ n)
  row_inv zero at [] q e = (refl, refl)
  row_inv zero at (x ∷ xs) q e = absurd cc
  row_inv (suc n) at xs q e = first (r f at) refl (λ t. row_inv n t) e
    where
      rest : (y : X) → p y ≡ true → (m : Step (List X)) → ((ys : List X) (u : ℕ) → next ys u ≡ m → (each p ys ≡ true) × (length ys ≡ n)) → next xs q ≡ follow m (λ ys u. next (y ∷ ys) u) →
          (each p xs ≡ true) × (length xs ≡ suc n)
      rest y h (next ys u) ih e =
          let k = ih ys u refl in
          let same : y ∷ ys ≡ xs = cc in
          subst (λ (zs : List X). (each p zs ≡ true) × (length zs ≡ suc n)) same (ap (λ (b : Bool). elim b [ true ↦ each p ys | false ↦ false ]) h ∙ k.0, ap suc k.1)
      rest y h (stop s u) ih e = absurd cc

      first : (m : Step X) → r f at ≡ m → ((t : ℕ) (ys : List X) (u : ℕ) → next ys u ≡ repeated r n f t → (each p ys ≡ true) × (length ys ≡ n)) →
          next xs q ≡ follow m (λ y t. follow (repeated r n f t) (λ ys u. next (y ∷ ys) u)) → (each p xs ≡ true) × (length xs ≡ suc n)
      first (next y t) l ih e = rest y (holds at y t (sym l)) (repeated r n f t) (ih t) e
      first (stop s t) l ih e = absurd cc

pub take_inv : (w : ℕ) (f : List ℕ) (p v q : ℕ) → next v q ≡ take w f p → (q ≡ p + w) × (p + w ≤ 8 * length f)
take_inv w f p v q e = go (leb (p + w) (8 * length f)) refl e
  where
    go : (b : Bool) → leb (p + w) (8 * length f) ≡ b → next v q ≡ elim b [ true ↦ next (field f p w) (p + w) | false ↦ stop EndsInField p ] → (q ≡ p + w) × (p + w ≤ 8 * length f)
    go true l e = (cc, leb-true (p + w) (8 * length f) l)
    go false l e = absurd cc

-- readers go forward
module _ {X : Type 0} (f : List ℕ) (r : Reader X) (on : (p : ℕ) (x : X) (q : ℕ) → next x q ≡ r f p → p ≤ q) where
  pub row_on : (n p : ℕ) (xs : List X) (q : ℕ) → next xs q ≡ repeated r n f p → p ≤ q
  row_on zero p xs q e = let h : q ≡ p = cc in omega arith
  row_on (suc n) p xs q e = first (r f p) refl (λ t. row_on n t) e
    where
      rest : (y : X) (t : ℕ) → p ≤ t → (m : Step (List X)) → ((ys : List X) (u : ℕ) → next ys u ≡ m → t ≤ u) → next xs q ≡ follow m (λ ys u. next (y ∷ ys) u) → p ≤ q
      rest y t h (next ys u) ih e = let k : t ≤ u = ih ys u refl in let s : q ≡ u = cc in omega arith
      rest y t h (stop s u) ih e = absurd cc

      first : (m : Step X) → r f p ≡ m → ((t : ℕ) (ys : List X) (u : ℕ) → next ys u ≡ repeated r n f t → t ≤ u) → next xs q ≡ follow m (λ y t. follow (repeated r n f t) (λ ys u. next (y ∷ ys) u)) → p ≤ q
      first (next y t) l ih e = rest y t (on p y t (sym l)) (repeated r n f t) (ih t) e
      first (stop s t) l ih e = absurd cc

-- numbers below a limit, in a row
module _ (w n : ℕ) (reason : Reason) (f : List ℕ) where
  pub for_below : (p x q : ℕ) → next x q ≡ take_for w (below n) reason f p → ltb x n ≡ true
  for_below p x q e = below_inv n (field f p w) x (for_inv w (below n) reason f p x q e).0

  pub row_below : (k p : ℕ) (xs : List ℕ) (q : ℕ) → next xs q ≡ repeated (take_for w (below n) reason) k f p → (each (λ x. ltb x n) xs ≡ true) × (length xs ≡ k)
  row_below = row_inv f (take_for w (below n) reason) (λ x. ltb x n) for_below

  pub for_on : (p x q : ℕ) → next x q ≡ take_for w (below n) reason f p → p ≤ q
  for_on p x q e = let h : q ≡ p + w = (for_inv w (below n) reason f p x q e).1 in omega arith

  pub row_below_on : (k p : ℕ) (xs : List ℕ) (q : ℕ) → next xs q ≡ repeated (take_for w (below n) reason) k f p → p ≤ q
  row_below_on = row_on f (take_for w (below n) reason) for_on

-- what follows a reader that stopped
pub follow_stop : {T X Y : Type 0} (what : T → X) (also : T → Y) (k : X → ℕ → Step Y) (q : ℕ) (m : Step X) (res : Result T Stop) (e : Stop) → IsErrAnd res (λ y. y ≡ e) → told what q res ≡ m → told also q res ≡ follow m k
follow_stop what also k q m (Ok x) e h t = absurd h
follow_stop what also k q m (Err y) e h t = ap (λ s. follow s k) t
