-- Readings of one thing after another.
use Rattle.std.proofs.Common.{◌≡◌, ℕ, zero, suc, ◌+◌, ◌<◌, ◌≤◌, List, [], ◌∷◌, ◌++◌, length, drop, Some, IsErrAnd, Result, sym, refl, ap, ◌∙◌, zero-add, add-one, arith}
use Rattle.std.proofs.lemmas.List.{append-nil, drop_all}
use Rattle.faults.specs.declared.Reason.{Reason}
use Rattle.faults.specs.declared.Stop.{Stop}
use Rattle.definitions.specs.Lists.{at, from, up_to}
use Rattle.definitions.specs.Reading.{Step, next, stop, Reader, follow, repeated, one_by_one}
use Rattle.definitions.specs.ReadSystem.{Sorted}
use Rattle.bits.specs.declared.file.Cursor.{Cursor}
use Rattle.bits.specs.InRow.{before}
use Rattle.bits.specs.Told.{told, Reads}
use Rattle.bits.proofs.InRow.{snoc_at, begin, passed}
use Rattle.system.specs.Steps.{sorts, placed}
use Rattle.system.specs.Rows.{Skipped, Kept}

-- what `?` hands on of a reading that stopped
pub stopped : {T Y : Type 0} (what : T → Y) (q : ℕ) (res : Result T Stop) (e : Stop) (m : Step Y) → IsErrAnd res (λ y. y ≡ e) → stop e.reason e.place ≡ m → told what q res ≡ m
stopped what q res e m h k = ap (told what q) (passed res e h) ∙ k

-- what a reader further on answers is the answer
pub handed : {T Y : Type 0} (what : T → Y) (r s : Reader Y) (old mid new : Cursor) (res : Result T Stop) → mid.bytes.now ≡ old.bytes.now → Reads what r mid new res → r old.bytes.now mid.at ≡ s old.bytes.now old.at → Reads what s old new res
handed what r s old mid new res e h k = (h.0 ∙ ap (λ f. r f mid.at) e ∙ k, h.1 ∙ e)

pub placed_sorts : (m : Step Sorted) → placed (sorts m) ≡ placed m
placed_sorts (next x q) = refl
placed_sorts (stop r q) = refl

pub dropped : {X : Type 0} (xs : List X) (i : ℕ) (x : X) → at xs i ≡ Some x → drop i xs ≡ x ∷ drop (suc i) xs
dropped [] i x e = absurd cc
dropped (y ∷ xs) zero x e = let i : y ≡ x = cc in ap (λ z. z ∷ xs) i
dropped (y ∷ xs) (suc i) x e = dropped xs i x e

placed_more : {B : Type 0} (y : B) (m : Step (List B)) → placed (follow m (λ ys q. next (y ∷ ys) q)) ≡ placed m
placed_more y (next x q) = refl
placed_more y (stop r q) = refl

next_at : {B : Type 0} (k : ℕ → Step (List B)) (q : ℕ) (m : Step B) → next tt q ≡ placed m → placed (follow m (λ y t. follow (k t) (λ ys u. next (y ∷ ys) u))) ≡ placed (k q)
next_at k q (next y t) e = let i : t ≡ q = cc in placed_more y (k t) ∙ ap (λ z. placed (k z)) i
next_at k q (stop r t) e = absurd cc

stop_at : {A B : Type 0} (k : B → ℕ → Step A) (r : Reason) (q : ℕ) (m : Step B) → stop r q ≡ placed m → stop r q ≡ placed (follow m k)
stop_at k r q (next y t) e = absurd cc
stop_at k r q (stop s t) e = e

module _ {X B : Type 0} (r : X → Reader B) (xs : List X) where
  pub kept_first : (c : Cursor) (f : List ℕ) → c.bytes.now ≡ f → Kept r xs 0 [] f c.at c
  kept_first c f e = record { same = e; rest = begin (one_by_one r xs f c.at) }

  pub skipped_next : {i : ℕ} {f : List ℕ} {p : ℕ} {now : Cursor} (new : Cursor) (x : X) → at xs i ≡ Some x → Skipped r xs i f p now → (next tt new.at ≡ placed (r x now.bytes.now now.at)) × (new.bytes.now ≡ now.bytes.now) → Skipped r xs (i + 1) f p new
  skipped_next {i = i} {f = f} {now = now} new x h b k = record {
    same = k.1 ∙ b.same;
    rest = b.rest ∙ ap (λ ys. placed (one_by_one r ys f now.at)) (dropped xs i x h) ∙
        next_at (one_by_one r (drop (suc i) xs) f) new.at (r x f now.at) (k.0 ∙ ap (λ g. placed (r x g now.at)) b.same) ∙
        ap (λ j. placed (one_by_one r (drop j xs) f new.at)) (sym (add-one i));
  }

  pub skipped_stop : {i : ℕ} {f : List ℕ} {p : ℕ} {now : Cursor} (e : Stop) (x : X) → at xs i ≡ Some x → Skipped r xs i f p now → stop e.reason e.place ≡ placed (r x now.bytes.now now.at) → stop e.reason e.place ≡ placed (one_by_one r xs f p)
  skipped_stop {i = i} {f = f} {now = now} e x h b k =
      stop_at (λ y t. follow (one_by_one r (drop (suc i) xs) f t) (λ ys u. next (y ∷ ys) u)) e.reason e.place (r x f now.at) (k ∙ ap (λ g. placed (r x g now.at)) b.same) ∙
      sym (b.rest ∙ ap (λ ys. placed (one_by_one r ys f now.at)) (dropped xs i x h))

  pub skipped_end : {i : ℕ} {f : List ℕ} {p : ℕ} {now : Cursor} → length xs ≤ i → Skipped r xs i f p now → next tt now.at ≡ placed (one_by_one r xs f p)
  skipped_end {i = i} {f = f} {now = now} h b = sym (b.rest ∙ ap (λ ys. placed (one_by_one r ys f now.at)) (drop_all i xs h))

  pub kept_next : {i : ℕ} {ys : List B} {f : List ℕ} {p : ℕ} {now : Cursor} (new : Cursor) (x : X) (y : B) → at xs i ≡ Some x → Kept r xs i ys f p now → (next y new.at ≡ r x now.bytes.now now.at) × (new.bytes.now ≡ now.bytes.now) → Kept r xs (i + 1) (ys ++ (y ∷ [])) f p new
  kept_next {i = i} {ys = ys} {f = f} {now = now} new x y h b k = record {
    same = k.1 ∙ b.same;
    rest = b.rest ∙ ap (λ zs. before ys (one_by_one r zs f now.at)) (dropped xs i x h) ∙
        ap (λ m. before ys (follow m (λ y t. follow (one_by_one r (drop (suc i) xs) f t) (λ ys u. next (y ∷ ys) u)))) (sym (k.0 ∙ ap (λ g. r x g now.at) b.same)) ∙
        snoc_at ys y (one_by_one r (drop (suc i) xs) f new.at) ∙ ap (λ j. before (ys ++ (y ∷ [])) (one_by_one r (drop j xs) f new.at)) (sym (add-one i));
  }

  pub kept_stop : {i : ℕ} {ys : List B} {f : List ℕ} {p : ℕ} {now : Cursor} (e : Stop) (x : X) → at xs i ≡ Some x → Kept r xs i ys f p now → stop e.reason e.place ≡ r x now.bytes.now now.at → stop e.reason e.place ≡ one_by_one r xs f p
  kept_stop {i = i} {ys = ys} {f = f} {now = now} e x h b k =
      ap (λ m. before ys (follow m (λ y t. follow (one_by_one r (drop (suc i) xs) f t) (λ ys u. next (y ∷ ys) u)))) (k ∙ ap (λ g. r x g now.at) b.same) ∙
      sym (b.rest ∙ ap (λ zs. before ys (one_by_one r zs f now.at)) (dropped xs i x h))

  pub kept_end : {i : ℕ} {ys : List B} {f : List ℕ} {p : ℕ} {now : Cursor} → length xs ≤ i → Kept r xs i ys f p now → next ys now.at ≡ one_by_one r xs f p
  kept_end {i = i} {ys = ys} {f = f} {now = now} h b = sym (b.rest ∙ ap (λ zs. before ys (one_by_one r zs f now.at)) (drop_all i xs h) ∙ ap (λ w. next w now.at) (append-nil ys))

-- a count as a row of numbers
pub at_from : (k n i : ℕ) → i < n → at (from k n) i ≡ Some (k + i)
at_from k zero i h = absurd (omega arith)
at_from k (suc n) zero h = let e : k ≡ k + 0 = omega arith in ap Some e
at_from k (suc n) (suc i) h = let e : suc k + i ≡ k + suc i = omega arith in at_from (suc k) n i (omega arith) ∙ ap Some e

pub at_up_to : (n i : ℕ) → i < n → at (up_to n) i ≡ Some i
at_up_to n i h = at_from 0 n i h ∙ ap Some (zero-add i)

pub length_from : (k n : ℕ) → length (from k n) ≡ n
length_from k zero = refl
length_from k (suc n) = ap suc (length_from (suc k) n)

pub counted : {B : Type 0} (r : Reader B) (k n : ℕ) (f : List ℕ) (p : ℕ) → one_by_one (λ (_ : ℕ). r) (from k n) f p ≡ repeated r n f p
counted r k zero f p = refl
counted {B} r k (suc n) f p = go (λ t. counted r (suc k) n f t) (r f p)
  where
    go : ((t : ℕ) → one_by_one (λ (_ : ℕ). r) (from (suc k) n) f t ≡ repeated r n f t) → (m : Step B) → follow m (λ y t. follow (one_by_one (λ (_ : ℕ). r) (from (suc k) n) f t) (λ ys u. next (y ∷ ys) u)) ≡ follow m (λ y t. follow (repeated r n f t) (λ ys u. next (y ∷ ys) u))
    go ih (next y t) = ap (λ m. follow m (λ ys u. next (y ∷ ys) u)) (ih t)
    go ih (stop s t) = refl
