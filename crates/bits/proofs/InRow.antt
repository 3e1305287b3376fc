-- Readings in a row, one more at a time.
use Rattle.std.proofs.Common.{◌≡◌, ℕ, zero, suc, ◌+◌, ◌-◌, ◌<◌, List, [], ◌∷◌, ◌++◌, IsErrAnd, Ok, Err, Result, sym, refl, ap, ◌∙◌, arith, append_assoc, length-append}
use Rattle.std.proofs.lemmas.List.{append-nil}
use Rattle.faults.specs.declared.Stop.{Stop}
use Rattle.definitions.specs.Reading.{Step, next, stop, Reader, follow, repeated}
use Rattle.bits.specs.declared.file.Cursor.{Cursor}
use Rattle.bits.specs.Told.{told, Reads}
use Rattle.bits.specs.InRow.{before, Begun}

pub snoc_at : {X : Type 0} (xs : List X) (x : X) (m : Step (List X)) → before xs (follow m (λ ys q. next (x ∷ ys) q)) ≡ before (xs ++ (x ∷ [])) m
snoc_at xs x (next ys q) = ap (λ zs. next zs q) (sym (append_assoc xs (x ∷ []) ys))
snoc_at xs x (stop r q) = refl

pub begin : {X : Type 0} (m : Step (List X)) → m ≡ before [] m
begin (next ys q) = refl
begin (stop r q) = refl

-- what `?` hands on
pub passed : {T E : Type 0} (r : Result T E) (e : E) → IsErrAnd r (λ y. y ≡ e) → r ≡ Err e
passed (Ok x) e h = absurd h
passed (Err y) e h = ap Err h

sub-zero : (n : ℕ) → n ≡ n - 0
sub-zero n = omega arith

module _ {X : Type 0} (r : Reader X) where
  pub begun_first : (n : ℕ) (c : Cursor) → Begun r n 0 [] c c
  begun_first n c =
      record { same = refl; count = refl; rest = begin (repeated r n c.bytes.now c.at) ∙ ap (λ k. before [] (repeated r k c.bytes.now c.at)) (sub-zero n) }

  more : (f : List ℕ) (xs : List X) (n i p q : ℕ) (x : X) → i < n → next x q ≡ r f p → before xs (repeated r (n - i) f p) ≡ before (xs ++ (x ∷ [])) (repeated r (n - (i + 1)) f q)
  more f xs n i p q x h e = go (n - i) (n - (i + 1)) (omega arith)
    where
      go : (u v : ℕ) → u ≡ v + 1 → before xs (repeated r u f p) ≡ before (xs ++ (x ∷ [])) (repeated r v f q)
      go zero v l = absurd (omega arith)
      go (suc u) v l =
          let j : u ≡ v = omega arith in
          ap (λ m. before xs (follow m (λ y t. follow (repeated r u f t) (λ ys w. next (y ∷ ys) w)))) (sym e) ∙ snoc_at xs x (repeated r u f q) ∙ ap (λ w. before (xs ++ (x ∷ [])) (repeated r w f q)) j

  pub begun_next : {n i : ℕ} {xs : List X} {old now : Cursor} (new : Cursor) (x : X) → i < n → Begun r n i xs old now → (next x new.at ≡ r now.bytes.now now.at) × (new.bytes.now ≡ now.bytes.now) →
      Begun r n (i + 1) (xs ++ (x ∷ [])) old new
  begun_next {n = n} {i = i} {xs = xs} {old = old} {now = now} new x h b k = record {
    same = k.1 ∙ b.same;
    count = length-append xs (x ∷ []) ∙ ap (λ k. k + 1) b.count;
    rest = b.rest ∙ more old.bytes.now xs n i now.at new.at x h (k.0 ∙ ap (λ f. r f now.at) b.same);
  }

  pub begun_stop : {n i : ℕ} {xs : List X} {old now : Cursor} {T : Type 0} (new : Cursor) (what : T → List X) (res : Result T Stop) (e : Stop) → i < n → Begun r n i xs old now → (stop e.reason e.place ≡ r now.bytes.now now.at) × (new.bytes.now ≡ now.bytes.now) →
      IsErrAnd res (λ y. y ≡ e) → Reads what (repeated r n) old new res
  begun_stop {n = n} {i = i} {xs = xs} {old = old} {now = now} new what res e h b k p =
      (ap (told what new.at) (passed res e p) ∙ sym (b.rest ∙ go (n - i) (omega arith)), k.1 ∙ b.same)
    where
      go : (u : ℕ) → 0 < u → before xs (repeated r u old.bytes.now now.at) ≡ stop e.reason e.place
      go zero l = absurd (omega arith)
      go (suc u) l = ap (λ m. before xs (follow m (λ y t. follow (repeated r u old.bytes.now t) (λ ys w. next (y ∷ ys) w)))) (sym (k.0 ∙ ap (λ f. r f now.at) b.same))

  pub begun_end : {n i : ℕ} {xs : List X} {old new : Cursor} → n ≡ i → Begun r n i xs old new → next xs new.at ≡ repeated r n old.bytes.now old.at
  begun_end {n = n} {i = i} {xs = xs} {old = old} {new = new} h b =
      let e : n - i ≡ 0 = omega arith in
      sym (b.rest ∙ ap (λ w. before xs (repeated r w old.bytes.now new.at)) e ∙ ap (λ ys. next ys new.at) (append-nil xs))
