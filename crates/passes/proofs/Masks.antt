-- Writing piece by piece what a mask keeps.
use Rattle.std.proofs.Common.{◌≡◌, ℕ, ◌⊎◌, inl, inr, Bool, true, false, List, [], ◌∷◌, ◌++◌, map, length, Ok, Err, Result, IsErr, refl, ap, subst, arith}
use Rattle.definitions.specs.Lists.{flat, strike}
use Rattle.definitions.specs.Fits.{Every}
use Rattle.bits.specs.declared.writer.BitWriter.{BitWriter}
use Rattle.bits.specs.declared.writer.Full.{Full}
use Rattle.bits.specs.Writes.{Wrote, NoRoom, Writes, Left}
use Rattle.bits.proofs.Left.{left_stop}

pub every_next : {A : Type 0} (P : A → Type 0) {xs ys : List A} (x : A) → xs ≡ x ∷ ys → Every P xs → P x × Every P ys
every_next P x e h = subst (λ xs. Every P xs) e h

-- where a piece has no room, nothing is written
pub left_none : {T : Type 0} {bs : List ℕ} {old now : BitWriter} (cs rest : List ℕ) (new : BitWriter) (r : Result T Full) → IsErr r → Left bs (cs ++ rest) old now → NoRoom cs now → Writes bs old new r
left_none cs rest new (Ok x) e l h = absurd cc
left_none cs rest new (Err x) e l h = left_stop cs rest l h

pub left_same : {bs rest more : List ℕ} {old now : BitWriter} → rest ≡ more → Left bs rest old now → Left bs more old now
left_same {bs = bs} {old = old} {now = now} e l = subst (λ (xs : List ℕ). Left bs xs old now) e l

pub wrote_same : {bs cs : List ℕ} {old now : BitWriter} → bs ≡ cs → Wrote bs old now → Wrote cs old now
wrote_same {old = old} {now = now} e w = subst (λ (xs : List ℕ). Wrote xs old now) e w

pub writes_same : {T : Type 0} {bs cs : List ℕ} (old now : BitWriter) (r : Result T Full) → bs ≡ cs → Writes bs old now r → Writes cs old now r
writes_same old now r e w = subst (λ (xs : List ℕ). Writes xs old now r) e w

-- what is left of a list whose members are written as f writes them, where only those with a yes of g beside them are
module _ {X C : Type 0} (f : X → List ℕ) (g : C → Bool) where
  abbrev pub beside : List C → List X → List ℕ
  beside cs xs = flat (map f (strike (map g cs) xs))

  pub beside_yes : (c : C) (cs : List C) (x : X) (xs : List X) → g c ≡ true → beside (c ∷ cs) (x ∷ xs) ≡ f x ++ beside cs xs
  beside_yes c cs x xs e = ap (λ (b : Bool). flat (map f (strike (b ∷ map g cs) (x ∷ xs)))) e

  pub beside_no : (c : C) (cs : List C) (x : X) (xs : List X) → g c ≡ false → beside (c ∷ cs) (x ∷ xs) ≡ beside cs xs
  beside_no c cs x xs e = ap (λ (b : Bool). flat (map f (strike (b ∷ map g cs) (x ∷ xs)))) e

  pub beside_end : (cs : List C) (xs : List X) → (length xs ≡ 0) ⊎ (length cs ≡ 0) → beside cs xs ≡ []
  beside_end [] xs h = refl
  beside_end (c ∷ cs) [] h = refl
  beside_end (c ∷ cs) (x ∷ xs) (inl h) = absurd (omega arith)
  beside_end (c ∷ cs) (x ∷ xs) (inr h) = absurd (omega arith)
