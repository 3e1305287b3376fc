-- Fields as they stand.
use Rattle.std.proofs.Common.{◌≡◌, ℕ, zero, suc, ◌+◌, ◌*◌, ◌<◌, ◌≤◌, Bool, true, false, leb, List, length, Some, None, Option, sym, refl, ap, ◌∙◌, arith}
use Rattle.std.proofs.lemmas.Bool.{le-leb, lt-leb, leb-true, leb-false}
use Rattle.definitions.specs.Reading.{take}
use Rattle.definitions.specs.Bits.{field}
use Rattle.bits.specs.Took.{took}
use Rattle.bits.proofs.Fields.{taken, cut_short}
use Rattle.terms.specs.Shown.{reached}
use Rattle.definitions.specs.Lists.{bind}
use Rattle.definitions.specs.Alg.{Alg}
use Rattle.definitions.specs.Systems.{Kind, value}
use Rattle.terms.specs.Shapes.{field_at, came, shape_kind, opening, parts_counted}

came_took : (o : Option ℕ) (p q : ℕ) → reached (λ n. n) o q ≡ came (took o p q)
came_took None p q = refl
came_took (Some v) p q = refl

-- what a reader's answer says
pub field_came : (w : ℕ) (f : List ℕ) (p q : ℕ) (o : Option ℕ) → (length f ≤ 65536 → took o p q ≡ take w f p) → ((length f ≤ 65536 → ⊥) → o ≡ None) → reached (λ n. n) o q ≡ field_at w f p
unfolding field_at
field_came w f p q o short long = go (leb (length f) 65536) refl
  where
    go : (b : Bool) → leb (length f) 65536 ≡ b → reached (λ n. n) o q ≡ elim b [ true ↦ came (take w f p) | false ↦ None ]
    go true e = came_took o p q ∙ ap came (short (leb-true (length f) 65536 e))
    go false e = ap (λ z. reached (λ n. n) z q) (long (λ h. let k = leb-false (length f) 65536 e in omega arith))

-- a field of a file that is not too long
pub field_next : (w : ℕ) (f : List ℕ) (p : ℕ) → length f ≤ 65536 → field_at w f p ≡ came (take w f p)
unfolding field_at
field_next w f p h = ap (λ b. elim b [ true ↦ came (take w f p) | false ↦ None ]) (le-leb (length f) 65536 h)

-- a field that stands in a file that is not too long, and fields that do not
pub field_within : (w : ℕ) (f : List ℕ) (p : ℕ) → length f ≤ 65536 → p + w ≤ 8 * length f → field_at w f p ≡ Some (field f p w, p + w)
field_within w f p h i = field_next w f p h ∙ ap came (sym (taken f p w (field f p w) i refl))

pub field_long : (w : ℕ) (f : List ℕ) (p : ℕ) → 65536 < length f → field_at w f p ≡ None
unfolding field_at
field_long w f p h = ap (λ b. elim b [ true ↦ came (take w f p) | false ↦ None ]) (lt-leb (length f) 65536 h)

pub field_outside : (w : ℕ) (f : List ℕ) (p : ℕ) → 8 * length f < p + w → field_at w f p ≡ None
field_outside w f p h = go (leb (length f) 65536) refl
  where
    go : (b : Bool) → leb (length f) 65536 ≡ b → field_at w f p ≡ None
    go true e = field_next w f p (leb-true (length f) 65536 e) ∙ ap came (sym (cut_short f p w h))
    go false e = field_long w f p (let k = leb-false (length f) 65536 e in omega arith)

-- the fields of a value term are as long as one of twelve bits
abbrev TwoFields : List ℕ → ℕ → Type 0
TwoFields f q = bind (field_at 12 f q) (λ n. Some (0, n.1)) ≡ parts_counted (bind (field_at 4 f q) (λ s. bind (field_at 8 f s.1) (λ v. Some ((value s.0 v.0, 0), v.1))))

two_fields : (f : List ℕ) (q : ℕ) → TwoFields f q
two_fields f q = go (leb (length f) 65536) (leb (q + 12) (8 * length f)) (leb (q + 4) (8 * length f)) refl refl refl
  where
    go : (a b c : Bool) → leb (length f) 65536 ≡ a → leb (q + 12) (8 * length f) ≡ b → leb (q + 4) (8 * length f) ≡ c → TwoFields f q
    go false b c d e g = let h = leb-false (length f) 65536 d in rw (field_long 12 f q (omega arith), field_long 4 f q (omega arith)) refl
    go true true c d e g =
        let h = leb-true (length f) 65536 d in
        let i = leb-true (q + 12) (8 * length f) e in
        let z : q + 4 + 8 ≡ q + 12 = omega arith in
        rw (field_within 12 f q h i, field_within 4 f q h (omega arith), field_within 8 f (q + 4) h (omega arith)) (ap (λ n. Some (0, n)) (sym z))
    go true false true d e g =
        let h = leb-true (length f) 65536 d in
        let i = leb-false (q + 12) (8 * length f) e in
        let j = leb-true (q + 4) (8 * length f) g in
        rw (field_outside 12 f q (omega arith), field_within 4 f q h j, field_outside 8 f (q + 4) (omega arith)) refl
    go true false false d e g =
        let i = leb-false (q + 12) (8 * length f) e in
        let j = leb-false (q + 4) (8 * length f) g in
        rw (field_outside 12 f q (omega arith), field_outside 4 f q (omega arith)) refl

-- what is counted behind the kind
module _ (a : Alg) (f : List ℕ) (p k q : ℕ) (kind : Some (k, q) ≡ field_at 3 f p) where
  kind_then : parts_counted (shape_kind a k f q) ≡ parts_counted (opening a f p)
  kind_then = ap (λ (o : Option (ℕ × ℕ)). parts_counted (bind o (λ x. shape_kind a x.0 f x.1))) kind

  pub value_counted : k ≡ 2 → bind (field_at 12 f q) (λ n. Some (0, n.1)) ≡ parts_counted (opening a f p)
  value_counted e = two_fields f q ∙ ap (λ n. parts_counted (shape_kind a n f q)) (sym e) ∙ kind_then

  pub two_counted : 5 ≤ k → Some (2, q) ≡ parts_counted (opening a f p)
  two_counted h = from_five k h ∙ kind_then
    where
      from_five : (n : ℕ) → 5 ≤ n → Some (2, q) ≡ parts_counted (shape_kind a n f q)
      from_five zero h = absurd (omega arith)
      from_five (suc zero) h = absurd (omega arith)
      from_five (suc (suc zero)) h = absurd (omega arith)
      from_five (suc (suc (suc zero))) h = absurd (omega arith)
      from_five (suc (suc (suc (suc zero)))) h = absurd (omega arith)
      from_five (suc (suc (suc (suc (suc zero))))) h = refl
      from_five (suc (suc (suc (suc (suc (suc zero)))))) h = refl
      from_five (suc (suc (suc (suc (suc (suc (suc n))))))) h = refl

-- the kind of a value term
module _ (a : Alg) (f : List ℕ) (p k q : ℕ) (kind : Some (k, q) ≡ field_at 3 f p) (is : k ≡ 2) where
  value_from : Option (ℕ × ℕ) → Option ((Kind × ℕ) × ℕ)
  value_from o = bind o (λ s. bind (field_at 8 f s.1) (λ v. Some ((value s.0 v.0, 0), v.1)))

  value_opening : value_from (field_at 4 f q) ≡ opening a f p
  unfolding value_from
  value_opening = sym (ap (λ o. bind o (λ x. shape_kind a x.0 f x.1)) (sym kind) ∙ ap (λ n. shape_kind a n f q) is)

  pub value_no_sort : None ≡ field_at 4 f q → None ≡ opening a f p
  unfolding value_from
  value_no_sort e = ap value_from e ∙ value_opening

  value_then : (s u : ℕ) → Some (s, u) ≡ field_at 4 f q → bind (field_at 8 f u) (λ v. Some ((value s v.0, 0), v.1)) ≡ opening a f p
  unfolding value_from
  value_then s u e = ap value_from e ∙ value_opening

  pub value_no_value : (s u : ℕ) → Some (s, u) ≡ field_at 4 f q → None ≡ field_at 8 f u → None ≡ opening a f p
  value_no_value s u e h = ap (λ (o : Option (ℕ × ℕ)). bind {B = (Kind × ℕ) × ℕ} o (λ v. Some ((value s v.0, 0), v.1))) h ∙ value_then s u e

  pub value_read : (s u v w : ℕ) → Some (s, u) ≡ field_at 4 f q → Some (v, w) ≡ field_at 8 f u → Some ((value s v, 0), w) ≡ opening a f p
  value_read s u v w e h = ap (λ (o : Option (ℕ × ℕ)). bind {B = (Kind × ℕ) × ℕ} o (λ v. Some ((value s v.0, 0), v.1))) h ∙ value_then s u e
