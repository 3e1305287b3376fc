-- What the grammar accepts keeps to the limits.
use Rattle.std.proofs.Common.{◌≡◌, ℕ, suc, ◌+◌, ◌*◌, ◌^◌, ◌<◌, Bool, true, false, ◌&&◌, eqb, ltb, leb, List, ◌∷◌, length, get_or, sym, refl, ap, ◌∙◌, subst, arith}
use Rattle.std.proofs.lemmas.Bool.{le-leb, and_from}
use Rattle.faults.specs.declared.Reason.{Reason}
use Rattle.faults.specs.declared.Reason.TheVariants.{NoSuchSort, ValueTooLarge, TruthSortSize, EndsInField}
use Rattle.bits.proofs.Fields.{field_small}
use Rattle.definitions.specs.Bits.{field}
use Rattle.definitions.specs.Lists.{each, product}
use Rattle.definitions.specs.Alg.{sized}
use Rattle.definitions.specs.Reading.{Step, next, stop, Reader, follow, take, take_for, below, must, repeated}
use Rattle.definitions.specs.Tables.{TableOp, read_size, read_sizes, read_sort, read_op}
use Rattle.algebra.specs.Limits.{size_fits, sizes_fit}
use Rattle.algebra.specs.Kept.{op_sound, sizes_sound}
use Rattle.algebra.proofs.Rows.{row_inv, row_below, for_below}

follow_inv : {A B : Type 0} (m : Step A) (k : A → ℕ → Step B) (y : B) (q : ℕ) → next y q ≡ follow m k → (x : A) × (t : ℕ) × (next x t ≡ m) × (next y q ≡ k x t)
follow_inv (next x t) k y q e = (x, t, refl, e)
follow_inv (stop r t) k y q e = absurd cc

must_inv : (b : Bool) (r : Reason) (p : ℕ) (f : List ℕ) (u : ℕ) (x : Unit {0}) (q : ℕ) → next x q ≡ must b r p f u → b ≡ true
must_inv true r p f u x q e = refl
must_inv false r p f u x q e = absurd cc

take_small : (w : ℕ) (f : List ℕ) (p v q : ℕ) → next v q ≡ take w f p → v < 2 ^ w
take_small w f p v q e = go (leb (p + w) (8 * length f)) e
  where
    go : (b : Bool) → next v q ≡ elim b [ true ↦ next (field f p w) (p + w) | false ↦ stop EndsInField p ] → v < 2 ^ w
    go true e = let h : field f p w ≡ v = cc in subst (λ n. n < 2 ^ w) h (field_small f p w)
    go false e = absurd cc

size_fits_lem : (f : List ℕ) (p z q : ℕ) → next z q ≡ read_size f p → size_fits z ≡ true
size_fits_lem f p z q e =
    let (n, t, there, e₁) = follow_inv (take 8 f p) (λ n t. next (suc n) t) z q e in
    let h : n < 2 ^ 8 = take_small 8 f p n t there in
    let s : z ≡ suc n = cc in
    and_from (leb 1 z) (leb z 256) (le-leb 1 z (omega arith)) (le-leb z 256 (omega arith))

pub sizes_sound_lem : (f : List ℕ) (p : ℕ) (zs : List ℕ) (q : ℕ) → next zs q ≡ read_sizes f p → sizes_sound zs ≡ true
sizes_sound_lem f p zs q e =
    let (n, t, there, e₁) = follow_inv (take 4 f p) (λ n t. follow (read_size f t) (λ z u. follow (must (eqb z 2) TruthSortSize t f u) (λ _ v. follow (repeated read_size n f v) (λ ys w. next (z ∷ ys) w)))) zs q e in
    let (z, u, size, e₂) = follow_inv (read_size f t) (λ z u. follow (must (eqb z 2) TruthSortSize t f u) (λ _ v. follow (repeated read_size n f v) (λ ys w. next (z ∷ ys) w))) zs q e₁ in
    let (x, v, two, e₃) = follow_inv (must (eqb z 2) TruthSortSize t f u) (λ _ v. follow (repeated read_size n f v) (λ ys w. next (z ∷ ys) w)) zs q e₂ in
    let (ys, w, more, e₄) = follow_inv (repeated read_size n f v) (λ ys w. next (z ∷ ys) w) zs q e₃ in
    let r = row_inv f read_size size_fits (size_fits_lem f) n v ys w more in
    let h : n < 2 ^ 4 = take_small 4 f p n t there in
    let l : length ys ≡ n = r.1 in
    let s : z ∷ ys ≡ zs = cc in
    let b = must_inv (eqb z 2) TruthSortSize t f u x v two in
    subst (λ (xs : List ℕ). sizes_sound xs ≡ true) s
    (and_from (leb 1 (suc (length ys)) && leb (suc (length ys)) 16) (eqb z 2 && sizes_fit (z ∷ ys))
    (and_from (leb 1 (suc (length ys))) (leb (suc (length ys)) 16) (le-leb 1 (suc (length ys)) (omega arith)) (le-leb (suc (length ys)) 16 (omega arith)))
    (and_from (eqb z 2) (sizes_fit (z ∷ ys)) b (ap (λ (b : Bool). elim b [ true ↦ sizes_fit ys | false ↦ false ]) (size_fits_lem f t z u size) ∙ r.0)))

pub op_sound_lem : (sizes f : List ℕ) (p : ℕ) (o : TableOp) (q : ℕ) → next o q ≡ read_op sizes f p → op_sound sizes o ≡ true
op_sound_lem sizes f p o q e =
    let vals : ℕ → List ℕ → Reader (List ℕ) = λ res args. repeated (take_for 8 (below (get_or sizes res 0)) ValueTooLarge) (product (sized sizes args)) in
    let (n, t, there, e₁) = follow_inv (take 2 f p) (λ n t. follow (repeated (read_sort sizes) n f t) (λ args u. follow (read_sort sizes f u) (λ res v. follow (vals res args f v) (λ vs w. next (record { args = args; res = res; values = vs }) w)))) o q e in
    let (args, u, row, e₂) = follow_inv (repeated (read_sort sizes) n f t) (λ args u. follow (read_sort sizes f u) (λ res v. follow (vals res args f v) (λ vs w. next (record { args = args; res = res; values = vs }) w))) o q e₁ in
    let (res, v, last, e₃) = follow_inv (read_sort sizes f u) (λ res v. follow (vals res args f v) (λ vs w. next (record { args = args; res = res; values = vs }) w)) o q e₂ in
    let (vs, w, all, e₄) = follow_inv (vals res args f v) (λ vs w. next (record { args = args; res = res; values = vs }) w) o q e₃ in
    let m = length sizes in
    let a = row_below 4 m NoSuchSort f n t args u row in
    let h : n < 2 ^ 2 = take_small 2 f p n t there in
    let l : length args ≡ n = a.1 in
    let b = row_below 8 (get_or sizes res 0) ValueTooLarge f (product (sized sizes args)) v vs w all in
    let made : TableOp = record { args = args; res = res; values = vs } in
    let s : made ≡ o = cc in
    subst (λ (x : TableOp). op_sound sizes x ≡ true) s
    (and_from (leb (length args) 3) (each (λ s. ltb s m) args && (ltb res m && each (λ v. ltb v (get_or sizes res 0)) vs)) (le-leb (length args) 3 (omega arith))
    (and_from (each (λ s. ltb s m) args) (ltb res m && each (λ v. ltb v (get_or sizes res 0)) vs) a.0
    (and_from (ltb res m) (each (λ v. ltb v (get_or sizes res 0)) vs) (for_below 4 m NoSuchSort f u res v last) b.0)))

-- an operation is read part by part
pub op_read : (sizes f : List ℕ) (p p₁ p₂ p₃ p₄ n res : ℕ) (args vs : List ℕ) → next n p₁ ≡ take 2 f p → next args p₂ ≡ repeated (read_sort sizes) n f p₁ → next res p₃ ≡ read_sort sizes f p₂ →
    next vs p₄ ≡ repeated (take_for 8 (below (get_or sizes res 0)) ValueTooLarge) (product (sized sizes args)) f p₃ → ◌≡◌ {A = Step TableOp} (next (record { args = args; res = res; values = vs }) p₄) (read_op sizes f p)
op_read sizes f p p₁ p₂ p₃ p₄ n res args vs e₁ e₂ e₃ e₄ =
    let vals : ℕ → List ℕ → Reader (List ℕ) = λ res args. repeated (take_for 8 (below (get_or sizes res 0)) ValueTooLarge) (product (sized sizes args)) in
    sym (ap (λ m. follow m (λ n t. follow (repeated (read_sort sizes) n f t) (λ args u. follow (read_sort sizes f u) (λ res v. follow (vals res args f v) (λ vs w. next (record { args = args; res = res; values = vs }) w))))) (sym e₁) ∙
    ap (λ m. follow m (λ args u. follow (read_sort sizes f u) (λ res v. follow (vals res args f v) (λ vs w. next (record { args = args; res = res; values = vs }) w)))) (sym e₂) ∙
    ap (λ m. follow m (λ res v. follow (vals res args f v) (λ vs w. next (record { args = args; res = res; values = vs }) w))) (sym e₃) ∙
    ap (λ m. follow m (λ vs w. next (record { args = args; res = res; values = vs }) w)) (sym e₄))
