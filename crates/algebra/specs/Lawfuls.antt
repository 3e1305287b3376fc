-- The algebra of some sizes and operations that keep to their ranges is lawful; so the counting and the level algebra are.
use Rattle.std.specs.Prelude.{◌≡◌, ℕ, zero, suc, ◌+◌, ◌*◌, ◌%◌, ◌<◌, ◌≤◌, Bool, true, false, ◌&&◌, List, [], ◌∷◌, length, Some, None, Option, nat_le, nat_lt, slice_index, slice_index_or, refl}
use Rattle.std.proofs.Common.{sym, ◌∙◌, ap, ap₂, subst, mod-lt, arith}
use Rattle.std.proofs.lemmas.Bool.{lt-ltb, ltb-true, false≢true}
use Rattle.definitions.specs.Lists.{at, bind, flat, map_from}
use Rattle.definitions.specs.Alg.{Op, within, sized, algebra, Lawful}
use Rattle.definitions.specs.Algebras.{first, second, truth, counts, counting, steps, level}
use Rattle.definitions.specs.Fits.{Every}
use Rattle.algebra.specs.Lists.{none_some, some_inj, and_left, and_right, at_some, at_over, at_lt, at_get_or, every_at, every_append, bind_inv}

truth_two : (b : Bool) → truth b < 2
truth_two true = omega arith
truth_two false = omega arith

pub record OpFits (sizes : List ℕ) (q : Op) : Type 0 where
  pub few : length q.args ≤ 3
  pub args : Every (λ s. s < length sizes) q.args
  pub res : q.res < length sizes
  pub run : (xs : List ℕ) → within (sized sizes q.args) xs ≡ true → q.run xs < slice_index sizes q.res

module _ (sizes : List ℕ) where
  within_all : (ss xs : List ℕ) → length xs ≡ length ss → Every (λ s. s < length sizes) ss → ((k s z : ℕ) → at ss k ≡ Some s → at sizes s ≡ Some z → slice_index xs k < z) →
      within (sized sizes ss) xs ≡ true
  within_all [] [] l h b = refl
  within_all [] (x ∷ xs) l h b = absurd (omega arith)
  within_all (s ∷ ss) [] l h b = absurd (omega arith)
  within_all (s ∷ ss) (x ∷ xs) l h b =
      let (z, e) = at_some sizes s h.0 in
      let w : slice_index_or sizes s 0 ≡ z = at_get_or sizes s z e in
      let u : x < z = b 0 s z refl e in
      ap₂ (λ p q. p && q) (lt-ltb x (slice_index sizes s) (omega arith)) (within_all ss xs (omega arith) h.1 (λ k. b (suc k)))

  pub within_inv : (ss xs : List ℕ) → within (sized sizes ss) xs ≡ true → (length xs ≡ length ss) × ((k s z : ℕ) → at ss k ≡ Some s → at sizes s ≡ Some z → slice_index xs k < z)
  within_inv [] [] h = (refl, λ k s z e. none_some s e)
  within_inv [] (x ∷ xs) h = absurd (false≢true h)
  within_inv (s ∷ ss) [] h = absurd (false≢true h)
  within_inv (s ∷ ss) (x ∷ xs) h =
      let r = within_inv ss xs (and_right (nat_lt x (slice_index sizes s)) (within (sized sizes ss) xs) h) in
      (ap suc r.0, low r.1 (ltb-true x (slice_index sizes s) (and_left (nat_lt x (slice_index sizes s)) (within (sized sizes ss) xs) h)))
    where
      low : ((k t z : ℕ) → at ss k ≡ Some t → at sizes t ≡ Some z → slice_index xs k < z) → x < slice_index sizes s → (k t z : ℕ) → at (s ∷ ss) k ≡ Some t → at sizes t ≡ Some z → slice_index (x ∷ xs) k < z
      low r u zero t z e w = let q : slice_index_or sizes s 0 ≡ z = at_get_or sizes s z (ap (at sizes) (some_inj s t e) ∙ w) in omega arith
      low r u (suc k) t z e w = r k t z e w

  module _ (os : List Op) (some_sort : 1 ≤ length sizes) (few_sorts : length sizes ≤ 16) (truths : at sizes 0 ≡ Some 2) (fit : Every (λ n. (1 ≤ n) × (n ≤ 256)) sizes)
      (few_ops : length os ≤ 63) (ops : Every (OpFits sizes) os) where
    op_at : (o : ℕ) (q : Op) → at os o ≡ Some q → OpFits sizes q
    op_at o q e = every_at (OpFits sizes) os o q ops e

    ran : (b : Bool) (v w : ℕ) → elim b [ true ↦ Some v | false ↦ None ] ≡ Some w → (b ≡ true) × (v ≡ w)
    ran true v w e = (refl, some_inj v w e)
    ran false v w e = none_some w e

    value_inv : (o : ℕ) (xs : List ℕ) (v : ℕ) → (algebra sizes os).value o xs ≡ Some v → (q : Op) × (at os o ≡ Some q) × (within (sized sizes q.args) xs ≡ true) × (q.run xs ≡ v)
    value_inv o xs v e =
        let (q, there, h) = bind_inv (at os o) (λ q. elim (within (sized sizes q.args) xs) [ true ↦ Some (q.run xs) | false ↦ None ]) v e in
        let r = ran (within (sized sizes q.args) xs) (q.run xs) v h in (q, there, r.0, r.1)

    arity_inv : (o n : ℕ) → (algebra sizes os).arity o ≡ Some n → (q : Op) × (at os o ≡ Some q) × (length q.args ≡ n)
    arity_inv o n e = let (q, there, h) = bind_inv (at os o) (λ (q : Op). Some (length q.args)) n e in (q, there, some_inj (length q.args) n h)

    pub algebra_lawful : Lawful (algebra sizes os)
    algebra_lawful =
        record {
          some_sort = some_sort;
          few_sorts = few_sorts;
          truths = truths;
          sort = λ s h. let (n, e) = at_some sizes s h in let b = every_at (λ n. (1 ≤ n) × (n ≤ 256)) sizes s n fit e in (n, e, b.0, b.1);
          no_sort = λ s h. at_over sizes s h;
          few_ops = few_ops;
          op = λ o h. let (q, e) = at_some os o h in (length q.args, ap (λ z. bind z (λ (q : Op). Some (length q.args))) e, (op_at o q e).few);
          no_op = λ o h. (ap (λ z. bind z (λ (q : Op). Some (length q.args))) (at_over os o h), ap (λ z. bind z (λ (q : Op). Some q.res)) (at_over os o h));
          arg = λ o n ar k l.
              let (q, there, w) = arity_inv o n ar in
              let (s, e) = at_some q.args k (omega arith) in
              (s, ap (λ z. bind z (λ (q : Op). at q.args k)) there ∙ e, every_at (λ s. s < length sizes) q.args k s (op_at o q there).args e);
          no_arg = λ o k h. none_arg o k h (at os o) refl;
          res = λ o h. let (q, e) = at_some os o h in (q.res, ap (λ z. bind z (λ (q : Op). Some q.res)) e, (op_at o q e).res);
          below = λ o xs v e.
              let (q, there, w, u) = value_inv o xs v e in
              let (n, m) = at_some sizes q.res (op_at o q there).res in
              let k : slice_index_or sizes q.res 0 ≡ n = at_get_or sizes q.res n m in
              let l : q.run xs < slice_index_or sizes q.res 0 = (op_at o q there).run xs w in
              (q.res, n, ap (λ z. bind z (λ (q : Op). Some q.res)) there, m, omega arith);
          total = λ o n xs ar l h.
              let (q, there, w) = arity_inv o n ar in
              let i : within (sized sizes q.args) xs ≡ true =
              within_all q.args xs (l ∙ sym w) (op_at o q there).args (λ k s z e. h k s z (ap (λ y. bind y (λ (q : Op). at q.args k)) there ∙ e)) in (
                q.run xs,
                ap (λ y. bind y (λ (q : Op). elim (within (sized sizes q.args) xs) [ true ↦ Some (q.run xs) | false ↦ None ])) there ∙
                    ap (λ (b : Bool). elim b [ true ↦ Some (q.run xs) | false ↦ None ]) i,
              );
          none_else = λ o xs v e.
              let (q, there, w, u) = value_inv o xs v e in
              let r = within_inv q.args xs w in (
                ap (λ z. bind z (λ (q : Op). Some (length q.args))) there ∙ ap Some (sym r.0),
                λ k s z p. r.1 k s z (sym (ap (λ y. bind y (λ (q : Op). at q.args k)) there) ∙ p),
              );
        }
      where
        none_arg : (o k : ℕ) → ((n : ℕ) → (algebra sizes os).arity o ≡ Some n → n ≤ k) → (z : Option Op) → at os o ≡ z → bind z (λ (q : Op). at q.args k) ≡ None
        none_arg o k h None e = refl
        none_arg o k h (Some q) e = at_over q.args k (h (length q.args) (ap (λ z. bind z (λ (q : Op). Some (length q.args))) e))

-- the operations
one_in : (sizes : List ℕ) (s n : ℕ) (xs : List ℕ) → at sizes s ≡ Some n → within (sized sizes (s ∷ [])) xs ≡ true → first xs < n
one_in sizes s n xs e h = (within_inv sizes (s ∷ []) xs h).1 0 s n refl e

two_in : (sizes : List ℕ) (s n : ℕ) (xs : List ℕ) → at sizes s ≡ Some n → within (sized sizes (s ∷ s ∷ [])) xs ≡ true → (first xs < n) × (second xs < n)
two_in sizes s n xs e h = let r = (within_inv sizes (s ∷ s ∷ []) xs h).1 in (r 0 s n refl e, r 1 s n refl e)

counts_fit : (sizes : List ℕ) (s n : ℕ) → at sizes s ≡ Some n → at sizes 0 ≡ Some 2 → 1 ≤ n → Every (OpFits sizes) (counts s n)
counts_fit sizes s n e t l =
    let i : s < length sizes = at_lt sizes s n e in
    let i₀ : 0 < length sizes = at_lt sizes 0 2 t in
    let g : slice_index_or sizes s 0 ≡ n = at_get_or sizes s n e in
    let g₀ : slice_index_or sizes 0 0 ≡ 2 = at_get_or sizes 0 2 t in (
      record { few = omega arith; args = (i, tt); res = i; run = λ xs h. omega arith },
      (
        record { few = omega arith; args = (i, tt); res = i; run = λ xs h. let a : first xs < n = one_in sizes s n xs e h in omega arith },
        (
          record { few = omega arith; args = (i, tt); res = i; run = λ xs h. subst (λ z. (first xs + 1) % n < z) (sym g) (mod-lt (first xs + 1) (let p : 0 < n = omega arith in p)) },
          (
            record { few = omega arith; args = (i, (i, tt)); res = i₀; run = λ xs h. subst (λ z. truth (nat_lt (first xs) (second xs)) < z) (sym g₀) (truth_two (nat_lt (first xs) (second xs))) },
            tt,
          ),
        ),
      ),
    )

all_fit : (sizes : List ℕ) → at sizes 0 ≡ Some 2 → (ns : List ℕ) (k : ℕ) → ((j n : ℕ) → at ns j ≡ Some n → at sizes (k + j) ≡ Some n) → Every (λ n. (1 ≤ n) × (n ≤ 256)) ns →
    Every (OpFits sizes) (flat (map_from k counts ns))
all_fit sizes t [] k h f = tt
all_fit sizes t (n ∷ ns) k h f =
    every_append (OpFits sizes) (counts k n) (flat (map_from (suc k) counts ns))
    (counts_fit sizes k n (ap (at sizes) (let e : k ≡ k + 0 = omega arith in e) ∙ h 0 n refl) t f.0.0)
    (all_fit sizes t ns (suc k) (λ j m e. ap (at sizes) (let e' : suc k + j ≡ k + suc j = omega arith in e') ∙ h (suc j) m e) f.1)

pub counts_long : (ns : List ℕ) (k : ℕ) → length (flat (map_from k counts ns)) ≡ 4 * length ns
counts_long [] k = refl
counts_long (n ∷ ns) k = let ih : length (flat (map_from (suc k) counts ns)) ≡ 4 * length ns = counts_long ns (suc k) in omega arith

pub counting_lawful : (sizes : List ℕ) → length sizes ≤ 15 → Every (λ n. (1 ≤ n) × (n ≤ 256)) sizes → Lawful (counting sizes)
counting_lawful sizes l h =
    algebra_lawful (2 ∷ sizes) (flat (map_from 1 counts sizes)) (omega arith) (omega arith) refl ((omega arith, omega arith), h)
    (let e : length (flat (map_from 1 counts sizes)) ≡ 4 * length sizes = counts_long sizes 1 in omega arith)
    (all_fit (2 ∷ sizes) refl sizes 1 (λ j n e. ap (at (2 ∷ sizes)) (let w : 1 + j ≡ suc j = omega arith in w) ∙ e) h)

steps_fit : Every (OpFits (2 ∷ 16 ∷ [])) steps
steps_fit = (
  record { few = omega arith; args = (omega arith, (omega arith, tt)); res = omega arith; run = λ xs h. omega arith },
  (
    record { few = omega arith; args = (omega arith, (omega arith, tt)); res = omega arith; run = λ xs h. let (a, b) = two_in (2 ∷ 16 ∷ []) 1 16 xs refl h in omega arith },
    (
      record { few = omega arith; args = (omega arith, (omega arith, tt)); res = omega arith; run = λ xs h. truth_two (nat_le (second xs) (first xs)) },
      tt,
    ),
  ),
)

pub level_lawful : Lawful level
level_lawful = algebra_lawful (2 ∷ 16 ∷ []) steps (omega arith) (omega arith) refl ((omega arith, omega arith), ((omega arith, omega arith), tt)) (omega arith) steps_fit
