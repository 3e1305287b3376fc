-- The algebra of some sizes and operations that keep to their ranges is lawful.
use Rattle.std.proofs.Common.{◌≡◌, ℕ, zero, suc, ◌+◌, ◌*◌, ◌%◌, ◌<◌, ◌≤◌, Bool, true, false, ◌&&◌, ltb, leb, List, [], ◌∷◌, map, length, get_or, Some, None, Option, sym, refl, ap, ◌∙◌, subst, ap₂, mod-lt, mul_assoc, mul_comm, mul-le-mul_left, one-mul, mul-one, mul-suc, arith}
use mathlib.Core.Bool.{false≢true}
use lib.ListN.{length-map}
use Rattle.std.proofs.lemmas.Bool.{lt-ltb, ltb-true, leb-true}
use Rattle.definitions.specs.Lists.{at, bind, flat, each, product, map_from}
use Rattle.definitions.specs.Alg.{Op, within, sized, algebra, Lawful}
use Rattle.definitions.specs.Algebras.{first, second, truth, counts, counting, steps}
use Rattle.definitions.specs.Fits.{Every}
use Rattle.faults.specs.declared.Reason.TheVariants.{BadCountingSizes}
use Rattle.definitions.specs.Reading.{Reading, got, bad}
use Rattle.definitions.specs.FileFits.{OpFits, TableFits}
use Rattle.definitions.specs.Tables.{TableOp, Table, place_of, tabled, table, table_reading}
use Rattle.definitions.specs.Calls.{Bytes, Filling, filled, unfilled, counting_fill, table_fill_by, table_fill}
use Rattle.theorems.specs.AlgebraLaws.{AlgebrasLawful}
use Rattle.fixpoint.proofs.Pull.{every_append}
use Rattle.theorems.proofs.Listing.{bind_inv, at_some, none_some, some_same, get_or_some, every_at, every_mapped, every_with, at_lt, and_left, and_right}
use Rattle.theorems.proofs.TableFiles.{table_forth}
use Rattle.theorems.proofs.Ranges.{truth_low}

at_over : {A : Type 0} (l : List A) (k : ℕ) → length l ≤ k → at l k ≡ None
at_over [] k h = refl
at_over (x ∷ l) zero h = absurd (omega arith)
at_over (x ∷ l) (suc k) h = at_over l k (omega arith)

-- an operation with sorts that are there and values within the result sort
pub record OpRanges (sizes : List ℕ) (q : Op) : Type 0 where
  pub few : length q.args ≤ 3
  pub args : Every (λ s. s < length sizes) q.args
  pub res : q.res < length sizes
  pub run : (xs : List ℕ) → within (sized sizes q.args) xs ≡ true → q.run xs < get_or sizes q.res 0

module _ (sizes : List ℕ) where
  within_all : (ss xs : List ℕ) → length xs ≡ length ss → Every (λ s. s < length sizes) ss → ((k s z : ℕ) → at ss k ≡ Some s → at sizes s ≡ Some z → get_or xs k 0 < z) →
      within (sized sizes ss) xs ≡ true
  within_all [] [] l h b = refl
  within_all [] (x ∷ xs) l h b = absurd (omega arith)
  within_all (s ∷ ss) [] l h b = absurd (omega arith)
  within_all (s ∷ ss) (x ∷ xs) l h b =
      let (z, e) = at_some sizes s h.0 in
      let w : get_or sizes s 0 ≡ z = get_or_some 0 sizes s z e in
      let u : x < z = b 0 s z refl e in
      ap₂ (λ p q. p && q) (lt-ltb x (get_or sizes s 0) (omega arith)) (within_all ss xs (omega arith) h.1 (λ k. b (suc k)))

  within_inv : (ss xs : List ℕ) → within (sized sizes ss) xs ≡ true → (length xs ≡ length ss) × ((k s z : ℕ) → at ss k ≡ Some s → at sizes s ≡ Some z → get_or xs k 0 < z)
  within_inv [] [] h = (refl, λ k s z e. none_some s e)
  within_inv [] (x ∷ xs) h = absurd (false≢true h)
  within_inv (s ∷ ss) [] h = absurd (false≢true h)
  within_inv (s ∷ ss) (x ∷ xs) h =
      let r = within_inv ss xs (and_right (ltb x (get_or sizes s 0)) (within (sized sizes ss) xs) h) in
      (ap suc r.0, low r.1 (ltb-true x (get_or sizes s 0) (and_left (ltb x (get_or sizes s 0)) (within (sized sizes ss) xs) h)))
    where
      low : ((k t z : ℕ) → at ss k ≡ Some t → at sizes t ≡ Some z → get_or xs k 0 < z) → x < get_or sizes s 0 → (k t z : ℕ) → at (s ∷ ss) k ≡ Some t → at sizes t ≡ Some z → get_or (x ∷ xs) k 0 < z
      low r u zero t z e w = let q : get_or sizes s 0 ≡ z = get_or_some 0 sizes s z (ap (at sizes) (some_same s t e) ∙ w) in omega arith
      low r u (suc k) t z e w = r k t z e w

  module _ (os : List Op) (some_sort : 1 ≤ length sizes) (few_sorts : length sizes ≤ 16) (truths : at sizes 0 ≡ Some 2) (fit : Every (λ n. (1 ≤ n) × (n ≤ 256)) sizes)
      (few_ops : length os ≤ 63) (ops : Every (OpRanges sizes) os) where
    op_at : (o : ℕ) (q : Op) → at os o ≡ Some q → OpRanges sizes q
    op_at o q e = every_at (OpRanges sizes) os o q e ops

    ran : (b : Bool) (v w : ℕ) → elim b [ true ↦ Some v | false ↦ None ] ≡ Some w → (b ≡ true) × (v ≡ w)
    ran true v w e = (refl, some_same v w e)
    ran false v w e = none_some w e

    value_inv : (o : ℕ) (xs : List ℕ) (v : ℕ) → (algebra sizes os).value o xs ≡ Some v → (q : Op) × (at os o ≡ Some q) × (within (sized sizes q.args) xs ≡ true) × (q.run xs ≡ v)
    value_inv o xs v e =
        let (q, there, h) = bind_inv (at os o) (λ q. elim (within (sized sizes q.args) xs) [ true ↦ Some (q.run xs) | false ↦ None ]) v e in
        let r = ran (within (sized sizes q.args) xs) (q.run xs) v h in (q, there, r.0, r.1)

    arity_inv : (o n : ℕ) → (algebra sizes os).arity o ≡ Some n → (q : Op) × (at os o ≡ Some q) × (length q.args ≡ n)
    arity_inv o n e = let (q, there, h) = bind_inv (at os o) (λ (q : Op). Some (length q.args)) n e in (q, there, some_same (length q.args) n h)

    pub algebra_lawful : Lawful (algebra sizes os)
    algebra_lawful =
        record {
          some_sort = some_sort;
          few_sorts = few_sorts;
          truths = truths;
          sort = λ s h. let (n, e) = at_some sizes s h in let b = every_at (λ n. (1 ≤ n) × (n ≤ 256)) sizes s n e fit in (n, e, b.0, b.1);
          no_sort = λ s h. at_over sizes s h;
          few_ops = few_ops;
          op = λ o h. let (q, e) = at_some os o h in (length q.args, ap (λ z. bind z (λ (q : Op). Some (length q.args))) e, (op_at o q e).few);
          no_op = λ o h. (ap (λ z. bind z (λ (q : Op). Some (length q.args))) (at_over os o h), ap (λ z. bind z (λ (q : Op). Some q.res)) (at_over os o h));
          arg = λ o n ar k l.
              let (q, there, w) = arity_inv o n ar in
              let (s, e) = at_some q.args k (omega arith) in
              (s, ap (λ z. bind z (λ (q : Op). at q.args k)) there ∙ e, every_at (λ s. s < length sizes) q.args k s e (op_at o q there).args);
          no_arg = λ o k h. none_arg o k h (at os o) refl;
          res = λ o h. let (q, e) = at_some os o h in (q.res, ap (λ z. bind z (λ (q : Op). Some q.res)) e, (op_at o q e).res);
          below = λ o xs v e.
              let (q, there, w, u) = value_inv o xs v e in
              let (n, m) = at_some sizes q.res (op_at o q there).res in
              let k : get_or sizes q.res 0 ≡ n = get_or_some 0 sizes q.res n m in
              let l : q.run xs < get_or sizes q.res 0 = (op_at o q there).run xs w in
              (q.res, n, ap (λ z. bind z (λ (q : Op). Some q.res)) there, m, omega arith);
          total = λ o n xs ar l h.
              let (q, there, w) = arity_inv o n ar in
              let i : within (sized sizes q.args) xs ≡ true =
              within_all q.args xs (l ∙ sym w) (op_at o q there).args (λ k s z e. h k s z (ap (λ y. bind y (λ (q : Op). at q.args k)) there ∙ e)) in (
                q.run xs,
                ap (λ y. bind y (λ (q : Op). elim (within (sized sizes q.args) xs) [ true ↦ Some (q.run xs) | false ↦ None ])) there ∙
                    ap (λ (b : Bool). elim b [ true ↦ Some (q.run xs) | false ↦ None ]) i,
              );
          none_else = λ o xs v e.
              let (q, there, w, u) = value_inv o xs v e in
              let r = within_inv q.args xs w in (
                ap (λ z. bind z (λ (q : Op). Some (length q.args))) there ∙ ap Some (sym r.0),
                λ k s z p. r.1 k s z (sym (ap (λ y. bind y (λ (q : Op). at q.args k)) there) ∙ p),
              );
        }
      where
        none_arg : (o k : ℕ) → ((n : ℕ) → (algebra sizes os).arity o ≡ Some n → n ≤ k) → (z : Option Op) → at os o ≡ z → bind z (λ (q : Op). at q.args k) ≡ None
        none_arg o k h None e = refl
        none_arg o k h (Some q) e = at_over q.args k (h (length q.args) (ap (λ z. bind z (λ (q : Op). Some (length q.args))) e))

-- the operations
one_in : (sizes : List ℕ) (s n : ℕ) (xs : List ℕ) → at sizes s ≡ Some n → within (sized sizes (s ∷ [])) xs ≡ true → first xs < n
one_in sizes s n xs e h = (within_inv sizes (s ∷ []) xs h).1 0 s n refl e

two_in : (sizes : List ℕ) (s n : ℕ) (xs : List ℕ) → at sizes s ≡ Some n → within (sized sizes (s ∷ s ∷ [])) xs ≡ true → (first xs < n) × (second xs < n)
two_in sizes s n xs e h = let r = (within_inv sizes (s ∷ s ∷ []) xs h).1 in (r 0 s n refl e, r 1 s n refl e)

counts_fit : (sizes : List ℕ) (s n : ℕ) → at sizes s ≡ Some n → at sizes 0 ≡ Some 2 → 1 ≤ n → Every (OpRanges sizes) (counts s n)
counts_fit sizes s n e t l =
    let i : s < length sizes = at_lt sizes s n e in
    let i₀ : 0 < length sizes = at_lt sizes 0 2 t in
    let g : get_or sizes s 0 ≡ n = get_or_some 0 sizes s n e in
    let g₀ : get_or sizes 0 0 ≡ 2 = get_or_some 0 sizes 0 2 t in (
      record { few = omega arith; args = (i, tt); res = i; run = λ xs h. omega arith },
      (
        record { few = omega arith; args = (i, tt); res = i; run = λ xs h. let a : first xs < n = one_in sizes s n xs e h in omega arith },
        (
          record { few = omega arith; args = (i, tt); res = i; run = λ xs h. subst (λ z. (first xs + 1) % n < z) (sym g) (mod-lt (first xs + 1) (let p : 0 < n = omega arith in p)) },
          (
            record { few = omega arith; args = (i, (i, tt)); res = i₀; run = λ xs h. subst (λ z. truth (ltb (first xs) (second xs)) < z) (sym g₀) (truth_low (ltb (first xs) (second xs))) },
            tt,
          ),
        ),
      ),
    )

all_fit : (sizes : List ℕ) → at sizes 0 ≡ Some 2 → (ns : List ℕ) (k : ℕ) → ((j n : ℕ) → at ns j ≡ Some n → at sizes (k + j) ≡ Some n) → Every (λ n. (1 ≤ n) × (n ≤ 256)) ns →
    Every (OpRanges sizes) (flat (map_from k counts ns))
all_fit sizes t [] k h f = tt
all_fit sizes t (n ∷ ns) k h f =
    every_append (OpRanges sizes) (counts k n) (flat (map_from (suc k) counts ns))
    (counts_fit sizes k n (ap (at sizes) (let e : k ≡ k + 0 = omega arith in e) ∙ h 0 n refl) t f.0.0)
    (all_fit sizes t ns (suc k) (λ j m e. ap (at sizes) (let e' : suc k + j ≡ k + suc j = omega arith in e') ∙ h (suc j) m e) f.1)

counts_long : (ns : List ℕ) (k : ℕ) → length (flat (map_from k counts ns)) ≡ 4 * length ns
counts_long [] k = refl
counts_long (n ∷ ns) k = let ih : length (flat (map_from (suc k) counts ns)) ≡ 4 * length ns = counts_long ns (suc k) in omega arith

counting_lawful : (sizes : List ℕ) → length sizes ≤ 15 → Every (λ n. (1 ≤ n) × (n ≤ 256)) sizes → Lawful (counting sizes)
counting_lawful sizes l h =
    algebra_lawful (2 ∷ sizes) (flat (map_from 1 counts sizes)) (omega arith) (omega arith) refl ((omega arith, omega arith), h)
    (let e : length (flat (map_from 1 counts sizes)) ≡ 4 * length sizes = counts_long sizes 1 in omega arith)
    (all_fit (2 ∷ sizes) refl sizes 1 (λ j n e. ap (at (2 ∷ sizes)) (let w : 1 + j ≡ suc j = omega arith in w) ∙ e) h)

steps_fit : Every (OpRanges (2 ∷ 16 ∷ [])) steps
steps_fit = (
  record { few = omega arith; args = (omega arith, (omega arith, tt)); res = omega arith; run = λ xs h. omega arith },
  (
    record { few = omega arith; args = (omega arith, (omega arith, tt)); res = omega arith; run = λ xs h. let (a, b) = two_in (2 ∷ 16 ∷ []) 1 16 xs refl h in omega arith },
    (
      record { few = omega arith; args = (omega arith, (omega arith, tt)); res = omega arith; run = λ xs h. truth_low (leb (second xs) (first xs)) },
      tt,
    ),
  ),
)

-- the place of arguments in range
place_low : (zs xs : List ℕ) → within zs xs ≡ true → (n m : ℕ) → n < m → place_of n zs xs < m * product zs
place_low [] [] h n m l = rw mul-one l
place_low [] (x ∷ xs) h n m l = absurd (false≢true h)
place_low (z ∷ zs) [] h n m l = absurd (false≢true h)
place_low (z ∷ zs) (x ∷ xs) h n m l =
    let low : x < z = ltb-true x z (and_left (ltb x z) (within zs xs) h) in
    let rest : within zs xs ≡ true = and_right (ltb x z) (within zs xs) h in
    let up : z * suc n ≤ z * m = mul-le-mul_left z (let e : suc n ≤ m = omega arith in e) in
    let here : n * z + x < m * z = omega (arith, up, mul-suc z n, mul_comm z n, mul_comm z m, low) in
    subst (λ k. place_of (n * z + x) zs xs < k) (mul_assoc m z (product zs)) (place_low zs xs rest (n * z + x) (m * z) here)

get_or_low : (vs : List ℕ) (n k : ℕ) → Every (λ v. v < n) vs → k < length vs → get_or vs k 0 < n
get_or_low [] n k h l = absurd (omega arith)
get_or_low (v ∷ vs) n zero h l = h.0
get_or_low (v ∷ vs) n (suc k) h l = get_or_low vs n k h.1 (omega arith)

tabled_fits : (sizes : List ℕ) (q : TableOp) → OpFits sizes q → OpRanges sizes (tabled sizes q)
tabled_fits sizes q h =
    record {
      few = h.few;
      args = h.args;
      res = h.res;
      run = λ xs w.
          let low : place_of 0 (sized sizes q.args) xs < 1 * product (sized sizes q.args) = place_low (sized sizes q.args) xs w 0 1 (omega arith) in
          get_or_low q.values (get_or sizes q.res 0) (place_of 0 (sized sizes q.args) xs) h.values
          (omega (arith, low, one-mul (product (sized sizes q.args)), h.count));
    }

table_lawful : (t : Table) → TableFits t → Lawful (table t)
table_lawful t h =
    algebra_lawful t.sizes (map (tabled t.sizes) t.ops) (let l : 0 < length t.sizes = at_lt t.sizes 0 2 h.truths in omega arith) h.few h.truths h.sizes
    (omega (arith, length-map t.ops (tabled t.sizes), h.few_ops))
    (every_mapped (OpRanges t.sizes) (tabled t.sizes) t.ops
    (every_with (OpFits t.sizes) (λ q. OpRanges t.sizes (tabled t.sizes q)) t.ops h.ops (tabled_fits t.sizes)))

-- what a fill accepts
each_every : {A : Type 0} (p : A → Bool) (xs : List A) → each p xs ≡ true → Every (λ x. p x ≡ true) xs
each_every p [] h = tt
each_every p (x ∷ xs) h = go (p x) refl h (each_every p xs)
  where
    go : (b : Bool) → p x ≡ b → elim b as (λ _. Bool) [ true ↦ each p xs | false ↦ false ] ≡ true → (each p xs ≡ true → Every (λ x. p x ≡ true) xs) → (p x ≡ true) × Every (λ x. p x ≡ true) xs
    go true e k ih = (e, ih k)
    go false e k ih = absurd (false≢true k)

abbrev sizes_good : List ℕ → Bool
sizes_good sizes = leb (length sizes) 15 && each (λ n. leb 1 n && leb n 256) sizes

counting_filled : (sizes : List ℕ) → counting_fill sizes ≡ filled sizes → Lawful (counting sizes)
counting_filled sizes e = go (sizes_good sizes) refl e
  where
    go : (b : Bool) → sizes_good sizes ≡ b →
        elim b as (λ _. Filling (List ℕ)) [ true ↦ filled sizes | false ↦ unfilled (record { reason = BadCountingSizes; place = 0 }) ] ≡ filled sizes → Lawful (counting sizes)
    go true t e =
        counting_lawful sizes (leb-true (length sizes) 15 (and_left (leb (length sizes) 15) (each (λ n. leb 1 n && leb n 256) sizes) t))
        (every_with (λ n. (leb 1 n && leb n 256) ≡ true) (λ n. (1 ≤ n) × (n ≤ 256)) sizes
        (each_every (λ n. leb 1 n && leb n 256) sizes (and_right (leb (length sizes) 15) (each (λ n. leb 1 n && leb n 256) sizes) t))
        (λ n h. (leb-true 1 n (and_left (leb 1 n) (leb n 256) h), leb-true n 256 (and_right (leb 1 n) (leb n 256) h))))
    go false t e = absurd cc

table_filled : (f : List ℕ) → Bytes f → (t : Table) → table_fill f ≡ filled t → Lawful (table t)
table_filled f small t e = go (table_reading f) refl e
  where
    go : (o : Reading Table) → table_reading f ≡ o → table_fill_by o ≡ filled t → Lawful (table t)
    go (got u) r e = let q : u ≡ t = cc in subst (λ (t : Table). Lawful (table t)) q (table_lawful u (table_forth f small u r).1)
    go (bad r p) q e = absurd cc

pub algebras_lawful : AlgebrasLawful
algebras_lawful =
    record {
      level_algebra = algebra_lawful (2 ∷ 16 ∷ []) steps (omega arith) (omega arith) refl ((omega arith, omega arith), ((omega arith, omega arith), tt)) (omega arith) steps_fit;
      counting_algebra = counting_lawful;
      counting_filled = counting_filled;
      table_algebra = table_lawful;
      table_filled = table_filled;
    }
