-- A table that fits is read back from its file, and a table file that is read is the file of its table.
use Rattle.std.proofs.Common.{◌≡◌, ℕ, zero, suc, ◌+◌, ◌-◌, ◌*◌, ◌<◌, ◌≤◌, eqb, List, [], ◌∷◌, ◌++◌, map, length, get_or, Some, sym, ap, ◌∙◌, subst, ap₂, append_assoc, zero-add, arith}
use Rattle.std.proofs.lemmas.Bool.{eqb-true, eq-eqb}
use Rattle.faults.specs.declared.Reason.TheVariants.{NoSuchSort, ValueTooLarge, TruthSortSize}
use Rattle.definitions.specs.Lists.{at, flat, product}
use Rattle.definitions.specs.Bits.{field, Stands, bits, packed}
use Rattle.definitions.specs.Alg.{sized}
use Rattle.definitions.specs.Fits.{Every}
use Rattle.definitions.specs.FileFits.{OpFits, TableFits}
use Rattle.definitions.specs.Reading.{Reader, next, take, take_for, below, repeated}
use Rattle.definitions.specs.Tables.{TableOp, Table, read_size, read_sizes, read_sort, read_op, read_table, op_bits, table_bits, table_written}
use Rattle.theorems.specs.FileLaws.{TablesReadBack, TablesWrittenBack}
use Rattle.theorems.proofs.Listing.{none_some, some_same, every_with}
use Rattle.theorems.proofs.Fields.{stands_most, below_some, below_inv}
use Rattle.theorems.proofs.Packs.{packs}
use Rattle.theorems.proofs.Goods.{Good, good_then, good_last, good_take, good_for, good_must, good_here, good_repeated}
use Rattle.theorems.proofs.Sounds.{Sound, sound_then, sound_last, sound_take, sound_for, sound_must, sound_here, sound_repeated, sound_map}
use Rattle.theorems.proofs.Whole.{Bits, join, number_bits, flat_bits, ends, file_got}
use Rattle.theorems.proofs.Repack.{repacked, ended_got}

abbrev size_bits : ℕ → List ℕ
size_bits n = bits 8 (n - 1)

abbrev SizeFits : ℕ → Type 0
SizeFits n = (1 ≤ n) × (n ≤ 256)

-- the bits are bits
op_bits_lem : (q : TableOp) → Bits (op_bits q)
op_bits_lem q =
    join (bits 2 (length q.args)) _ (number_bits 2 (length q.args))
    (join (flat (map (bits 4) q.args)) _ (flat_bits (bits 4) (number_bits 4) q.args)
    (join (bits 4 q.res) _ (number_bits 4 q.res) (flat_bits (bits 8) (number_bits 8) q.values)))

table_bits_lem : (t : Table) → Bits (table_bits t)
table_bits_lem t =
    join (bits 4 (length t.sizes - 1)) _ (number_bits 4 (length t.sizes - 1))
    (join (flat (map size_bits t.sizes)) _ (flat_bits size_bits (λ n. number_bits 8 (n - 1)) t.sizes)
    (join (bits 6 (length t.ops)) _ (number_bits 6 (length t.ops)) (flat_bits op_bits op_bits_lem t.ops)))

size_at : (sizes : List ℕ) (k : ℕ) → Every SizeFits sizes → get_or sizes k 0 ≤ 256
size_at [] k h = omega arith
size_at (n ∷ sizes) zero h = h.0.1
size_at (n ∷ sizes) (suc k) h = size_at sizes k h.1

-- reading back
module _ (f : List ℕ) where
  good_size : (z : ℕ) → SizeFits z → Good f read_size z (size_bits z)
  good_size z h =
      subst (λ w. Good f read_size w (size_bits z)) (let e : suc (z - 1) ≡ z = omega (arith, h.0) in e)
      (good_last f suc (good_take f 8 (z - 1) (omega (arith, h.0, h.1))))

  good_sizes : (sizes : List ℕ) → at sizes 0 ≡ Some 2 → length sizes ≤ 16 → Every SizeFits sizes → Good f read_sizes sizes (bits 4 (length sizes - 1) ++ flat (map size_bits sizes))
  good_sizes [] e l h = none_some 2 e
  good_sizes (z ∷ zs) e l h =
      subst (λ n. Good f read_sizes (z ∷ zs) (bits 4 n ++ (size_bits z ++ flat (map size_bits zs)))) (let w : length zs ≡ length (z ∷ zs) - 1 = omega arith in w)
      (good_then f (take 4) _ (good_take f 4 (length zs) (omega arith))
      (good_here f _ (λ p.
      good_then f read_size _ (good_size z h.0)
      (good_must f (eqb z 2) TruthSortSize p (eq-eqb z 2 (some_same z 2 e))
      (good_last f (λ (ys : List ℕ). z ∷ ys) (good_repeated f read_size size_bits zs (every_with SizeFits (λ n. Good f read_size n (size_bits n)) zs h.1 good_size)))))))

  module _ (sizes : List ℕ) (few : length sizes ≤ 16) (fits : Every SizeFits sizes) where
    good_sort : (s : ℕ) → s < length sizes → Good f (read_sort sizes) s (bits 4 s)
    good_sort s l = good_for f 4 s (below (length sizes)) NoSuchSort s (omega arith) (below_some (length sizes) s l)

    abbrev value : ℕ → Reader ℕ
    value r = take_for 8 (below (get_or sizes r 0)) ValueTooLarge

    good_value : (r v : ℕ) → v < get_or sizes r 0 → Good f (value r) v (bits 8 v)
    good_value r v l = good_for f 8 v (below (get_or sizes r 0)) ValueTooLarge v (omega (arith, l, size_at sizes r fits)) (below_some (get_or sizes r 0) v l)

    good_op : (q : TableOp) → OpFits sizes q → Good f (read_op sizes) q (op_bits q)
    good_op q h =
        good_then f (take 2) _ (good_take f 2 (length q.args) (omega (arith, h.few)))
        (good_then f (repeated (read_sort sizes) (length q.args)) _
        (good_repeated f (read_sort sizes) (bits 4) q.args (every_with (λ s. s < length sizes) (λ s. Good f (read_sort sizes) s (bits 4 s)) q.args h.args good_sort))
        (good_then f (read_sort sizes) _ (good_sort q.res h.res)
        (good_last f (λ (vs : List ℕ). record { args = q.args; res = q.res; values = vs })
        (subst (λ n. Good f (repeated (value q.res) n) q.values (flat (map (bits 8) q.values))) h.count
        (good_repeated f (value q.res) (bits 8) q.values (every_with (λ v. v < get_or sizes q.res 0) (λ v. Good f (value q.res) v (bits 8 v)) q.values h.values (good_value q.res)))))))

  good_table : (t : Table) → TableFits t → Good f read_table t (table_bits t)
  good_table t h =
      subst (Good f read_table t) (append_assoc (bits 4 (length t.sizes - 1)) (flat (map size_bits t.sizes)) _)
      (good_then f read_sizes _ (good_sizes t.sizes h.truths h.few h.sizes)
      (good_then f (take 6) _ (good_take f 6 (length t.ops) (omega (arith, h.few_ops)))
      (good_last f (λ (os : List TableOp). record { sizes = t.sizes; ops = os })
      (good_repeated f (read_op t.sizes) op_bits t.ops
      (every_with (OpFits t.sizes) (λ q. Good f (read_op t.sizes) q (op_bits q)) t.ops h.ops (good_op t.sizes h.few h.sizes))))))

some_bits : (bs cs : List ℕ) → 1 ≤ length bs → 1 ≤ length (bs ++ cs)
some_bits [] cs l = absurd (omega arith)
some_bits (b ∷ bs) cs l = omega arith

pub table_back : TablesReadBack
table_back t h l =
    let bs = table_bits t in
    let f = packed bs in
    let p = packs bs (table_bits_lem t) in
    let g : read_table f 0 ≡ next t (length bs) = (good_table f t h).run 0 p.stand ∙ ap (next t) (zero-add (length bs)) in
    let long : 1 ≤ length bs = some_bits (bits 4 (length t.sizes - 1)) _ (omega arith) in
    let some : (length f ≡ 0) → ⊥ = λ z. omega (arith, p.long, long) in
    file_got 16384 read_table f t (length bs) some l g (ends f (length bs) p.short p.rest)

-- what is read
record SizesFit (sizes : List ℕ) : Type 0 where
  pub few : length sizes ≤ 16
  pub truths : at sizes 0 ≡ Some 2
  pub all : Every SizeFits sizes

module _ (f : List ℕ) where
  sound_size : Sound f read_size (λ z bs. (bs ≡ size_bits z) × SizeFits z)
  sound_size =
      sound_last f (take 8) suc _ (sound_take f 8)
      (λ n bs r. (r.0 ∙ ap (bits 8) (let e : n ≡ suc n - 1 = omega arith in e), (omega arith, omega (arith, r.1))))

  sound_sizes : Sound f read_sizes (λ zs bs. (bs ≡ bits 4 (length zs - 1) ++ flat (map size_bits zs)) × SizesFit zs)
  sound_sizes =
      sound_then f (take 4) _ _ (sound_take f 4) (λ n b₁ r₁.
      sound_here f _ (λ p.
      sound_then f read_size _ _ sound_size (λ z b₂ r₂.
      sound_must f _ (eqb z 2) TruthSortSize p (λ t.
      sound_last f (repeated read_size n) (λ (ys : List ℕ). z ∷ ys) _ (sound_repeated f read_size size_bits SizeFits sound_size n) (λ zs b₃ r₃.
      let e : n ≡ length (z ∷ zs) - 1 = omega (arith, r₃.1) in (
        ap₂ (λ u v. u ++ v) (r₁.0 ∙ ap (bits 4) e) (ap₂ (λ u v. u ++ v) r₂.0 r₃.0),
        record { few = omega (arith, r₁.1, r₃.1); truths = ap Some (eqb-true z 2 t); all = (r₂.1, r₃.2) },
      ))))))

  module _ (sizes : List ℕ) where
    sound_sort : Sound f (read_sort sizes) (λ s bs. (bs ≡ bits 4 s) × (s < length sizes))
    sound_sort =
        sound_map f (read_sort sizes) (sound_for f 4 (below (length sizes)) NoSuchSort)
        (λ s bs w. let (q, l) = below_inv (length sizes) w.0 s w.3 in (w.1 ∙ ap (bits 4) q, subst (λ z. z < length sizes) q l))

    sound_value : (n : ℕ) → Sound f (take_for 8 (below n) ValueTooLarge) (λ v bs. (bs ≡ bits 8 v) × (v < n))
    sound_value n =
        sound_map f (take_for 8 (below n) ValueTooLarge) (sound_for f 8 (below n) ValueTooLarge)
        (λ v bs w. let (q, l) = below_inv n w.0 v w.3 in (w.1 ∙ ap (bits 8) q, subst (λ z. z < n) q l))

    sound_op : Sound f (read_op sizes) (λ q bs. (bs ≡ op_bits q) × OpFits sizes q)
    sound_op =
        sound_then f (take 2) _ _ (sound_take f 2) (λ n b₁ r₁.
        sound_then f (repeated (read_sort sizes) n) _ _ (sound_repeated f (read_sort sizes) (bits 4) (λ s. s < length sizes) sound_sort n) (λ args b₂ r₂.
        sound_then f (read_sort sizes) _ _ sound_sort (λ res b₃ r₃.
        sound_last f (repeated (take_for 8 (below (get_or sizes res 0)) ValueTooLarge) (product (sized sizes args))) (λ (vs : List ℕ). record { args = args; res = res; values = vs }) _
        (sound_repeated f (take_for 8 (below (get_or sizes res 0)) ValueTooLarge) (bits 8) (λ v. v < get_or sizes res 0) (sound_value (get_or sizes res 0)) (product (sized sizes args)))
        (λ vs b₄ r₄. (
          ap₂ (λ u v. u ++ v) (r₁.0 ∙ ap (bits 2) (sym r₂.1)) (ap₂ (λ u v. u ++ v) r₂.0 (ap₂ (λ u v. u ++ v) r₃.0 r₄.0)),
          record { few = omega (arith, r₁.1, r₂.1); args = r₂.2; res = r₃.1; count = r₄.1; values = r₄.2 },
        )))))

  sound_table : Sound f read_table (λ t bs. (bs ≡ table_bits t) × TableFits t)
  sound_table =
      sound_then f read_sizes _ _ sound_sizes (λ zs b₁ r₁.
      sound_then f (take 6) _ _ (sound_take f 6) (λ n b₂ r₂.
      sound_last f (repeated (read_op zs) n) (λ (os : List TableOp). record { sizes = zs; ops = os }) _ (sound_repeated f (read_op zs) op_bits (OpFits zs) (sound_op zs) n) (λ os b₃ r₃. (
        ap₂ (λ u v. u ++ v) r₁.0 (ap₂ (λ u v. u ++ v) (r₂.0 ∙ ap (bits 6) (sym r₃.1)) r₃.0) ∙ append_assoc (bits 4 (length zs - 1)) (flat (map size_bits zs)) _,
        record { few = r₁.1.few; truths = r₁.1.truths; sizes = r₁.1.all; few_ops = omega (arith, r₂.1, r₃.1); ops = r₃.2 },
      ))))

pub table_forth : TablesWrittenBack
table_forth f hf t e = go (ended_got 16384 read_table f t e)
  where
    go : (p : ℕ) × (read_table f 0 ≡ next t p) × (8 * length f - p ≤ 7) × (field f p (8 * length f - p) ≡ 0) → (table_written t ≡ f) × TableFits t
    go w =
        let c = (sound_table f).run 0 (omega arith) t w.0 w.1 in
        let bs = table_bits t in
        let st : Stands f 0 bs = subst (Stands f 0) c.fact.0 c.stands in
        let at_end : w.0 ≡ length bs = c.behind ∙ zero-add (length c.its) ∙ ap length c.fact.0 in
        let le : 0 + length bs ≤ 8 * length f = stands_most f 0 bs st in (
          repacked f bs hf (table_bits_lem t) st (omega arith) (subst (λ p. 8 * length f - p ≤ 7) at_end w.2)
              (subst (λ p. field f p (8 * length f - p) ≡ 0) at_end w.3),
          c.fact.1,
        )
