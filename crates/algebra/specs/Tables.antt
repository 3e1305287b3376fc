-- The table algebra: lawful where it is sound, and its answers.
use Rattle.std.specs.Prelude.{◌≡◌, ℕ, zero, suc, ◌+◌, ◌*◌, ◌<◌, ◌≤◌, Bool, true, false, ◌&&◌, ltb, leb, List, [], ◌∷◌, map, length, Some, None, Option, ◌==◌, nat_le, nat_lt, slice_index, slice_index_or, refl}
use Rattle.std.proofs.Common.{sym, ◌∙◌, ap, arith}
use Rattle.std.proofs.lemmas.List.{length-map}
use Rattle.std.proofs.lemmas.Bool.{ltb-true, leb-true, eqb-true, and_parts}
use Rattle.definitions.specs.Lists.{at, bind, each, product}
use Rattle.definitions.specs.Alg.{Op, within, sized, Lawful}
use Rattle.definitions.specs.Tables.{place_of, TableOp, Table, tabled, table}
use Rattle.definitions.specs.Fits.{Every}
use Rattle.algebra.specs.Limits.{size_fits, sizes_fit}
use Rattle.algebra.specs.Kept.{args_of, values_of, kept_op, kept, roomy, op_sound, sizes_sound, table_sound}
use Rattle.algebra.specs.declared.table.operation.Operation.{Operation}
use Rattle.algebra.specs.Places.{place_below, value_at}
use Rattle.algebra.specs.Lists.{none_some, some_inj, at_in, at_map, every_at, every_each, each_cons}
use Rattle.algebra.specs.Lawfuls.{OpFits, algebra_lawful}

pub size_fits_lem : (n : ℕ) → size_fits n ≡ true → (1 ≤ n) × (n ≤ 256)
size_fits_lem n e = let p = and_parts (nat_le 1 n) (nat_le n 256) e in (leb-true 1 n p.0, leb-true n 256 p.1)

-- a test of each number below a limit, at any place
below_at : (n : ℕ) → 0 < n → (vs : List ℕ) (k : ℕ) → each (λ v. ltb v n) vs ≡ true → slice_index vs k < n
below_at n h [] k e = h
below_at n h (v ∷ vs) zero e = ltb-true v n (each_cons (λ v. ltb v n) v vs e).0
below_at n h (v ∷ vs) (suc k) e = below_at n h vs k (each_cons (λ v. ltb v n) v vs e).1

every_map : {A B : Type 0} (P : B → Type 0) (g : A → B) (l : List A) → Every (λ x. P (g x)) l → Every P (map g l)
every_map P g [] h = tt
every_map P g (x ∷ l) h = (h.0, every_map P g l h.1)

op_fits : (sizes : List ℕ) → sizes_fit sizes ≡ true → (q : TableOp) → op_sound sizes q ≡ true → OpFits sizes (tabled sizes q)
op_fits sizes fit q e =
    let n = slice_index_or sizes q.res 0 in
    let p = and_parts (nat_le (length q.args) 3) (each (λ s. ltb s (length sizes)) q.args && (nat_lt q.res (length sizes) && each (λ v. ltb v n) q.values)) e in
    let r = and_parts (each (λ s. ltb s (length sizes)) q.args) (nat_lt q.res (length sizes) && each (λ v. ltb v n) q.values) p.1 in
    let t = and_parts (nat_lt q.res (length sizes)) (each (λ v. ltb v n) q.values) r.1 in
    let res : q.res < length sizes = ltb-true q.res (length sizes) t.0 in
    let some = every_at (λ n. (1 ≤ n) × (n ≤ 256)) sizes q.res n (every_each size_fits (λ n. (1 ≤ n) × (n ≤ 256)) size_fits_lem sizes fit) (at_in sizes q.res 0 res) in
    record {
      few = leb-true (length q.args) 3 p.0;
      args = every_each (λ s. ltb s (length sizes)) (λ s. s < length sizes) (λ s. ltb-true s (length sizes)) q.args r.0;
      res = res;
      run = λ xs w. below_at n some.0 q.values (place_of 0 (sized sizes q.args) xs) t.1;
    }

pub table_lawful : (t : Table) → table_sound t ≡ true → Lawful (table t)
table_lawful t e =
    let zs = t.sizes in
    let p = and_parts (sizes_sound zs) (nat_le (length t.ops) 63 && each (op_sound zs) t.ops) e in
    let q = and_parts (nat_le (length t.ops) 63) (each (op_sound zs) t.ops) p.1 in
    let r = and_parts (nat_le 1 (length zs) && nat_le (length zs) 16) (slice_index zs 0 == 2 && sizes_fit zs) p.0 in
    let s = and_parts (nat_le 1 (length zs)) (nat_le (length zs) 16) r.0 in
    let u = and_parts (slice_index zs 0 == 2) (sizes_fit zs) r.1 in
    let one : 1 ≤ length zs = leb-true 1 (length zs) s.0 in
    let m : length (map (tabled zs) t.ops) ≡ length t.ops = length-map t.ops (tabled zs) in
    let few : length t.ops ≤ 63 = leb-true (length t.ops) 63 q.0 in
    algebra_lawful zs (map (tabled zs) t.ops) one (leb-true (length zs) 16 s.1) (at_in zs 0 0 one ∙ ap Some (eqb-true (slice_index zs 0) 2 u.0))
    (every_each size_fits (λ n. (1 ≤ n) × (n ≤ 256)) size_fits_lem zs u.1) (omega arith)
    (every_map (OpFits zs) (tabled zs) t.ops (every_each (op_sound zs) (λ q. OpFits zs (tabled zs q)) (op_fits zs u.1) t.ops q.1))

-- the answers about an operation
module _ {X : Type 0} (sizes values : List ℕ) (os : List Operation) (i : ℕ) (g : Op → Option X) where
  twice : bind (at (map (tabled sizes) (map (kept_op sizes values) os)) i) g ≡ bind (at os i) (λ o. g (tabled sizes (kept_op sizes values o)))
  twice = ap (λ z. bind z g) (at_map (tabled sizes) (map (kept_op sizes values) os) i ∙ ap (λ z. bind z (λ q. Some (tabled sizes q))) (at_map (kept_op sizes values) os i)) ∙ go (at os i)
    where
      go : (z : Option Operation) → bind (bind (bind z (λ o. Some (kept_op sizes values o))) (λ q. Some (tabled sizes q))) g ≡ bind z (λ o. g (tabled sizes (kept_op sizes values o)))
      go None = refl
      go (Some o) = refl

  pub ask_some : (o : Operation) → Some o ≡ at os i → g (tabled sizes (kept_op sizes values o)) ≡ bind (at (map (tabled sizes) (map (kept_op sizes values) os)) i) g
  ask_some o e = ap (λ z. bind z (λ o. g (tabled sizes (kept_op sizes values o)))) e ∙ sym twice

each_some : {A B : Type 0} (p : B → Bool) (g : A → B) (l : List A) (i : ℕ) (x : A) → each p (map g l) ≡ true → at l i ≡ Some x → p (g x) ≡ true
each_some p g [] i x h e = none_some x e
each_some p g (y ∷ l) zero x h e = ap (λ z. p (g z)) (sym (some_inj y x e)) ∙ (each_cons p (g y) (map g l) h).0
each_some p g (y ∷ l) (suc i) x h e = each_some p g l i x (each_cons p (g y) (map g l) h).1 e

each_of : {A : Type 0} (p : A → Bool) (l : List A) (i : ℕ) (x : A) → each p l ≡ true → at l i ≡ Some x → p x ≡ true
each_of p [] i x h e = none_some x e
each_of p (y ∷ l) zero x h e = ap p (sym (some_inj y x e)) ∙ (each_cons p y l h).0
each_of p (y ∷ l) (suc i) x h e = each_of p l i x (each_cons p y l h).1 e

-- one operation of a sound table
module _ (sizes : List ℕ) (os : List Operation) (values : List ℕ) (i : ℕ) (o : Operation) (there : Some o ≡ at os i) where
  pub args_known : table_sound (kept sizes os values) ≡ true → each (λ s. ltb s (length sizes)) (args_of o) ≡ true
  args_known e =
      let q = kept_op sizes values o in
      let p = and_parts (sizes_sound sizes) (nat_le (length (map (kept_op sizes values) os)) 63 && each (op_sound sizes) (map (kept_op sizes values) os)) e in
      let r = and_parts (nat_le (length (map (kept_op sizes values) os)) 63) (each (op_sound sizes) (map (kept_op sizes values) os)) p.1 in
      let s = each_some (op_sound sizes) (kept_op sizes values) os i o r.1 (sym there) in
      let tail = nat_lt q.res (length sizes) && each (λ v. ltb v (slice_index sizes q.res)) q.values in
      let u = and_parts (nat_le (length q.args) 3) (each (λ s. ltb s (length sizes)) q.args && tail) s in
      (and_parts (each (λ s. ltb s (length sizes)) q.args) tail u.1).0

  pub room_for : roomy sizes values os ≡ true → o.offset + values_of sizes o ≤ length values
  room_for e = leb-true (o.offset + values_of sizes o) (length values) (each_of (λ o. leb (o.offset + values_of sizes o) (length values)) os i o e (sym there))

  -- where its value at some arguments lies
  pub place_fits : roomy sizes values os ≡ true → (xs : List ℕ) (p : ℕ) → within (sized sizes (args_of o)) xs ≡ true → place_of 0 (sized sizes (args_of o)) xs ≡ p → o.offset + p < length values
  place_fits room xs p w e =
      let zs = sized sizes (args_of o) in
      let b : place_of 0 zs xs < (0 + 1) * product zs = place_below 0 zs xs w in
      let r : o.offset + values_of sizes o ≤ length values = room_for room in
      omega arith

  module _ (xs : List ℕ) where
    abbrev g : Op → Option ℕ
    g q = elim (within (sized sizes q.args) xs) [ true ↦ Some (q.run xs) | false ↦ None ]

    pub value_none : within (sized sizes (args_of o)) xs ≡ false → None ≡ (table (kept sizes os values)).value i xs
    value_none e =
        sym (ap (λ (b : Bool). elim b [ true ↦ Some ((tabled sizes (kept_op sizes values o)).run xs) | false ↦ None ]) e) ∙ ask_some sizes values os i g o there

    pub value_some : (p : ℕ) → within (sized sizes (args_of o)) xs ≡ true → place_of 0 (sized sizes (args_of o)) xs ≡ p → Some (slice_index values (o.offset + p)) ≡ (table (kept sizes os values)).value i xs
    value_some p w e =
        let zs = sized sizes (args_of o) in
        let b : place_of 0 zs xs < product zs = (let h = place_below 0 zs xs w in omega arith) in
        ap (λ (k : ℕ). Some (slice_index values (o.offset + k))) (sym e) ∙ ap Some (sym (value_at values o.offset (values_of sizes o) (place_of 0 zs xs) b)) ∙
        sym (ap (λ (b : Bool). elim b [ true ↦ Some ((tabled sizes (kept_op sizes values o)).run xs) | false ↦ None ]) w) ∙ ask_some sizes values os i g o there
