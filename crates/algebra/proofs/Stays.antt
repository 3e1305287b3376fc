-- The values of operations that were read, among all, stay as more are read.
use Rattle.std.proofs.Common.{◌≡◌, ℕ, zero, suc, ◌+◌, ◌≤◌, Bool, true, false, leb, List, [], ◌∷◌, ◌++◌, map, length, take, drop, sym, refl, ap, ◌∙◌, ap₂, arith, take-take}
use Rattle.std.proofs.Math.Seq.{take-length}
use Rattle.std.proofs.lemmas.Bool.{leb-true, le-leb}
use Rattle.definitions.specs.Lists.{each}
use Rattle.definitions.specs.Tables.{TableOp}
use Rattle.algebra.specs.Kept.{args_of, values_of, kept_op, roomy}
use Rattle.algebra.specs.declared.table.operation.Operation.{Operation}
use Rattle.algebra.specs.Lists.{each_cons}

part_front : (off m n : ℕ) (vs : List ℕ) → off + m ≤ n → take m (drop off vs) ≡ take m (drop off (take n vs))
part_front zero m n vs h = sym (take-take m n vs (omega arith))
part_front (suc off) m zero vs h = absurd (omega arith)
part_front (suc off) m (suc n) [] h = refl
part_front (suc off) m (suc n) (v ∷ vs) h = part_front off m n vs (omega arith)

front_short : (n : ℕ) (l : List ℕ) → length (take n l) ≤ length l
front_short zero l = omega arith
front_short (suc n) [] = omega arith
front_short (suc n) (x ∷ l) = let h : length (take n l) ≤ length l = front_short n l in omega arith

each_last : {A : Type 0} (p : A → Bool) (l : List A) (x : A) → each p l ≡ true → p x ≡ true → each p (l ++ (x ∷ [])) ≡ true
each_last p [] x h e = ap (λ (b : Bool). elim b [ true ↦ true | false ↦ false ]) e
each_last p (y ∷ l) x h e = let q = each_cons p y l h in ap (λ (b : Bool). elim b [ true ↦ each p (l ++ (x ∷ [])) | false ↦ false ]) q.0 ∙ each_last p l x q.1 e

map_last : {A B : Type 0} (g : A → B) (l : List A) (x : A) → map g (l ++ (x ∷ [])) ≡ map g l ++ (g x ∷ [])
map_last g [] x = refl
map_last g (y ∷ l) x = ap (λ zs. g y ∷ zs) (map_last g l x)

-- the values vs are those that ws begins with
pub longer : (vs ws : List ℕ) → take (length vs) ws ≡ vs → length vs ≤ length ws
longer vs ws same = let e : length (take (length vs) ws) ≡ length vs = ap (λ (l : List ℕ). length l) same in let h : length (take (length vs) ws) ≤ length ws = front_short (length vs) ws in omega arith

-- all values from a place on
pub all_from : (m off n : ℕ) (ws : List ℕ) → off ≡ n → length (drop n ws) ≡ m → take m (drop off ws) ≡ drop n ws
all_from m off n ws e h = ap₂ (λ (o k : ℕ). take k (drop o ws)) e (sym h) ∙ take-length (drop n ws)

module _ (sizes vs ws : List ℕ) (same : take (length vs) ws ≡ vs) where
  kept_same : (os : List Operation) → roomy sizes vs os ≡ true → map (kept_op sizes ws) os ≡ map (kept_op sizes vs) os
  kept_same [] h = refl
  kept_same (o ∷ os) h =
      let p = each_cons (λ o. leb (o.offset + values_of sizes o) (length vs)) o os h in
      let l = leb-true (o.offset + values_of sizes o) (length vs) p.0 in
      let e = part_front o.offset (values_of sizes o) (length vs) ws l ∙ ap (λ l. take (values_of sizes o) (drop o.offset l)) same in
      ap₂ (λ (q : TableOp) (qs : List TableOp). q ∷ qs) (ap (λ (l : List ℕ). record { args = args_of o; res = o.result; values = l }) e) (kept_same os p.1)

  roomy_more : (os : List Operation) → roomy sizes vs os ≡ true → roomy sizes ws os ≡ true
  roomy_more [] h = refl
  roomy_more (o ∷ os) h =
      let p = each_cons (λ o. leb (o.offset + values_of sizes o) (length vs)) o os h in
      let i = leb-true (o.offset + values_of sizes o) (length vs) p.0 in
      let l = longer vs ws same in
      let j : o.offset + values_of sizes o ≤ length ws = omega arith in
      ap (λ (b : Bool). elim b [ true ↦ roomy sizes ws os | false ↦ false ]) (le-leb (o.offset + values_of sizes o) (length ws) j) ∙ roomy_more os p.1

  -- one operation more
  module _ (os : List Operation) (o : Operation) (room : roomy sizes vs os ≡ true) where
    pub ops_next : map (kept_op sizes vs) os ++ (kept_op sizes ws o ∷ []) ≡ map (kept_op sizes ws) (os ++ (o ∷ []))
    ops_next = ap (λ qs. qs ++ (kept_op sizes ws o ∷ [])) (sym (kept_same os room)) ∙ sym (map_last (kept_op sizes ws) os o)

    pub roomy_next : o.offset + values_of sizes o ≤ length ws → roomy sizes ws (os ++ (o ∷ [])) ≡ true
    roomy_next h = each_last (λ o. leb (o.offset + values_of sizes o) (length ws)) os o (roomy_more os room) (le-leb (o.offset + values_of sizes o) (length ws) h)
