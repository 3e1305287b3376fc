use Rattle.std.proofs.Common.{◌≡◌, ℕ, ◌+◌, ◌^◌, ◌<◌, ◌≤◌, true, false, ltb, List, length, get_or, Some, None, Option, ◌∙◌, ap, ap₂, arith}
use Rattle.rows.specs.Listed.{listed, listed_within}
use Rattle.definitions.specs.Lists.{each}
use Rattle.definitions.specs.Alg.{within, sized}
use Rattle.definitions.specs.Tables.{place_of}
use Rattle.algebra.specs.Kept.{args_of}
use Rattle.algebra.specs.Places.{placed, unplaced}
use Rattle.algebra.specs.Tables.{args_known, place_fits, value_none, value_some}
use Rattle.algebra.proofs.table.calls.TableAlgebra.value.Goals as goal

-- the answer of the search for a place, with the slices as the table has them
asked : (sizes zs sorts ss xs : List ℕ) → zs ≡ sizes → ss ≡ sorts → (r : Option ℕ) →
    r ≡ elim (within (sized zs ss) xs) [ true ↦ Some (place_of 0 (sized zs ss) xs) | false ↦ None ] →
    r ≡ elim (within (sized sizes sorts) xs) [ true ↦ Some (place_of 0 (sized sizes sorts) xs) | false ↦ None ]
asked sizes zs sorts ss xs e f r h = h ∙ ap₂ (λ (x y : List ℕ). elim (within (sized x y) xs) [ true ↦ Some (place_of 0 (sized x y) xs) | false ↦ None ]) e f

found : (sizes zs sorts ss xs : List ℕ) → zs ≡ sizes → ss ≡ sorts → (p : ℕ) →
    Some p ≡ elim (within (sized zs ss) xs) [ true ↦ Some (place_of 0 (sized zs ss) xs) | false ↦ None ] → (within (sized sizes sorts) xs ≡ true) × (place_of 0 (sized sizes sorts) xs ≡ p)
found sizes zs sorts ss xs e f p h = placed (within (sized sizes sorts) xs) (place_of 0 (sized sizes sorts) xs) p (asked sizes zs sorts ss xs e f (Some p) h)

pub place_of-requires-clause-known : goal.place_of-requires-clause-known
place_of-requires-clause-known c =
    let t = c.args.self.now in
    ap₂ (λ (x y : List ℕ). each (λ s. ltb s (length x)) y) c.as_slice.ensures c.as_slice-2.ensures ∙
    args_known (listed t.sizes) (listed t.operations) (listed t.values) c.args.op c.in_ok-operation.operation c.in_ok-operation.ensures t.sound

pub returns-in_err-place : goal.returns-in_err-place
returns-in_err-place c =
    let t = c.args.self.now in
    let o = c.in_ok-operation.operation in
    let xs : List ℕ = c.args.args.now in
    let zs = sized (listed t.sizes) (args_of o) in
    c.from_residual-in_err-place.ensures ∙ value_none (listed t.sizes) (listed t.operations) (listed t.values) c.args.op o c.in_ok-operation.ensures xs
    (unplaced (within zs xs) (place_of 0 zs xs) (asked (listed t.sizes) c.as_slice.result.now (listed o.sorts) c.as_slice-2.result.now xs c.as_slice.ensures c.as_slice-2.ensures None c.in_err-place.ensures))

pub overflow_add-result : goal.overflow_add-result
overflow_add-result c =
    let t = c.args.self.now in
    let o = c.in_ok-operation.operation in
    let f = found (listed t.sizes) c.as_slice.result.now (listed o.sorts) c.as_slice-2.result.now c.args.args.now c.as_slice.ensures c.as_slice-2.ensures c.in_ok-place.place c.in_ok-place.ensures in
    let inside : o.offset + c.in_ok-place.place < length (listed t.values) = place_fits (listed t.sizes) (listed t.operations) (listed t.values) c.args.op o c.in_ok-operation.ensures t.room c.args.args.now c.in_ok-place.place f.0 f.1 in
    let few : length (listed t.values) ≤ 16384 = listed_within t.values in
    record { fits = (let i : o.offset + c.in_ok-place.place < 2 ^ 64 = omega arith in i) }

pub bounds-as_slice-operation : goal.bounds-as_slice-operation
bounds-as_slice-operation c =
    let t = c.args.self.now in
    let o = c.in_ok-operation.operation in
    let f = found (listed t.sizes) c.as_slice.result.now (listed o.sorts) c.as_slice-2.result.now c.args.args.now c.as_slice.ensures c.as_slice-2.ensures c.in_ok-place.place c.in_ok-place.ensures in
    let inside : o.offset + c.in_ok-place.place < length (listed t.values) = place_fits (listed t.sizes) (listed t.operations) (listed t.values) c.args.op o c.in_ok-operation.ensures t.room c.args.args.now c.in_ok-place.place f.0 f.1 in
    let e : length c.as_slice-3.result.now ≡ length (listed t.values) = ap (λ (l : List ℕ). length l) c.as_slice-3.ensures in
    omega arith

pub returns : goal.returns
returns c =
    let t = c.args.self.now in
    let o = c.in_ok-operation.operation in
    let f = found (listed t.sizes) c.as_slice.result.now (listed o.sorts) c.as_slice-2.result.now c.args.args.now c.as_slice.ensures c.as_slice-2.ensures c.in_ok-place.place c.in_ok-place.ensures in
    ap (λ (l : List ℕ). Some (get_or l (o.offset + c.in_ok-place.place) 0)) c.as_slice-3.ensures ∙
    value_some (listed t.sizes) (listed t.operations) (listed t.values) c.args.op o c.in_ok-operation.ensures c.args.args.now c.in_ok-place.place f.0 f.1
