use Rattle.std.proofs.Common.{◌≡◌, ℕ, ◌+◌, ◌*◌, ◌<◌, ◌≤◌, List, [], ◌∷◌, ◌++◌, length, drop, ap, ◌∙◌, arith, length-append, append_assoc}
use Rattle.faults.specs.declared.Reason.TheVariants.{ValueTooLarge}
use Rattle.rows.specs.Listed.{listed}
use Rattle.bits.proofs.InRow.{begun_next, begun_stop}
use Rattle.definitions.specs.Reading.{take_for, below}
use Rattle.algebra.proofs.Rows.{for_inv}
use Rattle.algebra.proofs.table.file.read_values.Goals as goal

pub returns-in_err-value-clause-reads : goal.returns-in_err-value-clause-reads
returns-in_err-value-clause-reads c =
    let (xs, e, b, l) = c.loop.invariant in
    begun_stop (take_for 8 (below c.args.size) ValueTooLarge) c.read_value.new.cursor (λ _. drop (length (listed c.args.values.now)) (listed c.loop.values)) c.from_residual.result c.in_err-value.field-0.0 (omega arith) b c.in_err-value.ensures c.from_residual.ensures.1

pub loop-preserved : goal.loop-preserved
loop-preserved c =
    let (xs, e, b, l) = c.loop.invariant in
    let v = c.in_ok-value.value in
    let vs = listed c.loop.values in
    let f = for_inv 8 (below c.args.size) ValueTooLarge c.loop.cursor.bytes.now c.loop.cursor.at v c.read_value.new.cursor.at c.in_ok-value.ensures.0 in
    let g : c.read_value.new.cursor.at ≡ c.loop.cursor.at + 8 = f.1 in
    let h : c.loop.cursor.at + 8 ≤ 8 * length c.loop.cursor.bytes.now = f.2 in
    let s : length c.loop.cursor.bytes.now ≡ length c.args.cursor.now.bytes.now = ap (λ (x : List ℕ). length x) b.same in
    let short : length c.args.cursor.now.bytes.now ≤ 16384 = c.requires.short in
    let room : length vs < 16384 = omega arith in
    let added = c.push.ensures.added room in
    let m : length (listed c.push.new.self) ≡ length vs + 1 = ap (λ (x : List ℕ). length x) added ∙ length-append vs (v ∷ []) in (
      xs ++ (v ∷ []),
      added ∙ ap (λ (x : List ℕ). x ++ (v ∷ [])) e ∙ append_assoc (listed c.args.values.now) xs (v ∷ []),
      begun_next (take_for 8 (below c.args.size) ValueTooLarge) c.read_value.new.cursor v (omega arith) b c.in_ok-value.ensures,
      omega arith,
    )
