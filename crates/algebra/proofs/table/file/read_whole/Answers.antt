use Rattle.std.proofs.Common.{◌≡◌, ℕ, ◌^◌, ◌<◌, ◌&&◌, leb, List, map, length, sym, ap, ◌∙◌, subst, arith}
use Rattle.std.proofs.lemmas.Bool.{le-leb, and_from}
use Rattle.rows.specs.Listed.{listed}
use Rattle.definitions.specs.Lists.{each}
use Rattle.definitions.specs.Reading.{next, repeated}
use Rattle.definitions.specs.Tables.{read_op}
use Rattle.algebra.specs.Kept.{kept_op, roomy, op_sound, sizes_sound}
use Rattle.algebra.proofs.Rows.{row_inv}
use Rattle.algebra.proofs.Sounds.{sizes_sound_lem, op_sound_lem}
use Rattle.algebra.proofs.table.file.read_whole.Goals as goal

pub invariant_of-result : goal.invariant_of-result
invariant_of-result c =
    let sizes = listed c.in_ok-sizes.sizes in
    let os = listed c.in_ok-operations.operations in
    let vs = listed c.read_operations.new.values in
    let m = c.in_ok-number.number in
    let f = c.field.new.self.bytes.now in
    let p = c.field.new.self.at in
    let q = c.read_operations.new.cursor.at in
    let ops = map (kept_op sizes vs) os in
    let small : m < 2 ^ 6 = c.in_ok-number.ensures.small in
    let reads : next ops q ≡ repeated (read_op sizes) m f p =
    subst (λ (l : List ℕ). next (map (kept_op l vs) os) q ≡ repeated (read_op l) m f p) c.as_slice.ensures c.in_ok-operations.ensures.reads.0 in
    let r = row_inv f (read_op sizes) (op_sound sizes) (op_sound_lem sizes f) m p ops q reads in
    let long : length ops ≡ m = r.1 in
    record {
      sound = and_from (sizes_sound sizes) (leb (length ops) 63 && each (op_sound sizes) ops) (sizes_sound_lem c.args.file.now 0 sizes c.read_sizes.new.cursor.at c.in_ok-sizes.ensures.0) (and_from (leb (length ops) 63) (each (op_sound sizes) ops) (le-leb (length ops) 63 (omega arith)) r.0);
      room = ap (λ (l : List ℕ). roomy l vs os) (sym c.as_slice.ensures) ∙ c.in_ok-operations.ensures.fit;
    }
