use Rattle.std.proofs.Common.{◌≡◌, ◌*◌, ◌≤◌, true, map, length}
use Rattle.rows.specs.Listed.{listed}
use Rattle.bits.specs.InRow.{Begun}
use Rattle.definitions.specs.Tables.{read_op}
use Rattle.algebra.specs.Kept.{kept_op, roomy}
use Rattle.algebra.proofs.table.file.read_operations.Given as goal

abbrev pub invariant-loop : goal.invariant-loop
invariant-loop l = record {
  row : Begun (read_op l.sizes) l.count l.counter (map (kept_op l.sizes (listed l.values)) (listed l.operations)) l.fn.cursor l.cursor;
  room : roomy l.sizes (listed l.values) (listed l.operations) ≡ true;
  ahead : 8 * length (listed l.values) ≤ l.cursor.at;
}
