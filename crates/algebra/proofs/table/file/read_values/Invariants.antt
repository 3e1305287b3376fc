use Rattle.std.proofs.Common.{◌≡◌, ℕ, ◌*◌, ◌≤◌, List, ◌++◌, length}
use Rattle.faults.specs.declared.Reason.TheVariants.{ValueTooLarge}
use Rattle.rows.specs.Listed.{listed}
use Rattle.bits.specs.InRow.{Begun}
use Rattle.definitions.specs.Reading.{take_for, below}
use Rattle.algebra.proofs.table.file.read_values.Given as goal

abbrev pub invariant-loop : goal.invariant-loop
invariant-loop l =
    (xs : List ℕ) × (listed l.values ≡ listed l.fn.values ++ xs) × Begun (take_for 8 (below l.size) ValueTooLarge) l.count l.counter xs l.fn.cursor l.cursor × (8 * length (listed l.values) ≤ l.cursor.at)
