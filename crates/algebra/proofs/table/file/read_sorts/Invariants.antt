use Rattle.faults.specs.declared.Reason.TheVariants.{NoSuchSort}
use Rattle.definitions.specs.Reading.{take_for, below}
use Rattle.bits.specs.InRow.{Begun}
use Rattle.rows.specs.Listed.{listed}
use Rattle.algebra.proofs.table.file.read_sorts.Given as goal

abbrev pub invariant-loop : goal.invariant-loop
invariant-loop l = Begun (take_for 4 (below l.count) NoSuchSort) l.arity l.counter (listed l.sorts) l.fn.cursor l.cursor
