use Rattle.std.proofs.Common.{arith}
use Rattle.faults.specs.declared.Reason.TheVariants.{NoSuchSort}
use Rattle.definitions.specs.Reading.{take_for, below}
use Rattle.rows.specs.Listed.{listed}
use Rattle.bits.proofs.InRow.{begun_next, begun_stop}
use Rattle.algebra.proofs.table.file.read_sorts.Goals as goal

pub returns-in_err-sort : goal.returns-in_err-sort
returns-in_err-sort c =
    begun_stop (take_for 4 (below c.args.count) NoSuchSort) c.read_sort.new.cursor (λ r. listed r) c.from_residual.result c.in_err-sort.field-0.0 (omega arith) c.loop.invariant c.in_err-sort.ensures c.from_residual.ensures.1

pub loop-preserved : goal.loop-preserved
loop-preserved c = let n = c.loop.invariant.count in rw (c.push.ensures.added (omega arith)) (begun_next (take_for 4 (below c.args.count) NoSuchSort) c.read_sort.new.cursor c.in_ok-sort.sort (omega arith) c.loop.invariant c.in_ok-sort.ensures)
