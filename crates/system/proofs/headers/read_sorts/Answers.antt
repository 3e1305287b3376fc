use Rattle.std.proofs.Common.{arith}
use Rattle.definitions.specs.ReadSystem.{read_sort}
use Rattle.bits.proofs.InRow.{begun_next, begun_stop}
use Rattle.rows.specs.Listed.{listed}
use Rattle.system.proofs.headers.read_sorts.Goals as goal

pub returns-in_err-sort : goal.returns-in_err-sort
returns-in_err-sort g c =
    begun_stop (read_sort (g.G.Algebra.meaning c.args.alg.now)) c.read_sort.new.cursor (λ r. listed r) c.from_residual.result c.in_err-sort.field-0.0 (omega arith) c.loop.invariant c.in_err-sort.ensures c.from_residual.ensures.1

pub loop-preserved : goal.loop-preserved
loop-preserved g c =
    let n = c.loop.invariant.count in
    rw (c.push.ensures.added (omega arith)) (begun_next (read_sort (g.G.Algebra.meaning c.args.alg.now)) c.read_sort.new.cursor c.in_ok-sort.sort (omega arith) c.loop.invariant c.in_ok-sort.ensures)
