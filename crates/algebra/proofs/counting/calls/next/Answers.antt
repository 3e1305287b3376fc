use Rattle.std.proofs.Common.{arith}
use Rattle.algebra.proofs.Counts.{next_on}
use Rattle.algebra.proofs.counting.calls.next.Goals as goal

pub returns-else-a-size : goal.returns-else-a-size
returns-else-a-size c = let e = c.in_ok-a.ensures in next_on c.args.size c.in_ok-a.a c.args.args.now e.0 e.1 (omega (arith, e.2))
