use Rattle.definitions.specs.ReadSystem.{read_sort}
use Rattle.bits.specs.InRow.{Begun}
use Rattle.rows.specs.Listed.{listed}
use Rattle.system.proofs.headers.read_sorts.Given as goal

abbrev pub invariant-loop : goal.invariant-loop
invariant-loop g l = Begun (read_sort (g.G.Algebra.meaning l.alg)) l.count l.counter (listed l.sorts) l.fn.cursor l.cursor
