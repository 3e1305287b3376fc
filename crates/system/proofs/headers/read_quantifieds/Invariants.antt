use Rattle.std.proofs.Common.{map}
use Rattle.definitions.specs.ReadSystem.{read_quantified}
use Rattle.bits.specs.InRow.{Begun}
use Rattle.rows.specs.Listed.{listed}
use Rattle.system.specs.Files.{kept_quantified}
use Rattle.system.proofs.headers.read_quantifieds.Given as goal

abbrev pub invariant-loop : goal.invariant-loop
invariant-loop g l = Begun (read_quantified (g.G.Algebra.meaning l.alg)) l.count l.counter (map kept_quantified (listed l.quantified)) l.fn.cursor l.cursor
