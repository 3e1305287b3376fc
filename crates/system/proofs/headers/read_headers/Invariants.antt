use Rattle.std.proofs.Common.{map}
use Rattle.definitions.specs.ReadSystem.{read_header}
use Rattle.bits.specs.InRow.{Begun}
use Rattle.rows.specs.Listed.{listed}
use Rattle.system.specs.Files.{kept_header}
use Rattle.system.proofs.headers.read_headers.Given as goal

abbrev pub invariant-loop : goal.invariant-loop
invariant-loop g l = Begun (read_header (g.G.Algebra.meaning l.alg)) l.count l.counter (map kept_header (listed l.headers)) l.fn.cursor l.cursor
