use Rattle.definitions.specs.ReadSystem.{read_of, scope}
use Rattle.system.specs.Rows.{Skipped}
use Rattle.system.specs.Files.{kept_header}
use Rattle.system.proofs.term.Checker.check_occurrence.Given as goal

abbrev pub invariant-loop-sort : goal.invariant-loop-sort
invariant-loop-sort g l = Skipped (read_of (g.G.Algebra.meaning l.self.alg.now) (scope (kept_header l.self.header.now))) l.sort-items l.sort-index l.fn.cursor.bytes.now l.initial.cursor.at l.cursor
