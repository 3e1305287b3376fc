use Rattle.std.proofs.Common.{ℕ, map}
use Rattle.definitions.specs.Lists.{up_to}
use Rattle.definitions.specs.ReadSystem.{read_clause, scope}
use Rattle.system.specs.Files.{kept_header}
use Rattle.system.specs.Rows.{Skipped}
use Rattle.system.proofs.term.Checker.check_body.Given as goal

abbrev pub invariant-loop : goal.invariant-loop
invariant-loop g l =
    let r = read_clause (g.G.Algebra.meaning l.self.alg.now) (map kept_header l.self.headers.now) (scope (kept_header l.self.header.now)) in
    Skipped (λ (_ : ℕ). r) (up_to l.count) l.counter l.fn.cursor.bytes.now l.initial.cursor.at l.cursor
