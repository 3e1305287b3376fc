use Rattle.std.proofs.Common.{ℕ, ◌-◌, Some}
use Rattle.definitions.specs.Lists.{up_to}
use Rattle.definitions.specs.ReadSystem.{read_term, scope}
use Rattle.system.specs.Rows.{Skipped}
use Rattle.system.specs.Files.{kept_header}
use Rattle.system.proofs.term.Checker.+check_term.Given as goal

abbrev pub decreases-check_term : goal.decreases-check_term
decreases-check_term g l = l.depth

abbrev pub invariant-loop-k : goal.invariant-loop-k
invariant-loop-k g l =
    let a = g.G.Algebra.meaning l.self.alg.now in
    Skipped (λ (k : ℕ). read_term a (scope (kept_header l.self.header.now)) (l.depth - 1) (a.arg_sort l.o.op k)) (up_to l.o.count) l.k l.fn.cursor.bytes.now l.initial.cursor.at l.cursor

abbrev pub invariant-loop : goal.invariant-loop
invariant-loop g l = Skipped (λ (_ : ℕ). read_term (g.G.Algebra.meaning l.self.alg.now) (scope (kept_header l.self.header.now)) (l.depth - 1) (Some 0)) (up_to l.count) l.counter l.fn.cursor.bytes.now l.initial.cursor.at l.cursor
