use Rattle.std.proofs.Common.{◌/◌, length, Some, sym, ◌∙◌, arith}
use Rattle.rows.specs.Listed.{listed}
use Rattle.definitions.specs.Alg.{Op}
use Rattle.algebra.specs.Lists.{at_lt}
use Rattle.algebra.proofs.Counts.{arity_one, arity_two, none_at}
use Rattle.algebra.proofs.counting.calls.CountingAlgebra.arity.Goals as goal

pub returns-in_err-counts_in : goal.returns-in_err-counts_in
returns-in_err-counts_in c = c.from_residual.ensures ∙ none_at (listed c.args.self.now.sizes) c.args.op (λ (q : Op). Some (length q.args)) c.in_err-counts_in.ensures

pub returns-then-op-eq3 : goal.returns-then-op-eq3
returns-then-op-eq3 c =
    let ns = listed c.args.self.now.sizes in
    arity_two ns c.args.op (at_lt ns (c.args.op / 4) c.in_ok-counts_in.field-0 (sym c.in_ok-counts_in.ensures)) c.if-op-eq3.true

pub returns-else-op-eq3 : goal.returns-else-op-eq3
returns-else-op-eq3 c =
    let ns = listed c.args.self.now.sizes in
    arity_one ns c.args.op (at_lt ns (c.args.op / 4) c.in_ok-counts_in.field-0 (sym c.in_ok-counts_in.ensures)) (λ e. omega arith)
