use Rattle.std.proofs.Common.{◌/◌, ◌≤◌, leb, sym, ◌∙◌}
use Rattle.std.proofs.lemmas.Bool.{leb-true, and_parts}
use Rattle.rows.specs.Listed.{listed}
use Rattle.algebra.specs.Limits.{size_fits}
use Rattle.algebra.specs.Lists.{every_at, every_each}
use Rattle.algebra.proofs.Counts.{value_none, value_some}
use Rattle.algebra.proofs.counting.calls.CountingAlgebra.value.Goals as goal

pub returns-in_err-counts_in : goal.returns-in_err-counts_in
returns-in_err-counts_in c = c.from_residual.ensures ∙ value_none (listed c.args.self.now.sizes) c.args.op c.args.args.now c.in_err-counts_in.ensures

pub count-requires : goal.count-requires
count-requires c =
    let ns = listed c.args.self.now.sizes in
    let all = every_each size_fits (λ n. n ≤ 256) (λ n e. leb-true n 256 (and_parts (leb 1 n) (leb n 256) e).1) ns c.args.self.now.fit in
    every_at (λ n. n ≤ 256) ns (c.args.op / 4) c.in_ok-counts_in.field-0 all (sym c.in_ok-counts_in.ensures)

pub returns : goal.returns
returns c = value_some (listed c.args.self.now.sizes) c.args.op c.in_ok-counts_in.field-0 c.args.args.now c.count.result c.in_ok-counts_in.ensures c.count.ensures
