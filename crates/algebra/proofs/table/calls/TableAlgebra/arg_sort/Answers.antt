use Rattle.std.proofs.Common.{◌∙◌}
use Rattle.rows.specs.Listed.{listed}
use Rattle.definitions.specs.Alg.{Op}
use Rattle.definitions.specs.Lists.{at}
use Rattle.algebra.specs.Tables.{ask_some}
use Rattle.algebra.proofs.table.calls.TableAlgebra.arg_sort.Goals as goal

pub returns : goal.returns
returns c =
    let t = c.args.self.now in
    c.arg_sort.ensures ∙ ask_some (listed t.sizes) (listed t.values) (listed t.operations) c.args.op (λ (q : Op). at q.args c.args.k) c.in_ok-operation.field-0 c.in_ok-operation.ensures
