use Rattle.std.proofs.Common.{ℕ, List, length, Some, ap, ◌∙◌}
use Rattle.rows.specs.Listed.{listed}
use Rattle.definitions.specs.Alg.{Op}
use Rattle.algebra.specs.Tables.{ask_some}
use Rattle.algebra.proofs.table.calls.TableAlgebra.arity.Goals as goal

pub returns : goal.returns
returns c =
    let t = c.args.self.now in
    ap (λ (l : List ℕ). Some (length l)) c.as_slice.ensures ∙
    ask_some (listed t.sizes) (listed t.values) (listed t.operations) c.args.op (λ (q : Op). Some (length q.args)) c.in_ok-operation.field-0 c.in_ok-operation.ensures
