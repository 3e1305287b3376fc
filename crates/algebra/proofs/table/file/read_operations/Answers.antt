use Rattle.std.proofs.Common.{◌≡◌, ◌+◌, List, map, length, sym, ap, ◌∙◌, subst, arith}
use Rattle.std.proofs.lemmas.List.{length-map}
use Rattle.rows.specs.Listed.{listed}
use Rattle.bits.specs.InRow.{Begun}
use Rattle.bits.proofs.InRow.{begun_next, begun_stop}
use Rattle.definitions.specs.Tables.{TableOp, read_op}
use Rattle.algebra.specs.Kept.{kept_op, roomy}
use Rattle.algebra.proofs.Stays.{ops_next, roomy_next}
use Rattle.algebra.proofs.table.file.read_operations.Goals as goal

pub returns-in_err-operation-clause-reads : goal.returns-in_err-operation-clause-reads
returns-in_err-operation-clause-reads c =
    let kept = kept_op c.args.sizes.now (listed c.read_operation.new.values) in
    begun_stop (read_op c.args.sizes.now) c.read_operation.new.cursor (λ r. map kept (listed r)) c.from_residual.result c.in_err-operation.field-0.0 (omega arith) c.loop.invariant.row c.in_err-operation.ensures.reads c.from_residual.ensures.1

pub loop-preserved : goal.loop-preserved
loop-preserved c =
    let o = c.in_ok-operation.operation in
    let os = listed c.loop.operations in
    let sizes = c.args.sizes.now in
    let vs = listed c.loop.values in
    let ws = listed c.read_operation.new.values in
    let i = c.loop.invariant in
    let same = c.in_ok-operation.ensures.before in
    let n = i.row.count in
    let m : length (map (kept_op sizes vs) os) ≡ length os = length-map os (kept_op sizes vs) in
    let added = c.push.ensures.added (omega arith) in
    let all = ops_next sizes vs ws same os o i.room ∙ ap (map (kept_op sizes ws)) (sym added) in
    let more = begun_next (read_op sizes) c.read_operation.new.cursor (kept_op sizes ws o) (omega arith) i.row c.in_ok-operation.ensures.reads in
    record {
      row = subst (λ (xs : List TableOp). Begun (read_op sizes) c.args.count (c.loop.counter + 1) xs c.args.cursor.now c.read_operation.new.cursor) all more;
      room = ap (roomy sizes ws) added ∙ roomy_next sizes vs ws same os o i.room c.in_ok-operation.ensures.fit.0;
      ahead = c.in_ok-operation.ensures.fit.1;
    }
