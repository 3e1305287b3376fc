use Rattle.std.proofs.Common.{map, get_or, sym, ap, ◌∙◌, arith}
use Rattle.definitions.specs.Reading.{next, stop, one_by_one}
use Rattle.definitions.specs.ReadSystem.{read_of, scope}
use Rattle.system.specs.Files.{kept_header}
use Rattle.system.specs.Steps.{placed}
use Rattle.system.proofs.Chains.{occurrence_done}
use Rattle.system.proofs.Lists.{at_some}
use Rattle.system.proofs.Rows.{stopped, skipped_next, skipped_stop, skipped_end}
use Rattle.system.proofs.term.Checker.check_occurrence.Goals as goal

pub returns-in_err-check_of : goal.returns-in_err-check_of
returns-in_err-check_of g c =
    let a = g.G.Algebra.meaning c.args.self.now.alg.now in
    let hs = map kept_header c.args.self.now.headers.now in
    let s = scope (kept_header c.args.self.now.header.now) in
    let f = c.args.cursor.now.bytes.now in
    let p = c.args.cursor.now.at in
    let h = c.in_ok-header.header in
    let q = c.read_target.new.cursor.at in
    let ss = c.as_slice-sort-items.result.now in
    let l = c.loop-sort in
    let e = c.in_err-check_of.field-0.0 in
    let x = c.in_err-check_of.ensures in
    let w = skipped_stop (read_of a s) ss e (get_or ss l.sort-index 0) (sym (at_some ss l.sort-index (omega arith))) l.invariant x.0 ∙ ap (λ zs. placed (one_by_one (read_of a s) zs f q)) c.as_slice-sort-items.ensures in
    (stopped (λ x. x) c.check_of.new.cursor.at c.from_residual-in_err-check_of.result e _ c.from_residual-in_err-check_of.ensures.1 (occurrence_done a hs s f p c.in_ok-header.field-0-0 q (kept_header h) c.in_ok-header.ensures.reads.0 (stop e.reason e.place) w), x.1 ∙ l.invariant.same)

pub loop-sort-preserved : goal.loop-sort-preserved
loop-sort-preserved g c =
    let r = read_of (g.G.Algebra.meaning c.args.self.now.alg.now) (scope (kept_header c.args.self.now.header.now)) in
    let ss = c.as_slice-sort-items.result.now in
    let l = c.loop-sort in
    skipped_next r ss c.check_of.new.cursor (get_or ss l.sort-index 0) (sym (at_some ss l.sort-index (omega arith))) l.invariant c.in_ok-check_of.ensures

pub returns : goal.returns
returns g c =
    let a = g.G.Algebra.meaning c.args.self.now.alg.now in
    let hs = map kept_header c.args.self.now.headers.now in
    let s = scope (kept_header c.args.self.now.header.now) in
    let f = c.args.cursor.now.bytes.now in
    let p = c.args.cursor.now.at in
    let h = c.in_ok-header.header in
    let q = c.read_target.new.cursor.at in
    let ss = c.as_slice-sort-items.result.now in
    let l = c.loop-sort in
    let w = skipped_end (read_of a s) ss (omega arith) l.invariant ∙ ap (λ zs. placed (one_by_one (read_of a s) zs f q)) c.as_slice-sort-items.ensures in
    (occurrence_done a hs s f p c.in_ok-header.field-0-0 q (kept_header h) c.in_ok-header.ensures.reads.0 (next tt l.cursor.at) w, l.invariant.same)
