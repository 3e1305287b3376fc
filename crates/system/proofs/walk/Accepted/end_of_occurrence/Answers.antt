use Rattle.std.proofs.Common.{sym, ◌∙◌}
use Rattle.system.specs.Whole.{kept_headers}
use Rattle.system.proofs.Found.{occurrence_no_end, occurrence_end}
use Rattle.system.proofs.walk.Accepted.end_of_occurrence.Goals as goal

pub returns-in_err-count : goal.returns-in_err-count
returns-in_err-count g c =
    let a = g.G.Algebra.meaning c.args.self.now.alg.now in
    let f = c.args.self.now.file.now in
    let hs = kept_headers c.args.self.now.outline.now in
    c.from_residual.ensures ∙ sym (occurrence_no_end a f hs c.args.at c.in_err-count.ensures.reads)

pub returns : goal.returns
returns g c =
    let a = g.G.Algebra.meaning c.args.self.now.alg.now in
    let f = c.args.self.now.file.now in
    let hs = kept_headers c.args.self.now.outline.now in
    sym (occurrence_end a f hs c.args.at c.in_ok-count.field-0-0 c.in_ok-count.count c.in_ok-count.first c.in_ok-count.ensures.reads c.end_of_terms.result c.end_of_terms.ensures)
