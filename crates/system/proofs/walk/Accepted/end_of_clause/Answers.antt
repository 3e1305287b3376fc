use Rattle.std.proofs.Common.{sym, ◌∙◌}
use Rattle.system.specs.Whole.{kept_headers}
use Rattle.system.proofs.Found.{clause_no_end, clause_end_of, end_found}
use Rattle.system.proofs.walk.Accepted.end_of_clause.Goals as goal

pub returns-in_err-clause : goal.returns-in_err-clause
returns-in_err-clause g c =
    let a = g.G.Algebra.meaning c.args.self.now.alg.now in
    let f = c.args.self.now.file.now in
    let hs = kept_headers c.args.self.now.outline.now in
    let p = c.from_residual.ensures ∙ sym (clause_no_end a f hs c.args.at c.in_err-clause.ensures.places) in
    record { places = p; found = end_found a f c.args.at hs c.from_residual.result p }

pub returns : goal.returns
returns g c =
    let a = g.G.Algebra.meaning c.args.self.now.alg.now in
    let f = c.args.self.now.file.now in
    let hs = kept_headers c.args.self.now.outline.now in
    let r = c.end_of_occurrences.result in
    let p = sym (clause_end_of a hs f c.args.at c.in_ok-clause.clause r c.in_ok-clause.ensures.places c.end_of_occurrences.ensures) in
    record { places = p; found = end_found a f c.args.at hs r p }
