use Rattle.std.proofs.Common.{sym, ◌∙◌, arith}
use Rattle.system.specs.Whole.{kept_headers}
use Rattle.system.specs.Walks.{occurrence_next}
use Rattle.system.proofs.Found.{clause_row, end_begin, end_next, end_none, end_end}
use Rattle.system.proofs.walk.Accepted.end_of_occurrences.Goals as goal

pub loop-init : goal.loop-init
loop-init g c = end_begin (occurrence_next (g.G.Algebra.meaning c.args.self.now.alg.now) (kept_headers c.args.self.now.outline.now) c.args.self.now.file.now) c.args.occurrences c.args.at

pub returns-in_err-next : goal.returns-in_err-next
returns-in_err-next g c =
    let a = g.G.Algebra.meaning c.args.self.now.alg.now in
    let f = c.args.self.now.file.now in
    let hs = kept_headers c.args.self.now.outline.now in
    let l = c.loop in
    c.from_residual.ensures ∙ sym (clause_row a f hs c.args.occurrences c.args.at ∙ l.invariant ∙ end_none (occurrence_next a hs f) c.args.occurrences l.counter l.next (omega arith) c.in_err-next.ensures)

pub loop-preserved : goal.loop-preserved
loop-preserved g c =
    let a = g.G.Algebra.meaning c.args.self.now.alg.now in
    let f = c.args.self.now.file.now in
    let hs = kept_headers c.args.self.now.outline.now in
    let l = c.loop in
    l.invariant ∙ end_next (occurrence_next a hs f) c.args.occurrences l.counter l.next c.in_ok-next.next (omega arith) c.in_ok-next.ensures

pub returns : goal.returns
returns g c =
    let a = g.G.Algebra.meaning c.args.self.now.alg.now in
    let f = c.args.self.now.file.now in
    let hs = kept_headers c.args.self.now.outline.now in
    let l = c.loop in
    sym (clause_row a f hs c.args.occurrences c.args.at ∙ l.invariant ∙ end_end (occurrence_next a hs f) c.args.occurrences l.counter l.next (omega arith))
