use Rattle.std.proofs.Common.{sym, ap, ◌∙◌, arith}
use Rattle.system.specs.Walks.{ended}
use Rattle.system.proofs.Found.{term_next, terms_row, ended_term, end_begin, end_next, end_none, end_end}
use Rattle.system.proofs.walk.Accepted.end_of_terms.Goals as goal

pub loop-init : goal.loop-init
loop-init g c = end_begin (term_next (g.G.Algebra.meaning c.args.self.now.alg.now) c.args.self.now.file.now) c.args.terms c.args.at

pub returns-in_err-next : goal.returns-in_err-next
returns-in_err-next g c =
    let a = g.G.Algebra.meaning c.args.self.now.alg.now in
    let f = c.args.self.now.file.now in
    let l = c.loop in
    let e = rw (c.view.ensures.file, c.view.ensures.place) at c.in_err-next.ensures.reads in
    c.from_residual.ensures ∙ sym (ap ended (terms_row a f c.args.terms c.args.at) ∙ l.invariant ∙ end_none (term_next a f) c.args.terms l.counter l.next (omega arith) (e ∙ ended_term a f l.next))

pub loop-preserved : goal.loop-preserved
loop-preserved g c =
    let a = g.G.Algebra.meaning c.args.self.now.alg.now in
    let f = c.args.self.now.file.now in
    let l = c.loop in
    let e = rw (c.view.ensures.file, c.view.ensures.place) at c.in_ok-next.ensures.reads in
    l.invariant ∙ end_next (term_next a f) c.args.terms l.counter l.next c.in_ok-next.next (omega arith) (e ∙ ended_term a f l.next)

pub returns : goal.returns
returns g c =
    let a = g.G.Algebra.meaning c.args.self.now.alg.now in
    let f = c.args.self.now.file.now in
    let l = c.loop in
    sym (ap ended (terms_row a f c.args.terms c.args.at) ∙ l.invariant ∙ end_end (term_next a f) c.args.terms l.counter l.next (omega arith))
