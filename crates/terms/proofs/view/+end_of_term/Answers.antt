use Rattle.std.proofs.Common.{◌+◌, ◌-◌, Some, sym, ◌∙◌, arith}
use Rattle.terms.specs.Shapes.{shape}
use Rattle.terms.proofs.Laws.{read_stands}
use Rattle.terms.proofs.Rows.{skip, row_next, row_none, row_end}
use Rattle.terms.proofs.view.+end_of_term.Goals as goal

pub returns-then-depth-eq0-clause-accepted : goal.returns-then-depth-eq0-clause-accepted
returns-then-depth-eq0-clause-accepted g t c = read_stands (g.G.Algebra.meaning c.args.alg.now) c.args.depth c.args.view.bytes.now c.args.view.at

pub returns-in_err-parts-clause-accepted : goal.returns-in_err-parts-clause-accepted
returns-in_err-parts-clause-accepted g t c = read_stands (g.G.Algebra.meaning c.args.alg.now) c.args.depth c.args.view.bytes.now c.args.view.at

pub returns-in_err-at-clause-accepted : goal.returns-in_err-at-clause-accepted
returns-in_err-at-clause-accepted g t c = read_stands (g.G.Algebra.meaning c.args.alg.now) c.args.depth c.args.view.bytes.now c.args.view.at

pub returns-clause-accepted : goal.returns-clause-accepted
returns-clause-accepted g t c = read_stands (g.G.Algebra.meaning c.args.alg.now) c.args.depth c.args.view.bytes.now c.args.view.at

pub returns-in_err-at-clause-reads : goal.returns-in_err-at-clause-reads
returns-in_err-at-clause-reads g t c =
    let a = g.G.Algebra.meaning c.args.alg.now in
    let f = c.args.view.bytes.now in
    let n = c.in_ok-parts.parts in
    let s = skip a f c.args.depth c.args.view.at (Some (n, c.in_ok-parts.at)) c.if-depth-eq0.false c.in_ok-parts.ensures in
    let r = row_none (shape a (c.args.depth - 1)) f (n - c.loop.counter) (n - (c.loop.counter + 1)) c.loop.at (omega arith) (sym c.in_err-at.ensures.reads) in
    c.from_residual-in_err-at.ensures ∙ sym (s ∙ c.loop.invariant ∙ r)

pub loop-preserved : goal.loop-preserved
loop-preserved g t c =
    let a = g.G.Algebra.meaning c.args.alg.now in
    let f = c.args.view.bytes.now in
    let n = c.in_ok-parts.parts in
    c.loop.invariant ∙ row_next (shape a (c.args.depth - 1)) f (n - c.loop.counter) (n - (c.loop.counter + 1)) c.loop.at c.in_ok-at.at (omega arith) (sym c.in_ok-at.ensures.reads)

pub returns-clause-reads : goal.returns-clause-reads
returns-clause-reads g t c =
    let a = g.G.Algebra.meaning c.args.alg.now in
    let f = c.args.view.bytes.now in
    let n = c.in_ok-parts.parts in
    let s = skip a f c.args.depth c.args.view.at (Some (n, c.in_ok-parts.at)) c.if-depth-eq0.false c.in_ok-parts.ensures in
    sym (s ∙ c.loop.invariant ∙ row_end (shape a (c.args.depth - 1)) f (n - c.loop.counter) c.loop.at (omega arith))
