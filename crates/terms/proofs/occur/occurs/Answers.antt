use Rattle.std.proofs.Common.{sym, ap, ◌∙◌}
use Rattle.terms.specs.Shapes.{shape, what}
use Rattle.terms.specs.Known.{occurs_at}
use Rattle.terms.proofs.Folds.{stands_what, stands_not}
use Rattle.terms.proofs.occur.occurs.Goals as goal

pub returns-in_default : goal.returns-in_default
returns-in_default g c =
    let a = g.G.Algebra.meaning c.args.alg.now in
    let n = stands_not (shape a c.args.depth c.args.view.bytes.now c.args.view.at) c.in_default.ensures.reads in
    record {
      value = ap (occurs_at c.args.k) (sym n);
      accepted = λ s m x q l e. ap (occurs_at c.args.k) (sym n ∙ ap what (c.in_default.ensures.accepted s m x q l e));
    }

pub returns : goal.returns
returns g c =
    let a = g.G.Algebra.meaning c.args.alg.now in
    let t = stands_what (shape a c.args.depth c.args.view.bytes.now c.args.view.at) c.in-Some.field-0 c.in-Some.ensures.reads in
    record {
      value = c.occurs_at.ensures t.0 t.1 ∙ ap (occurs_at c.args.k) (sym t.1);
      accepted = λ s m x q l e. c.occurs_at.ensures x.the_term (ap what (c.in-Some.ensures.accepted s m x q l e));
    }
