use Rattle.std.proofs.Common.{sym, ap, ◌∙◌}
use Rattle.definitions.specs.Lists.{bind}
use Rattle.definitions.specs.Systems.{fold}
use Rattle.definitions.specs.Values.{kind_known}
use Rattle.terms.specs.Shapes.{shape, what}
use Rattle.terms.proofs.Folds.{known_same, stands_what, stands_not}
use Rattle.terms.proofs.value.known_value.Goals as goal

pub returns-in_err-_end : goal.returns-in_err-_end
returns-in_err-_end g c =
    let a = g.G.Algebra.meaning c.args.alg.now in
    let f = c.args.view.bytes.now in
    let d = c.args.depth in
    let p = c.args.view.at in
    let n = stands_not (shape a d f p) c.in_err-_end.ensures.reads in
    record {
      value = λ ps vs h i. c.from_residual.ensures ∙ ap (λ o. bind o (λ t. fold t (kind_known a ps vs))) (sym n);
      accepted = λ s m x q l e ps vs h i. c.from_residual.ensures ∙ ap (λ o. bind o (λ t. fold t (kind_known a ps vs))) (sym n ∙ ap what (c.in_err-_end.ensures.accepted s m x q l e));
    }

pub returns : goal.returns
returns g c =
    let a = g.G.Algebra.meaning c.args.alg.now in
    let f = c.args.view.bytes.now in
    let d = c.args.depth in
    let p = c.args.view.at in
    let us = c.args.env.now.parameters in
    let ws = c.args.env.now.variables in
    let t = stands_what (shape a d f p) c.in_ok-_end._end c.in_ok-_end.ensures.reads in
    record {
      value = λ ps vs h i. c.known_at.ensures t.0 t.1 ∙ ap (fold t.0) (known_same a us ps ws vs h i) ∙ ap (λ o. bind o (λ t. fold t (kind_known a ps vs))) (sym t.1);
      accepted = λ s m x q l e ps vs h i. c.known_at.ensures x.the_term (ap what (c.in_ok-_end.ensures.accepted s m x q l e)) ∙ ap (fold x.the_term) (known_same a us ps ws vs h i);
    }
