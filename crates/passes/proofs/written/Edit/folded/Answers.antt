use Rattle.std.proofs.Common.{◌≡◌, [], Some, None, ap, ◌∙◌}
use Rattle.std.specs.Option.{option_map}
use Rattle.definitions.specs.Lists.{bind}
use Rattle.definitions.specs.Passes.{sort_of}
use Rattle.definitions.specs.Values.{known}
use Rattle.passes.specs.Planned.{kind_shown}
use Rattle.passes.proofs.TermBits.{none_alike}
use Rattle.passes.proofs.written.Edit.folded.Goals as goal

pub returns-in_err-value-clause-folds : goal.returns-in_err-value-clause-folds
returns-in_err-value-clause-folds g c = λ on t stands.
    let a = g.G.Algebra.meaning c.args.self.now.accepted.now.alg.now in
    let e : None ≡ known a [] t = c.in_err-value.ensures.value [] [] (none_alike 15 c.unknown.ensures.parameters) (none_alike 3 c.unknown.ensures.variables) ∙ ap (λ o. bind o (λ t. known a [] t)) stands in
    c.from_residual.ensures ∙ ap (option_map (λ v. (sort_of a (kind_shown c.args.term), v))) e

pub returns-clause-folds : goal.returns-clause-folds
returns-clause-folds g c = λ on t stands.
    let a = g.G.Algebra.meaning c.args.self.now.accepted.now.alg.now in
    let e : Some c.in_ok-value.value ≡ known a [] t = c.in_ok-value.ensures.value [] [] (none_alike 15 c.unknown.ensures.parameters) (none_alike 3 c.unknown.ensures.variables) ∙ ap (λ o. bind o (λ t. known a [] t)) stands in
    ap (λ s. Some (s, c.in_ok-value.value)) c.sort_of.ensures ∙ ap (option_map (λ v. (sort_of a (kind_shown c.args.term), v))) e
