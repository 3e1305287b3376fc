use Rattle.std.proofs.Common.{◌≡◌, ℕ, eqb, refl, ap, ◌∙◌, map, Some, None, Option}
use Rattle.std.specs.Option.{option_eq}
use Rattle.definitions.specs.Lists.{bind}
use Rattle.definitions.specs.Systems.{Term, fold}
use Rattle.definitions.specs.Values.{is_true, kind_known}
use Rattle.expansion.proofs.body.holds.Goals as goal

tested : (o : Option ℕ) → option_eq eqb o (Some 1) ≡ is_true o
tested None = refl
tested (Some v) = refl

pub returns : goal.returns
returns g c = λ t ps vs b stands.
    let a = g.G.Algebra.meaning c.args.accepted.now.alg.now in
    let value = c.known.ensures.value (map Some ps) (map Some vs) b.parameters b.variables in
    c.eq.ensures ∙ tested c.known.result ∙ ap is_true (value ∙ ap (λ (o : Option Term). bind o (λ t. fold t (kind_known a (map Some ps) (map Some vs)))) stands)
