use Rattle.std.proofs.Common.{◌≡◌, ℕ, nat_eq, [], Some, None, Option, refl, ap, ◌∙◌}
use Rattle.std.specs.Option.{option_eq}
use Rattle.definitions.specs.Values.{is_false}
use Rattle.passes.proofs.TermBits.{none_alike}
use Rattle.passes.proofs.folding.folds_to_false.Goals as goal

false_value : (o : Option ℕ) → option_eq nat_eq o (Some 0) ≡ is_false o
false_value None = refl
false_value (Some v) = refl

pub returns : goal.returns
returns g c =
    let known = c.known.ensures.value [] [] (none_alike 15 c.unknown.ensures.parameters) (none_alike 3 c.unknown.ensures.variables) in
    c.eq.ensures ∙ false_value c.known.result ∙ ap is_false known
