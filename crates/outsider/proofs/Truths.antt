-- The byte of a truth.
use Rattle.std.proofs.Common.{◌≡◌, nat_eq, Bool, true, false, Some, refl}
use Rattle.std.specs.Option.{option_eq}
use Rattle.definitions.specs.Algebras.{truth}

pub is_one : (b : Bool) → option_eq nat_eq (Some (truth b)) (Some 1) ≡ b
is_one true = refl
is_one false = refl
