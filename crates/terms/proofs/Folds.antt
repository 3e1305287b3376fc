-- What lists that tell the same know, and where a term stands.
use Rattle.std.proofs.Common.{◌≡◌, ℕ, List, Some, None, Option, refl}
use Rattle.definitions.specs.Alg.{Alg}
use Rattle.definitions.specs.Systems.{Kind, parameter, variable, value, operation, not, and, or, equal}
use Rattle.definitions.specs.Values.{kind_known}
use Rattle.terms.specs.Shapes.{what, behind}
use Rattle.terms.specs.Known.{Alike}

-- lists that tell the same know the same
kind_same : (a : Alg) (ps qs vs ws : List (Option ℕ)) → Alike ps qs → Alike vs ws → (k : Kind) (xs : List (Option ℕ)) → kind_known a ps vs k xs ≡ kind_known a qs ws k xs
kind_same a ps qs vs ws h i (parameter n) xs = h n
kind_same a ps qs vs ws h i (variable n) xs = i n
kind_same a ps qs vs ws h i (value s v) xs = refl
kind_same a ps qs vs ws h i (operation o) xs = refl
kind_same a ps qs vs ws h i not xs = refl
kind_same a ps qs vs ws h i and xs = refl
kind_same a ps qs vs ws h i or xs = refl
kind_same a ps qs vs ws h i equal xs = refl

pub known_same : (a : Alg) (ps qs vs ws : List (Option ℕ)) → Alike ps qs → Alike vs ws → kind_known a ps vs ≡ kind_known a qs ws
known_same a ps qs vs ws h i = λ j k xs. kind_same a ps qs vs ws h i k xs j

-- a term stands where there is a place behind it
pub stands_what : {A : Type 0} (o : Option (A × ℕ)) (q : ℕ) → Some q ≡ behind o → (x : A) × (what o ≡ Some x)
stands_what None q e = absurd cc
stands_what (Some x) q e = (x.0, refl)

pub stands_not : {A : Type 0} (o : Option (A × ℕ)) → None ≡ behind o → what o ≡ None
stands_not None e = refl
stands_not (Some x) e = absurd cc
