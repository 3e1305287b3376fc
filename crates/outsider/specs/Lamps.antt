-- The algebra of the lamps that show a boat when it may go.
use Rattle.std.specs.Prelude.{◌+◌, ◌%◌, ◌<◌, Bool, true, false, List, [], ◌∷◌, nat_eq}
use Rattle.std.proofs.Common.{refl, mod-lt, arith}
use Rattle.definitions.specs.Alg.{Alg, Op, algebra, Lawful}
use Rattle.definitions.specs.Algebras.{first, truth}
use Rattle.definitions.specs.Fits.{Every}
use Rattle.algebra.specs.Lawfuls.{OpFits, algebra_lawful}

-- red, red and green, and green follow one another; a boat goes at green, which is 2
abbrev pub shown : List Op
shown =
    record { args = 1 ∷ []; res = 1; run = λ xs. (first xs + 1) % 3 } ∷
    record { args = 1 ∷ []; res = 0; run = λ xs. truth (nat_eq (first xs) 2) } ∷ []

abbrev pub lamps : Alg
lamps = algebra (2 ∷ 3 ∷ []) shown

truth_small : (b : Bool) → truth b < 2
truth_small true = omega arith
truth_small false = omega arith

shown_fit : Every (OpFits (2 ∷ 3 ∷ [])) shown
shown_fit = (
  record { few = omega arith; args = (omega arith, tt); res = omega arith; run = λ xs h. mod-lt (first xs + 1) (omega arith) },
  (
    record { few = omega arith; args = (omega arith, tt); res = omega arith; run = λ xs h. truth_small (nat_eq (first xs) 2) },
    tt,
  ),
)

pub lamps_lawful : Lawful lamps
lamps_lawful = algebra_lawful (2 ∷ 3 ∷ []) shown (omega arith) (omega arith) refl ((omega arith, omega arith), ((omega arith, omega arith), tt)) (omega arith) shown_fit
