-- Bits that stand in a file.
use Rattle.std.specs.Prelude.{◌≡◌, ℕ, List, length, Ok, Err, Result}
use Rattle.definitions.specs.Bits.{Stands}
use Rattle.faults.specs.declared.Reason.TheVariants.{ResultTooLong}
use Rattle.faults.specs.declared.PassFault.TheVariants.{Declined}
use Rattle.definitions.specs.Alg.{Alg}
use Rattle.definitions.specs.Systems.{Clause, Equation}
use Rattle.definitions.specs.ReadSystem.{Header}
use Rattle.definitions.specs.Written.{clause_bits, body_bits}
use Rattle.definitions.specs.Fits.{BodyFits, header_of}
use Rattle.definitions.specs.Settle.{wrote, refused}
use Rattle.definitions.specs.Rules.{fitted_in}
use Rattle.definitions.specs.Calls.{Delivered}
use Rattle.system.specs.declared.header.Header.{Header as Kept}
use Rattle.system.specs.declared.outline.Equation.{Equation as Told}
use Rattle.system.specs.Files.{kept_header}
use Rattle.outsider.specs.declared.pieces.Piece.{Piece}

-- the piece of the file is made of these bits
pub record Made (f bs : List ℕ) (x : Piece) : Type 0 where
  pub stands : Stands f x.at bs
  pub count : x.count ≡ length bs

-- of the bits of a clause
abbrev pub Holds : List ℕ → Piece → Clause → Type 0
Holds f x k = Made f (clause_bits k) x

-- an equation whose header is kept
abbrev pub HeaderThere : Kept → Equation → Type 0
HeaderThere t e = header_of e ≡ kept_header t

-- an equation whose body fits and stands at the place told
pub record EquationThere (a : Alg) (hs : List Header) (f : List ℕ) (t : Told) (e : Equation) : Type 0 where
  pub fits : BodyFits a hs e
  pub stands : Stands f t.body (body_bits e)

-- the file g in front of the caller's buffer, or it is too long and the buffer is as it was
abbrev pub Fitted : {E : Type 0} → List ℕ → List ℕ → List ℕ → Result ℕ E → Type 0
Fitted g before after (Ok n) = (fitted_in (length before) g ≡ wrote g) × Delivered g before after n
Fitted g before after (Err e) = (fitted_in (length before) g ≡ refused (Declined ResultTooLong)) × (after ≡ before)
