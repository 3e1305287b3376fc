-- What a field as read says as a step of a reader.
use Rattle.std.specs.Prelude.{ℕ, Some, None, Option}
use Rattle.faults.specs.declared.Reason.TheVariants.{EndsInField}
use Rattle.definitions.specs.Reading.{Step, next, stop}

-- a field of the place p, with q behind it
abbrev pub took : Option ℕ → ℕ → ℕ → Step ℕ
took None p q = stop EndsInField p
took (Some v) p q = next v q
