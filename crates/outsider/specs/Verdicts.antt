-- What a verdict tells.
use Rattle.std.specs.Prelude.{◌≡◌, ℕ, Bool, List, Ok, Err, Result}
use Rattle.faults.specs.declared.Fault.{Fault}
use Rattle.definitions.specs.Alg.{Alg}
use Rattle.definitions.specs.Systems.{System}
use Rattle.definitions.specs.Reading.{got}
use Rattle.definitions.specs.ReadSystem.{reading}
use Rattle.definitions.specs.Truth.{verdict}

-- the file is that of a system, whose verdict it is; of a refusal nothing is said
abbrev pub Tells : Alg → List ℕ → Result Bool Fault → Type 0
Tells a f (Ok b) = (s : System) × ((reading a f ≡ got s) × (b ≡ verdict a s))
Tells a f (Err e) = Unit {0}
