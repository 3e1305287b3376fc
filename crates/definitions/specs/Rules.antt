-- What a pass is, the rules that it keeps, and what it makes of a file.
use Rattle.std.specs.Prelude.{◌≡◌, ℕ, true, false, ◌&&◌, List, length, nat_le}
use Rattle.faults.specs.declared.Reason.TheVariants.{ResultTooLong}
use Rattle.faults.specs.declared.PassFault.TheVariants.{Reading as Unread, Declined}
use Rattle.definitions.specs.Alg.{Alg, Lawful}
use Rattle.definitions.specs.Systems.{System}
use Rattle.definitions.specs.Reading.{Reading, got, bad}
use Rattle.definitions.specs.ReadSystem.{reading}
use Rattle.definitions.specs.Written.{written}
use Rattle.definitions.specs.Fits.{SystemFits}
use Rattle.definitions.specs.Truth.{verdict}
use Rattle.definitions.specs.Settle.{Pass, Ran, wrote, refused}

-- what a pass's author shows, over every lawful algebra and every system that fits it
pub record Rules (m : Pass) : Type 0 where
  -- the system written fits the same algebra, the depth limit included
  pub fits : (a : Alg) → Lawful a → (s : System) → SystemFits a s → SystemFits a (m a s)
  pub same_verdict : (a : Alg) → Lawful a → (s : System) → SystemFits a s → verdict a (m a s) ≡ verdict a s

-- what a pass makes of a file, where the buffer has `room` bytes: a reading fault whole, else the file written unless it is too long
abbrev pub fitted_in : ℕ → List ℕ → Ran
fitted_in room g = elim (nat_le (length g) room && nat_le (length g) 8192) [ true ↦ wrote g | false ↦ refused (Declined ResultTooLong) ]

abbrev pub applied_to : Pass → Alg → ℕ → Reading System → Ran
applied_to m a room (got s) = fitted_in room (written (m a s))
applied_to m a room (bad r p) = refused (Unread (record { reason = r; place = p }))

abbrev pub applied : Pass → Alg → ℕ → List ℕ → Ran
applied m a room f = applied_to m a room (reading a f)
