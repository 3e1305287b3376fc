-- What is said of writing several fields one after the other.
use Rattle.std.specs.Prelude.{◌≡◌, ℕ, ◌+◌, ◌*◌, ◌<◌, ◌≤◌, List, ◌++◌, length, Ok, Err, Result}
use Rattle.bits.specs.declared.writer.BitWriter.{BitWriter}
use Rattle.bits.specs.declared.writer.Full.{Full}
use Rattle.bits.specs.Put.{overwritten}

-- the bits stand behind what was written before, all else is as it was, and the writer stands behind them
pub record Wrote (bs : List ℕ) (old new : BitWriter) : Type 0 where
  pub bytes : new.bytes.now ≡ overwritten old.bytes.now old.at bs
  pub place : new.at ≡ old.at + length bs
  pub room : old.at ≤ 8 * length old.bytes.now → new.at ≤ 8 * length old.bytes.now
  pub named : new.bytes.ghost_name ≡ old.bytes.ghost_name

-- there is no room for so many bits, in a slice that a writer takes
abbrev pub NoRoom : List ℕ → BitWriter → Type 0
NoRoom bs old = length old.bytes.now ≤ 65536 → 8 * length old.bytes.now < old.at + length bs

-- the bits are written where there is room for them
abbrev pub Writes : {T : Type 0} → List ℕ → BitWriter → BitWriter → Result T Full → Type 0
Writes bs old new (Ok x) = Wrote bs old new
Writes bs old new (Err e) = NoRoom bs old

-- of the bits some are written, and the rest is left
pub record Left (bs rest : List ℕ) (old now : BitWriter) : Type 0 where
  pub done : List ℕ
  pub wrote : Wrote done old now
  pub whole : bs ≡ done ++ rest
