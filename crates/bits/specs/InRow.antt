-- Readings in a row: what was read so far, and what is still to be read.
use Rattle.std.specs.Prelude.{◌≡◌, ℕ, ◌-◌, List, ◌++◌, length}
use Rattle.definitions.specs.Reading.{Step, next, stop, Reader, repeated}
use Rattle.bits.specs.declared.file.Cursor.{Cursor}

-- what was read before, and the rest
abbrev pub before : {X : Type 0} → List X → Step (List X) → Step (List X)
before xs (next ys q) = next (xs ++ ys) q
before xs (stop r q) = stop r q

-- of n readings i are done and gave xs; the cursor stands where the next begins
pub record Begun {X : Type 0} (r : Reader X) (n i : ℕ) (xs : List X) (old new : Cursor) : Type 0 where
  pub same : new.bytes.now ≡ old.bytes.now
  pub count : length xs ≡ i
  pub rest : repeated r n old.bytes.now old.at ≡ before xs (repeated r (n - i) old.bytes.now new.at)
