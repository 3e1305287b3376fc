-- Readings of one thing after another: how far they came.
use Rattle.std.specs.Prelude.{◌≡◌, ℕ, List, drop}
use Rattle.definitions.specs.Reading.{Reader, one_by_one}
use Rattle.bits.specs.declared.file.Cursor.{Cursor}
use Rattle.bits.specs.InRow.{before}
use Rattle.system.specs.Steps.{placed}

-- from the place p of the file f the first i of the things xs are read, and their values forgotten; the cursor stands where the next is read
pub record Skipped {X B : Type 0} (r : X → Reader B) (xs : List X) (i : ℕ) (f : List ℕ) (p : ℕ) (now : Cursor) : Type 0 where
  pub same : now.bytes.now ≡ f
  pub rest : placed (one_by_one r xs f p) ≡ placed (one_by_one r (drop i xs) f now.at)

-- the same with their values, which are ys
pub record Kept {X B : Type 0} (r : X → Reader B) (xs : List X) (i : ℕ) (ys : List B) (f : List ℕ) (p : ℕ) (now : Cursor) : Type 0 where
  pub same : now.bytes.now ≡ f
  pub rest : one_by_one r xs f p ≡ before ys (one_by_one r (drop i xs) f now.at)
