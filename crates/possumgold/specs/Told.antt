-- What the program concludes from the contracts of the library.
use Rattle.std.specs.Prelude.{◌≡◌, ℕ, ◌+◌, ◌*◌, Bool, true, false, List, [], ◌∷◌, length, take, drop, nat_le}
use Rattle.definitions.specs.Alg.{Alg}
use Rattle.definitions.specs.Systems.{System}
use Rattle.definitions.specs.Reading.{got}
use Rattle.definitions.specs.ReadSystem.{reading}
use Rattle.definitions.specs.Truth.{verdict}
use Rattle.definitions.specs.Tables.{table_reading}
use Rattle.definitions.specs.Past.{Event, Past, Served}
use Rattle.algebra.specs.declared.table.Table.{Table}
use Rattle.algebra.specs.Tabled.{stored, tabled}
use Rattle.bench.specs.declared.Bench.{Bench}
use Rattle.bench.specs.Holds.{holding}

-- an input: two bytes, the number of bytes of the table file; the table file; the system file
abbrev pub parted : ℕ → List ℕ → List ℕ × List ℕ
parted n fs = elim (nat_le n (length fs)) [ true ↦ (take n fs, drop n fs) | false ↦ (fs, []) ]

abbrev pub files : List ℕ → List ℕ × List ℕ
files [] = ([], [])
files (x ∷ []) = ([], [])
files (x ∷ y ∷ fs) = parted (256 * x + y) fs

-- a bench whose last obeyed load was of the file f, since when the algebra a alone served
pub record Since (a : Alg) (f h : List ℕ) : Type 0 where
  pub events : List Event
  pub past : Past events h
  pub served : Served a f events

abbrev pub Put : Table → List ℕ → List ℕ → Bench → Type 0
Put t table_file system_file b = (table_reading table_file ≡ got (stored t)) × Since (tabled t) system_file (holding b)

-- the verdict of the system of the file f, over the algebra a
abbrev pub IsVerdict : Alg → List ℕ → Bool → Type 0
IsVerdict a f truth = (s : System) × ((reading a f ≡ got s) × (truth ≡ verdict a s))

-- the verdict of an input
abbrev pub Answers : List ℕ → Bool → Type 0
Answers input truth = (t : Table) × ((table_reading (files input).0 ≡ got (stored t)) × IsVerdict (tabled t) (files input).1 truth)
