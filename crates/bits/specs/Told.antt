-- What the answers of readers say as steps.
use Rattle.std.specs.Prelude.{◌≡◌, ℕ, true, false, Ok, Err, Option, Result, nat_le}
use Rattle.faults.specs.declared.Reason.{Reason}
use Rattle.faults.specs.declared.Reason.TheVariants.{EndsInField}
use Rattle.faults.specs.declared.Stop.{Stop}
use Rattle.definitions.specs.Reading.{Step, next, stop, Reader, take, take_for}
use Rattle.bits.specs.declared.file.Cursor.{Cursor}

-- what was read, with q behind it, or the reason and place at which reading stopped
abbrev pub told : {X Y : Type 0} → (X → Y) → ℕ → Result X Stop → Step Y
told what q (Ok x) = next (what x) q
told what q (Err e) = stop e.reason e.place

-- the answer is what the reader reads in the file from the cursor's place on, and the cursor stands behind that
abbrev pub Reads : {X Y : Type 0} → (X → Y) → Reader Y → Cursor → Cursor → Result X Stop → Type 0
Reads what r old new res = (told what new.at res ≡ r old.bytes.now old.at) × (new.bytes.now ≡ old.bytes.now)

-- fields of at most 32 bits; no file has a wider one
abbrev pub narrow : ℕ → Reader ℕ
narrow w f p = elim (nat_le w 32) [ true ↦ take w f p | false ↦ stop EndsInField p ]

abbrev pub narrow_for : {A : Type 0} → ℕ → (ℕ → Option A) → Reason → Reader A
narrow_for w what r f p = elim (nat_le w 32) [ true ↦ take_for w what r f p | false ↦ stop EndsInField p ]
