-- What is written is read back, and fills the bytes.
use Rattle.std.specs.Prelude.{◌≡◌, ℕ, ◌+◌, ◌*◌, ◌/◌, ◌^◌, ◌<◌, ◌≤◌, Bool, true, ◌⊎◌, List, ◌++◌, length, drop, nat_lt, slice_index}
use Rattle.definitions.specs.Bits.{bit_at, field, Stands, bits, packed}
use Rattle.definitions.specs.Lists.{each}
use Rattle.bits.specs.Put.{overwritten, closed}

abbrev pub Bytes : List ℕ → Type 0
Bytes f = (k : ℕ) → slice_index f k < 256

abbrev pub are_bits : List ℕ → Bool
are_bits bs = each (λ b. nat_lt b 2) bs

-- the bits stand where they were written, and all else is as it was
pub record Written (f : List ℕ) (p : ℕ) (bs : List ℕ) : Type 0 where
  pub long : length (overwritten f p bs) ≡ length f
  pub bytes : Bytes (overwritten f p bs)
  pub stands : Stands (overwritten f p bs) p bs
  pub same : (k : ℕ) → (k < p) ⊎ (p + length bs ≤ k) → bit_at (overwritten f p bs) k ≡ bit_at f k

abbrev pub BitsWritten : Type 0
BitsWritten = (f : List ℕ) (p : ℕ) (bs : List ℕ) → Bytes f → are_bits bs ≡ true → p + length bs ≤ 8 * length f → Written f p bs

-- a field that was written is read back
abbrev pub FieldBack : Type 0
FieldBack = (f : List ℕ) (p w v : ℕ) → Bytes f → v < 2 ^ w → p + w ≤ 8 * length f → field (overwritten f p (bits w v)) p w ≡ v

-- writing some bits and then more is writing them all
abbrev pub InARow : Type 0
InARow = (f : List ℕ) (p : ℕ) (bs cs : List ℕ) → overwritten (overwritten f p bs) (p + length bs) cs ≡ overwritten f p (bs ++ cs)

-- written from the first place on and closed, the bits are packed, and the bytes behind are as they were
abbrev pub BitsPacked : Type 0
BitsPacked = (f bs : List ℕ) → Bytes f → are_bits bs ≡ true → length bs ≤ 8 * length f → closed (overwritten f 0 bs) (length bs) ≡ packed bs ++ drop ((length bs + 7) / 8) f
