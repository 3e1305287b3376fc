-- Writing bits into a file.
use Rattle.std.specs.Prelude.{ℕ, suc, ◌+◌, ◌-◌, ◌*◌, ◌/◌, ◌%◌, ◌^◌, Bool, ◌&&◌, List, [], ◌∷◌, length, replicate, nat_le, nat_lt, slice_index, slice_set}

-- the byte x with b in the place of its bit of the weight m
abbrev pub with_bit : ℕ → ℕ → ℕ → ℕ
with_bit x m b = x / (2 * m) * (2 * m) + b * m + x % m

-- the file with the bit b at the place p
abbrev pub set_bit : List ℕ → ℕ → ℕ → List ℕ
set_bit f p b = slice_set f (p / 8) (with_bit (slice_index f (p / 8)) (2 ^ (7 - p % 8)) b)

-- the file with the bits from the place p on
abbrev pub overwritten : List ℕ → ℕ → List ℕ → List ℕ
overwritten f p [] = f
overwritten f p (b ∷ bs) = overwritten (set_bit f p b) (suc p) bs

-- the field of w bits with the value v can be put at the place p
abbrev pub room : List ℕ → ℕ → ℕ → ℕ → Bool
room f p w v = (nat_le (length f) 65536 && nat_le w 32) && (nat_lt v (2 ^ w) && nat_le (p + w) (8 * length f))

-- how many bits are left up to the byte
abbrev pub padding : ℕ → ℕ
padding p = (8 - p % 8) % 8

-- with zero bits from the place p up to the byte
abbrev pub closed : List ℕ → ℕ → List ℕ
closed f p = overwritten f p (replicate (padding p) 0)
