-- The limits of an algebra, as tests.
use Rattle.std.specs.Prelude.{ℕ, Bool, ◌&&◌, List, length, nat_le}
use Rattle.definitions.specs.Lists.{each}

-- a sort has 1 to 256 values
abbrev pub size_fits : ℕ → Bool
size_fits n = nat_le 1 n && nat_le n 256

abbrev pub sizes_fit : List ℕ → Bool
sizes_fit ns = each size_fits ns

-- sizes that the counting algebra takes
abbrev pub countable : List ℕ → Bool
countable ns = nat_le (length ns) 15 && sizes_fit ns
