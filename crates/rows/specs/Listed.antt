-- What a row lists.
use Rattle.std.specs.Prelude.{ℕ, zero, suc, ◌≤◌, List, [], ◌∷◌, length, take}
use Rattle.std.proofs.Common.{arith}
use Rattle.rows.specs.declared.row.Row.{Row}

-- the records of a row
abbrev pub listed : {T : Type 0} {N : ℕ} → Row T N → List T
listed r = take r.len r.items

front_long : {T : Type 0} (n : ℕ) (xs : List T) → length (take n xs) ≤ n
front_long zero xs = omega arith
front_long (suc n) [] = omega arith
front_long (suc n) (x ∷ xs) = let h : length (take n xs) ≤ n = front_long n xs in omega arith

-- a row lists at most as many as it has places
pub listed_within : {T : Type 0} {N : ℕ} (r : Row T N) → length (listed r) ≤ N
listed_within r = omega (arith, front_long r.len r.items, r.within)
