-- The counting algebra and the level algebra.
use Rattle.std.specs.Prelude.{ℕ, ◌+◌, ◌-◌, ◌%◌, min, Bool, cond, List, [], ◌∷◌, nat_le, nat_lt, slice_index}
use Rattle.definitions.specs.Lists.{map_from, flat}
use Rattle.definitions.specs.Alg.{Alg, Op, algebra}

abbrev pub first : List ℕ → ℕ
first xs = slice_index xs 0

abbrev pub second : List ℕ → ℕ
second xs = slice_index xs 1

abbrev pub truth : Bool → ℕ
truth b = cond b 1 0

-- up, down, next and less than, of a sort of n values
abbrev pub counts : ℕ → ℕ → List Op
counts s n =
    record { args = s ∷ []; res = s; run = λ xs. min (first xs + 1) (n - 1) } ∷
    record { args = s ∷ []; res = s; run = λ xs. first xs - 1 } ∷
    record { args = s ∷ []; res = s; run = λ xs. (first xs + 1) % n } ∷
    record { args = s ∷ s ∷ []; res = 0; run = λ xs. truth (nat_lt (first xs) (second xs)) } ∷ []

abbrev pub counting : List ℕ → Alg
counting sizes = algebra (2 ∷ sizes) (flat (map_from 1 counts sizes))

-- sum, distance and at least, of sixteen water steps
abbrev pub steps : List Op
steps =
    record { args = 1 ∷ 1 ∷ []; res = 1; run = λ xs. min (first xs + second xs) 15 } ∷
    record { args = 1 ∷ 1 ∷ []; res = 1; run = λ xs. (first xs - second xs) + (second xs - first xs) } ∷
    record { args = 1 ∷ 1 ∷ []; res = 0; run = λ xs. truth (nat_le (second xs) (first xs)) } ∷ []

abbrev pub level : Alg
level = algebra (2 ∷ 16 ∷ []) steps
