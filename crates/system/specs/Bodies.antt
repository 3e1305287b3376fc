-- What is kept of bodies and values.
use Rattle.std.specs.Prelude.{ℕ, ◌-◌, List, [], ◌∷◌, ◌++◌, length, replicate}
use Rattle.definitions.specs.Reading.{next, stop, Reader}

-- the places from which readers in a row read
abbrev pub places_of : {X B : Type 0} → (X → Reader B) → List X → List ℕ → ℕ → List ℕ
places_of r [] f p = []
places_of r (x ∷ xs) f p = p ∷ elim (r x f p) [ next y q ↦ places_of r xs f q | stop s q ↦ [] ]

-- the values of an instance, with zeros behind them
abbrev pub padded : List ℕ → List ℕ
padded vs = vs ++ replicate (15 - length vs) 0
