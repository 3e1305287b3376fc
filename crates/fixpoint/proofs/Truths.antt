-- The order of the two truths is implication.
use mathlib.Core.Path.{◌≡◌, refl}
use mathlib.Core.Bool.{Bool, true, false, So, not, ◌||◌, false≢true}

pub implies : (a b : Bool) → (a ≡ true → b ≡ true) → So (not a || b)
implies true b h = h refl
implies false b h = refl

pub implied : (a b : Bool) → So (not a || b) → a ≡ true → b ≡ true
implied true b h e = h
implied false b h e = absurd (false≢true e)
