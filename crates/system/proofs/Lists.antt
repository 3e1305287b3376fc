-- Members of lists.
use Rattle.std.proofs.Common.{◌≡◌, ℕ, zero, suc, ◌<◌, ◌≤◌, List, [], ◌∷◌, map, length, get_or, Some, None, refl, ap, arith}
use Rattle.definitions.specs.Lists.{at}

pub at_some : (xs : List ℕ) (k : ℕ) → k < length xs → Some (get_or xs k 0) ≡ at xs k
at_some [] k h = absurd (omega arith)
at_some (x ∷ xs) zero h = refl
at_some (x ∷ xs) (suc k) h = at_some xs k (omega arith)

pub at_item : {X Y : Type 0} (g : X → Y) (xs : List X) (i : ℕ) (x : X) → i < length xs → x ≡ get_or xs i x → Some (g x) ≡ at (map g xs) i
at_item g [] i x h e = absurd (omega arith)
at_item g (y ∷ xs) zero x h e = ap (λ z. Some (g z)) e
at_item g (y ∷ xs) (suc i) x h e = at_item g xs i x (omega arith) e

pub at_none : {X Y : Type 0} (g : X → Y) (xs : List X) (i : ℕ) → length xs ≤ i → None ≡ at (map g xs) i
at_none g [] i h = refl
at_none g (y ∷ xs) zero h = absurd (omega arith)
at_none g (y ∷ xs) (suc i) h = at_none g xs i (omega arith)
