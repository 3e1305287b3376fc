-- The operations of one sort of the counting algebra.
use Rattle.std.specs.Prelude.{ℕ, true, false, List, map, Some, None, Option}
use Rattle.definitions.specs.Lists.{at, bind}
use Rattle.definitions.specs.Alg.{Op, within}
use Rattle.definitions.specs.Algebras.{counts}

-- the value of the operation numbered w of a sort of n values
abbrev pub runs : ℕ → ℕ → List ℕ → Option ℕ
runs n w xs = bind (at (counts 0 n) w) (λ (q : Op). let v = q.run xs in elim (within (map (λ _. n) q.args) xs) [ true ↦ Some v | false ↦ None ])
