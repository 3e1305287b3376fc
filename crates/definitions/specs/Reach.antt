-- What is reached: the parameters that R keeps, the equations that U keeps, and the instances that expand numbers.
use Rattle.std.specs.Prelude.{◌≡◌, ℕ, ◌<◌, true, length, Some}
use mathlib.Core.List.{Memᴰ}
use Rattle.definitions.specs.Lists.{at}
use Rattle.definitions.specs.Alg.{Alg}
use Rattle.definitions.specs.Systems.{Term, Occurrence, Equation, System}
use Rattle.definitions.specs.Passes.{occurs_in, marked, occurrences}
use Rattle.definitions.specs.Truth.{Instance}
use Rattle.definitions.specs.Boolean.{vars, form}

-- the parameter k of the equation i is marked, or occurs in an argument for one that reaches a mark
pub data ReachesMark (s : System) : ℕ → ℕ → Type 0 where
  is_marked : {i k : ℕ} (e : Equation) → at s.equations i ≡ Some e → k < length e.sorts → marked e k ≡ true → ReachesMark s i k
  leads_on : {i k : ℕ} (e : Equation) (o : Occurrence) (n : ℕ) (t : Term) → at s.equations i ≡ Some e → k < length e.sorts →
      Memᴰ o (occurrences e) → at o.arguments n ≡ Some t → occurs_in k t ≡ true → ReachesMark s o.target n → ReachesMark s i k

-- the equation is the start's, or a reached equation has an occurrence of it
pub data ReachedEquation (s : System) : ℕ → Type 0 where
  is_start : ReachedEquation s s.start
  is_called : {i : ℕ} (e : Equation) (o : Occurrence) → at s.equations i ≡ Some e → Memᴰ o (occurrences e) → ReachedEquation s i →
      ReachedEquation s o.target

-- the instance is the start, or a token of the body of a reached instance names it
pub data ReachedInstance (a : Alg) (s : System) : Instance → Type 0 where
  start : ReachedInstance a s (s.start, s.values)
  token : {x y : Instance} (k : ℕ) → ReachedInstance a s x → at (vars (form a s x)) k ≡ Some y → ReachedInstance a s y
