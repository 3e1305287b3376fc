-- The sample system, over one counting sort of four values. X is greatest with parameters a and b: it calls itself with b moved
-- on, and Y with b where a is 3. Y is least, with one parameter, and says that it lies below 2. The start is X at 0 and 0.
use Rattle.std.specs.Prelude.{ℕ, List, [], ◌∷◌}
use Rattle.definitions.specs.Alg.{Alg}
use Rattle.definitions.specs.Algebras.{counting}
use Rattle.definitions.specs.Solution.{least, greatest}
use Rattle.definitions.specs.Systems.{parameter, value, operation, equal, Term, term, Equation, System}

abbrev pub four : Alg
four = counting (4 ∷ [])

abbrev par : ℕ → Term
par n = term (parameter n) []

abbrev val : ℕ → ℕ → Term
val s v = term (value s v) []

abbrev op : ℕ → List Term → Term
op o ts = term (operation o) ts

abbrev pub X : Equation
X = record {
  sign = greatest;
  sorts = 1 ∷ 1 ∷ [];
  quantified = [];
  h = val 0 1;
  clauses =
      record { guard = val 0 1; occurrences = record { target = 0; arguments = par 0 ∷ op 2 (par 1 ∷ []) ∷ [] } ∷ [] } ∷
      record { guard = term equal (par 0 ∷ val 1 3 ∷ []); occurrences = record { target = 1; arguments = par 1 ∷ [] } ∷ [] } ∷ [];
}

abbrev pub Y : Equation
Y = record { sign = least; sorts = 1 ∷ []; quantified = []; h = op 3 (par 0 ∷ val 1 2 ∷ []); clauses = [] }

abbrev pub sample : System
sample = record { equations = X ∷ Y ∷ []; start = 0; values = 0 ∷ 0 ∷ [] }
