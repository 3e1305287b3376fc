-- The passes F, R and U.
use Rattle.std.specs.Prelude.{ℕ, Bool, true, false, not as flip, ◌||◌, List, [], map, length, Some, None, Option, ◌==◌, nat_eq, slice_index_or}
use Rattle.definitions.specs.Lists.{or_else, flat, some, keep, sum, times, up_to, strike, place}
use Rattle.definitions.specs.Alg.{Alg}
use Rattle.definitions.specs.Systems.{Kind, parameter, variable, value, operation, not, and, or, equal, Term, Terms, node, none, more, term, fold, Occurrence, Clause, Equation, System}
use Rattle.definitions.specs.Values.{known, is_false}
use Rattle.definitions.specs.Terms.{truth_term, on_clause, cut}

-- F
abbrev pub sort_of : Alg → Kind → ℕ
sort_of a (parameter n) = 0
sort_of a (variable n) = 0
sort_of a (value s v) = s
sort_of a (operation o) = or_else (a.res_sort o) 0
sort_of a not = 0
sort_of a and = 0
sort_of a or = 0
sort_of a equal = 0

-- a value term where the value is known, else the kind with its parts
abbrev pub folded_as : Alg → Kind → Option ℕ → Terms → Term
folded_as a k (Some v) ts = term (value (sort_of a k) v) []
folded_as a k None ts = node k ts

-- the largest parts with a known value become value terms
abbrev mutual
  pub folded : Term → Alg → Term
  folded (node k ts) a = folded_as a k (known a [] (node k ts)) (foldeds ts a)

  pub foldeds : Terms → Alg → Terms
  foldeds none a = none
  foldeds (more t ts) a = more (folded t a) (foldeds ts a)

abbrev pub folded_equation : Alg → Equation → Equation
folded_equation a e =
    elim (is_false (known a [] e.h)) [
      | true ↦ record { sign = e.sign; sorts = e.sorts; quantified = []; h = truth_term 0; clauses = [] }
      | false ↦ record {
        sign = e.sign;
        sorts = e.sorts;
        quantified = e.quantified;
        h = folded e.h a;
        clauses = map (on_clause (λ j ts. ts) (λ t. folded t a)) (keep (λ (c : Clause). flip (is_false (known a [] c.guard))) e.clauses);
      }
    ]

abbrev pub pass_f : Alg → System → System
pass_f a s = record { equations = map (folded_equation a) s.equations; start = s.start; values = s.values }

-- R
abbrev pub is_parameter : ℕ → Kind → Bool
is_parameter k (parameter n) = k == n
is_parameter k (variable n) = false
is_parameter k (value s v) = false
is_parameter k (operation o) = false
is_parameter k not = false
is_parameter k and = false
is_parameter k or = false
is_parameter k equal = false

abbrev pub occurs_in : ℕ → Term → Bool
occurs_in k t = fold t (λ kind parts. is_parameter k kind || some (λ b. b) parts)

-- h or one of the guards names it
abbrev pub marked : Equation → ℕ → Bool
marked e k = occurs_in k e.h || some (λ (c : Clause). occurs_in k c.guard) e.clauses

abbrev pub occurrences : Equation → List Occurrence
occurrences e = flat (map (λ (c : Clause). c.occurrences) e.clauses)

-- it occurs in an argument for a parameter of the masks given
abbrev pub feeds : List (List Bool) → Equation → ℕ → Bool
feeds masks e k = some (λ (o : Occurrence). some (occurs_in k) (strike (slice_index_or masks o.target []) o.arguments)) (occurrences e)

abbrev pub marks : System → List (List Bool) → List (List Bool)
marks s masks = map (λ (e : Equation). map (λ k. marked e k || feeds masks e k) (up_to (length e.sorts))) s.equations

-- the parameters that reach a mark
abbrev pub needed : System → List (List Bool)
needed s = times (sum (map (λ (e : Equation). length e.sorts) s.equations)) (marks s) []

abbrev pub pass_r : Alg → System → System
pass_r a s = cut (needed s) s

-- U
abbrev pub calls : ℕ → Equation → Bool
calls j e = some (λ (o : Occurrence). nat_eq o.target j) (occurrences e)

abbrev pub chained : System → List Bool → List Bool
chained s reached = map (λ j. (j == s.start) || some (calls j) (strike reached s.equations)) (up_to (length s.equations))

abbrev pub reachable : System → List Bool
reachable s = times (length s.equations) (chained s) []

abbrev pub renamed : (ℕ → ℕ) → Equation → Equation
renamed f e =
    record {
      sign = e.sign;
      sorts = e.sorts;
      quantified = e.quantified;
      h = e.h;
      clauses = map (λ (c : Clause). record { guard = c.guard; occurrences = map (λ (o : Occurrence). record { target = f o.target; arguments = o.arguments }) c.occurrences }) e.clauses;
    }

abbrev pub pass_u : Alg → System → System
pass_u a s =
    let mask = reachable s in
    record { equations = map (renamed (place mask)) (strike mask s.equations); start = place mask s.start; values = s.values }
