-- What passes do to terms, and removing parameters.
use Rattle.std.specs.Prelude.{ℕ, Bool, List, [], map, get_or, slice_index_or}
use Rattle.definitions.specs.Lists.{map_from, strike, place}
use Rattle.definitions.specs.Systems.{Kind, parameter, variable, value, operation, not, and, or, equal, Term, term, fold, Occurrence, Clause, Equation, System}

-- the kind with its parameter, if it is one, made another kind
abbrev pub on_parameter : (ℕ → Kind) → Kind → Kind
on_parameter f (parameter n) = f n
on_parameter f (variable n) = variable n
on_parameter f (value s v) = value s v
on_parameter f (operation o) = operation o
on_parameter f not = not
on_parameter f and = and
on_parameter f or = or
on_parameter f equal = equal

abbrev pub replaced : (ℕ → Kind) → Term → Term
replaced f t = fold t (λ k parts. term (on_parameter f k) parts)

abbrev pub truth_term : ℕ → Term
truth_term v = term (value 0 v) []

-- every term of an equation by f, an occurrence's list of arguments first by g at its target
module _ (g : ℕ → List Term → List Term) (f : Term → Term) where
  abbrev pub on_occurrence : Occurrence → Occurrence
  on_occurrence o = record { target = o.target; arguments = map f (g o.target o.arguments) }

  abbrev pub on_clause : Clause → Clause
  on_clause c = record { guard = f c.guard; occurrences = map on_occurrence c.occurrences }

-- removing: each equation has a mask of the parameters that stay
abbrev pub cut_equation : List (List Bool) → ℕ → Equation → Equation
cut_equation masks i e =
    let mask = get_or masks i [] in
    let renumbered = replaced (λ n. parameter (place mask n)) in
    record {
      sign = e.sign;
      sorts = strike mask e.sorts;
      quantified = e.quantified;
      h = renumbered e.h;
      clauses = map (on_clause (λ j ts. strike (slice_index_or masks j []) ts) renumbered) e.clauses;
    }

abbrev pub cut : List (List Bool) → System → System
cut masks s =
    record {
      equations = map_from 0 (cut_equation masks) s.equations;
      start = s.start;
      values = strike (slice_index_or masks s.start []) s.values;
    }
