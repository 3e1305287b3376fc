-- What a plan makes of a system.
use Rattle.std.specs.Prelude.{◌≡◌, ℕ, ◌<◌, ◌≤◌, Bool, true, false, not as flip, ◌||◌, List, [], map, length, Ok, Err, Result, slice_index, slice_index_or}
use Rattle.faults.specs.declared.Reason.TheVariants.{ResultTooLong}
use Rattle.faults.specs.declared.PassFault.TheVariants.{Declined}
use Rattle.definitions.specs.Lists.{keep, map_from, strike, place}
use Rattle.definitions.specs.Alg.{Alg}
use Rattle.definitions.specs.Systems.{Kind, parameter, variable, value, operation, not, and, or, equal, Term, Occurrence, Clause, Equation, System}
use Rattle.definitions.specs.Values.{known, is_false}
use Rattle.definitions.specs.Terms.{replaced, truth_term}
use Rattle.definitions.specs.Passes.{folded}
use Rattle.definitions.specs.Written.{body_bits}
use Rattle.definitions.specs.Fits.{Every}
use Rattle.definitions.specs.Settle.{wrote, refused}
use Rattle.definitions.specs.Rules.{fitted_in}
use Rattle.definitions.specs.Calls.{Delivered}
use Rattle.terms.specs.declared.view.Term.{Term as Read}
use Rattle.terms.specs.declared.view.Term.TheVariants.{Parameter, Variable, Value, Operation, Not, And, Or, Equal}
use Rattle.terms.specs.declared.view.Parts.{Parts}
use Rattle.terms.specs.declared.view.Parts.TheVariants.{Zero, One, Two}
use Rattle.passes.specs.declared.plan.ParameterChange.{ParameterChange}
use Rattle.passes.specs.declared.plan.ParameterChange.TheVariants.{Stays, Goes, Becomes}
use Rattle.passes.specs.declared.plan.EquationChange.{EquationChange}
use Rattle.passes.specs.declared.plan.EquationChange.TheVariants as equation
use Rattle.passes.specs.declared.plan.Change.{Change}
use Rattle.passes.specs.declared.plan.Plan.{Plan}

-- which parameters of an equation stay
abbrev pub stays : ParameterChange → Bool
stays Stays = true
stays Goes = false
stays (Becomes v) = false

abbrev pub mask : Change → List Bool
mask c = map stays c.parameters

-- which equations stay, if only bare
abbrev pub remains : EquationChange → Bool
remains equation.Stays = true
remains equation.Bare = true
remains equation.Goes = false

abbrev pub remaining : Plan → List Bool
remaining P = map (λ (c : Change). remains c.equation) P.equations

abbrev pub unchanged : Change
unchanged = record { equation = equation.Stays; parameters = [] }

abbrev pub change_of : Plan → ℕ → Change
change_of P i = slice_index_or P.equations i unchanged

-- a parameter of an equation with these sorts: its value, or its new number
abbrev pub kind_by : List ℕ → Change → ℕ → Kind
kind_by ss c n = elim (slice_index_or c.parameters n Goes) [ Becomes v ↦ value (slice_index ss n) v | Stays ↦ parameter (place (mask c) n) | Goes ↦ parameter (place (mask c) n) ]

abbrev pub folded_if : Bool → Alg → Term → Term
folded_if true a t = folded t a
folded_if false a t = t

abbrev pub term_by : Alg → Plan → List ℕ → Change → Term → Term
term_by a P ss c t = replaced (kind_by ss c) (folded_if P.fold a t)

abbrev pub occurrence_by : Plan → (Term → Term) → Occurrence → Occurrence
occurrence_by P f o = record { target = place (remaining P) o.target; arguments = map f (strike (mask (change_of P o.target)) o.arguments) }

abbrev pub clause_by : Plan → (Term → Term) → Clause → Clause
clause_by P f k = record { guard = f k.guard; occurrences = map (occurrence_by P f) k.occurrences }

-- where all folds, clauses whose guard is known false go
abbrev pub clause_stays : Alg → Plan → Clause → Bool
clause_stays a P k = flip P.fold || flip (is_false (known a [] k.guard))

abbrev pub equation_by : Alg → Plan → Change → Equation → Equation
equation_by a P c e =
    let f = term_by a P e.sorts c in
    let whole : Equation = record {
      sign = e.sign;
      sorts = strike (mask c) e.sorts;
      quantified = e.quantified;
      h = f e.h;
      clauses = map (clause_by P f) (keep (clause_stays a P) e.clauses);
    } in
    let bare : Equation = record { sign = e.sign; sorts = strike (mask c) e.sorts; quantified = []; h = truth_term 0; clauses = [] } in
    elim c.equation [ equation.Bare ↦ bare | equation.Stays ↦ whole | equation.Goes ↦ whole ]

-- what is written of its body
abbrev pub body_left : Alg → Plan → Change → Equation → List ℕ
body_left a P c e = elim c.equation [ equation.Goes ↦ [] | equation.Bare ↦ body_bits (equation_by a P c e) | equation.Stays ↦ body_bits (equation_by a P c e) ]

abbrev pub system_by : Alg → Plan → System → System
system_by a P s =
    record {
      equations = strike (remaining P) (map_from 0 (λ i e. equation_by a P (change_of P i) e) s.equations);
      start = place (remaining P) s.start;
      values = strike (mask (change_of P s.start)) s.values;
    }

-- a term as read: its kind, and its parts
abbrev pub kind_shown : Read → Kind
kind_shown (Parameter n) = parameter n
kind_shown (Variable n) = variable n
kind_shown (Value s v) = value s v
kind_shown (Operation o ps) = operation o
kind_shown (Not x) = not
kind_shown (And x y) = and
kind_shown (Or x y) = or
kind_shown (Equal x y) = equal

abbrev pub parts_shown : Read → Parts
parts_shown (Parameter n) = Zero
parts_shown (Variable n) = Zero
parts_shown (Value s v) = Zero
parts_shown (Operation o ps) = ps
parts_shown (Not x) = One x
parts_shown (And x y) = Two x y
parts_shown (Or x y) = Two x y
parts_shown (Equal x y) = Two x y

-- at most 15 sorts, each of a number of four bits
pub record Narrow (ss : List ℕ) : Type 0 where
  pub few : length ss ≤ 15
  pub small : Every (λ s. s < 16) ss

-- the numbers of a kind fit its fields, in an equation with these sorts
abbrev pub KindFits : List ℕ → Kind → Type 0
KindFits ss (parameter n) = n < length ss
KindFits ss (variable n) = n < 4
KindFits ss (value s v) = (s < 16) × (v < 256)
KindFits ss (operation o) = o < 64
KindFits ss not = Unit {0}
KindFits ss and = Unit {0}
KindFits ss or = Unit {0}
KindFits ss equal = Unit {0}

-- the file g in front of the caller's buffer, or it is too long and the buffer is as it was
abbrev pub Fitted : {E : Type 0} → List ℕ → List ℕ → List ℕ → Result ℕ E → Type 0
Fitted g before after (Ok n) = (fitted_in (length before) g ≡ wrote g) × Delivered g before after n
Fitted g before after (Err e) = (fitted_in (length before) g ≡ refused (Declined ResultTooLong)) × (after ≡ before)
