-- Runs of passes on files, and rounds of them.
use Rattle.std.specs.Prelude.{ℕ, zero, suc, ◌+◌, Bool, true, false, ◌&&◌, List, [], ◌∷◌, map, length, ◌==◌, nat_le}
use Rattle.faults.specs.declared.Reason.TheVariants.{BenchEmpty, ResultTooLong}
use Rattle.faults.specs.declared.PassFault.{PassFault}
use Rattle.faults.specs.declared.PassFault.TheVariants.{Reading as Unread, Declined}
use Rattle.faults.specs.declared.Halt.{Halt}
use Rattle.definitions.specs.Lists.{sum, same}
use Rattle.definitions.specs.Alg.{Alg}
use Rattle.definitions.specs.Systems.{Kind, parameter, variable, value, operation, not, and, or, equal, Term, fold, Occurrence, Clause, Equation, System}
use Rattle.definitions.specs.Reading.{Reading, got, bad}
use Rattle.definitions.specs.ReadSystem.{reading}
use Rattle.definitions.specs.Written.{written}
use Rattle.definitions.specs.Constants.{pass_c}
use Rattle.definitions.specs.Passes.{pass_f, pass_r, pass_u}

abbrev pub Pass : Type 0
Pass = Alg → System → System

-- the file written, or the fault
pub data Ran : Type 0 where
  wrote : List ℕ → Ran
  refused : PassFault → Ran

abbrev pub fitted : List ℕ → Ran
fitted g = elim (nat_le (length g) 8192) [ true ↦ wrote g | false ↦ refused (Declined ResultTooLong) ]

abbrev pub ran_on : Pass → Alg → Reading System → Ran
ran_on m a (got s) = fitted (written (m a s))
ran_on m a (bad r p) = refused (Unread (record { reason = r; place = p }))

abbrev pub run : Pass → Alg → List ℕ → Ran
run m a f = ran_on m a (reading a f)

-- the passes in their order, by letter
abbrev pub passes : List (ℕ × Pass)
passes = (0x43, pass_c) ∷ (0x46, pass_f) ∷ (0x52, pass_r) ∷ (0x55, pass_u) ∷ []

-- a round's file, or the fault and the letter
pub data Round : Type 0 where
  ended : List ℕ → Round
  failed : PassFault → ℕ → Round

abbrev pub round_by : Alg → List (ℕ × Pass) → List ℕ → Round
round_by a [] f = ended f
round_by a (m ∷ ms) f = elim (run m.1 a f) [ wrote g ↦ round_by a ms g | refused e ↦ failed e m.0 ]

-- how many rounds, and the file; or the fault, the letter and the round
pub data Settled : Type 0 where
  settled : ℕ → List ℕ → Settled
  halted : Halt → Settled

abbrev pub rounds : ℕ → Alg → ℕ → List ℕ → Settled
rounds zero a k f = settled k f
rounds (suc n) a k f =
    elim (round_by a passes f) [
      | ended g ↦ elim (same f g) [ true ↦ settled k g | false ↦ rounds n a (suc k) g ]
      | failed e l ↦ halted (record { fault = e; letter = l; round = k })
    ]

-- a number that falls in each round that changes the file: it counts equations, those not bare, parameters, quantified variables, clauses, occurrences and parts of terms that are no value terms
abbrev pub kind_weight : Kind → ℕ
kind_weight (parameter n) = 1
kind_weight (variable n) = 1
kind_weight (value s v) = 0
kind_weight (operation o) = 1
kind_weight not = 1
kind_weight and = 1
kind_weight or = 1
kind_weight equal = 1

abbrev pub term_weight : Term → ℕ
term_weight t = fold t (λ k parts. kind_weight k + sum parts)

abbrev pub occurrence_weight : Occurrence → ℕ
occurrence_weight o = 1 + sum (map term_weight o.arguments)

abbrev pub clause_weight : Clause → ℕ
clause_weight c = 1 + (term_weight c.guard + sum (map occurrence_weight c.occurrences))

abbrev pub false_term : Term → Bool
false_term t = fold t (λ k parts. is_false_kind k)
  where
    is_false_kind : Kind → Bool
    is_false_kind (parameter n) = false
    is_false_kind (variable n) = false
    is_false_kind (value s v) = s == 0 && v == 0
    is_false_kind (operation o) = false
    is_false_kind not = false
    is_false_kind and = false
    is_false_kind or = false
    is_false_kind equal = false

abbrev pub fullness : Bool → ℕ
fullness true = 1
fullness false = 2

abbrev pub equation_weight : Equation → ℕ
equation_weight e =
    fullness (false_term e.h) + (length e.sorts + (length e.quantified + (term_weight e.h + sum (map clause_weight e.clauses))))

abbrev pub weight : System → ℕ
weight s = sum (map equation_weight s.equations)

abbrev pub rounds_for : Reading System → ℕ
rounds_for (got s) = suc (weight s)
rounds_for (bad r p) = 1

abbrev pub settle : Alg → List ℕ → Settled
settle a f = elim (length f == 0) [ true ↦ halted (record { fault = Declined BenchEmpty; letter = 0x43; round = 1 }) | false ↦ rounds (rounds_for (reading a f)) a 1 f ]
