-- What the definitions come to on the sample system, its settled form, and terms at the depth limit: all computed.
use Rattle.std.specs.Prelude.{◌≡◌, ℕ, zero, suc, Bool, true, false, List, [], ◌∷◌, Some, None, Ok, Option}
use Rattle.faults.specs.declared.Reason.TheVariants.{BadLength, EndsInField, NoEquations, TooDeep, NotEnded}
use Rattle.definitions.specs.Alg.{Alg}
use Rattle.definitions.specs.Solution.{least, greatest}
use Rattle.definitions.specs.Reading.{Reading, got, bad}
use Rattle.definitions.specs.ReadSystem.{reading}
use Rattle.definitions.specs.Written.{written}
use Rattle.definitions.specs.Systems.{System, Equation, Term, term, value, operation, parameter, not, equal}
use Rattle.definitions.specs.Truth.{verdict}
use Rattle.definitions.specs.Constants.{least_knowledge, pass_c}
use Rattle.definitions.specs.Passes.{pass_r}
use Rattle.definitions.specs.Settle.{run, wrote, settle, settled}
use Rattle.definitions.specs.Boolean.{Expanded, made, refused, expand_on}
use Rattle.definitions.specs.Tables.{table_reading, table, Table}
use Rattle.definitions.specs.Calls.{found, solve}
use Rattle.definitions.specs.Past.{Event, loads, settles, expands, Past}
use Rattle.theorems.specs.Sample.{four, sample}

-- the settled file with the first and the last byte given
abbrev pub settled_file : ℕ → ℕ → List ℕ
settled_file x y = x ∷ 0x04 ∷ 0x00 ∷ 0x22 ∷ 0x80 ∷ 0x04 ∷ 0x00 ∷ y ∷ []

-- the Boolean file of the settled system
abbrev pub expanded_file : List ℕ
expanded_file = 0x00 ∷ 0x08 ∷ 0x10 ∷ 0x03 ∷ 0x00 ∷ 0x80 ∷ 0x00 ∷ []

abbrev pub file_verdict : Alg → Reading System → Option Bool
file_verdict a (got s) = Some (verdict a s)
file_verdict a (bad r p) = None

abbrev pub variable_count : Expanded → Option ℕ
variable_count (made g n) = Some n
variable_count (refused e) = None

abbrev pub file_of : Expanded → List ℕ
file_of (made g n) = g
file_of (refused e) = []

abbrev pub table_verdict : Reading Table → List ℕ → Option Bool
table_verdict (bad r p) f = None
table_verdict (got t) f = file_verdict (table t) (reading (table t) f)

-- X without a, which is 0, and Y bare
abbrev pub cut_x : Equation
cut_x = record {
  sign = greatest;
  sorts = 1 ∷ [];
  quantified = [];
  h = term (value 0 1) [];
  clauses =
      record { guard = term (value 0 1) []; occurrences = record { target = 0; arguments = term (operation 2) (term (parameter 0) [] ∷ []) ∷ [] } ∷ [] } ∷
      record { guard = term equal (term (value 1 0) [] ∷ term (value 1 3) [] ∷ []); occurrences = record { target = 1; arguments = [] } ∷ [] } ∷ [];
}

abbrev pub bare_y : Equation
bare_y = record { sign = least; sorts = []; quantified = []; h = term (value 0 0) []; clauses = [] }

-- one equation with h not .. not true, of depth n + 1
abbrev pub nested : ℕ → Term
nested zero = term (value 0 1) []
nested (suc n) = term not (nested n ∷ [])

abbrev pub deep : ℕ → System
deep n = record { equations = record { sign = least; sorts = []; quantified = []; h = nested n; clauses = [] } ∷ []; start = 0; values = [] }

-- the sample is loaded, settled and expanded, the latest call first
abbrev pub sample_history : List Event
sample_history =
    expands four 4096 (7 ∷ 7 ∷ 7 ∷ 7 ∷ 7 ∷ 7 ∷ 7 ∷ 7 ∷ []) (0x00 ∷ 0x08 ∷ 0x10 ∷ 0x03 ∷ 0x00 ∷ 0x80 ∷ 0x00 ∷ 7 ∷ []) (Ok (7, 1)) ∷
    settles four (Ok 2) ∷
    loads four (written sample) (Ok tt) ∷ []

pub record Examples : Type 0 where
  pub empty_file_declined : reading four [] ≡ bad BadLength 0
  pub no_equation_declined : reading four (0 ∷ []) ≡ bad NoEquations 0
  pub cut_short_declined : reading four (0x0C ∷ []) ≡ bad EndsInField 6
  pub padding_declined : reading four (settled_file 0x0C 0x01) ≡ bad NotEnded 59
  pub sample_read_back : reading four (written sample) ≡ got sample
  pub nothing_redundant : run pass_r four (written sample) ≡ wrote (written sample)
  pub first_parameter_known : least_knowledge four sample ≡ Some (Some 0 ∷ None ∷ []) ∷ None ∷ []
  pub constants_put_in : pass_c four sample ≡ record { equations = cut_x ∷ bare_y ∷ []; start = 0; values = 0 ∷ [] }
  pub settles_in_two_rounds : settle four (written sample) ≡ settled 2 (settled_file 0x0C 0x00)
  pub settled_form_expands : expand_on four 4096 65535 (settled_file 0x0C 0x00) ≡ made expanded_file 1
  pub settled_form_is_true : file_verdict four (reading four (settled_file 0x0C 0x00)) ≡ Some true
  pub least_form_is_false : file_verdict four (reading four (settled_file 0x08 0x00)) ≡ Some false
  pub sample_has_four_variables : variable_count (expand_on four 4096 65535 (written sample)) ≡ Some 4
  pub sample_is_true : verdict four sample ≡ true
  pub solved_expansion : solve 1 expanded_file ≡ found (1 ∷ [])
  pub solved_sample : solve 4 (file_of (expand_on four 4096 65535 (written sample))) ≡ found (1 ∷ 1 ∷ 1 ∷ 1 ∷ [])
  pub depth_32_accepted : reading four (written (deep 31)) ≡ got (deep 31)
  pub depth_33_declined : reading four (written (deep 32)) ≡ bad TooDeep 108
  pub over_a_table : table_verdict (table_reading (0x00 ∷ 0x10 ∷ 0x00 ∷ [])) (settled_file 0x0C 0x00) ≡ Some true
  pub history : Past sample_history (settled_file 0x0C 0x00)
