-- What expanding makes, and why it is declined.
use Rattle.std.specs.Prelude.{◌≡◌, ℕ, ◌<◌, ◌≤◌, Bool, List, [], ◌∷◌, map, length, Some}
use Rattle.faults.specs.declared.ExpandFault.{ExpandFault}
use Rattle.faults.specs.declared.ExpandFault.TheVariants.{Refused}
use Rattle.faults.specs.declared.Reason.TheVariants.{TooManyInstances, BooleanTooLong}
use Rattle.definitions.specs.Lists.{at, flat}
use Rattle.definitions.specs.Alg.{Alg, Lawful}
use Rattle.definitions.specs.Algebras.{truth}
use Rattle.definitions.specs.Systems.{System}
use Rattle.definitions.specs.Reading.{got}
use Rattle.definitions.specs.Fits.{SystemFits}
use Rattle.definitions.specs.Truth.{Instance, truths, verdict}
use Rattle.definitions.specs.Solution.{solved}
use Rattle.definitions.specs.Boolean.{boolean_written, vars, form, come, Variable, variable_of, expanded, rank_block, body_at, used_ranks, solves, made, refused, expand_system, boolean_reading}
use Rattle.definitions.specs.Reach.{ReachedInstance}
use Rattle.definitions.specs.FileFits.{BooleanFits}

-- the truth of the variables of a Boolean system
abbrev pub variable_truths : List Variable → ℕ → Bool
variable_truths vs = solved (λ f k. body_at (at vs k) f) (map (rank_block vs) (used_ranks vs))

-- the variables are the reached instances, each once, in the order in which the start and then their tokens come; and each has its instance's truth
pub record Expands (a : Alg) (s : System) (vs : List Variable) : Type 0 where
  pub instances : List Instance
  pub variables : vs ≡ map (variable_of a s instances) instances
  pub only : (k : ℕ) (x : Instance) → at instances k ≡ Some x → ReachedInstance a s x
  pub every : (x : Instance) → ReachedInstance a s x → (k : ℕ) × (at instances k ≡ Some x)
  pub once : (i j : ℕ) (x : Instance) → at instances i ≡ Some x → at instances j ≡ Some x → i ≡ j
  pub first : at instances 0 ≡ Some (s.start, s.values)
  pub order : instances ≡ come [] ((s.start, s.values) ∷ flat (map (λ x. vars (form a s x)) instances))
  pub true_alike : (k : ℕ) (x : Instance) → at instances k ≡ Some x → variable_truths vs k ≡ truths a s x
  pub verdict : variable_truths vs 0 ≡ verdict a s

abbrev pub VariablesAreReachedInstances : Type 0
VariablesAreReachedInstances = (a : Alg) → Lawful a → (s : System) → SystemFits a s → (vs : List Variable) → expanded a s ≡ Some vs → Expands a s vs

abbrev pub ExpansionFits : Type 0
ExpansionFits = (a : Alg) → Lawful a → (s : System) → SystemFits a s → (vs : List Variable) → expanded a s ≡ Some vs → BooleanFits vs

-- the file that expanding writes is read as the variables made, and solving it gives the first of them the verdict
pub record Ships (a : Alg) (s : System) (places room : ℕ) (g : List ℕ) (n : ℕ) : Type 0 where
  pub variables : List Variable
  pub expands : Expands a s variables
  pub fits : BooleanFits variables
  pub long : length variables ≡ n
  pub placed : n ≤ places
  pub file : g ≡ boolean_written variables
  pub roomy : length g ≤ room
  pub short : length g ≤ 65535
  pub read : boolean_reading g ≡ got variables
  pub solved : at (solves variables) 0 ≡ Some (truth (verdict a s))

abbrev pub ExpansionReadAndSolved : Type 0
ExpansionReadAndSolved = (a : Alg) → Lawful a → (s : System) → SystemFits a s → (places room : ℕ) (g : List ℕ) (n : ℕ) → expand_system a places room s ≡ made g n → Ships a s places room g n

-- more than n instances are reached
pub record Many (a : Alg) (s : System) (n : ℕ) : Type 0 where
  pub instances : List Instance
  pub only : (k : ℕ) (x : Instance) → at instances k ≡ Some x → ReachedInstance a s x
  pub once : (i j : ℕ) (x : Instance) → at instances i ≡ Some x → at instances j ≡ Some x → i ≡ j
  pub many : n < length instances

-- why expanding is declined
pub data Declines (a : Alg) (s : System) (places room : ℕ) : ExpandFault → Type 0 where
  too_many : Many a s 4096 → Declines a s places room (Refused TooManyInstances)
  no_place : Many a s places → Declines a s places room (Refused TooManyInstances)
  no_room : (vs : List Variable) → expanded a s ≡ Some vs → length vs ≤ places → room < length (boolean_written vs) → Declines a s places room (Refused BooleanTooLong)
  too_long : (vs : List Variable) → expanded a s ≡ Some vs → length vs ≤ places → 65535 < length (boolean_written vs) → Declines a s places room (Refused BooleanTooLong)

-- nor is it obeyed where they are
pub record Few (a : Alg) (s : System) (places : ℕ) : Type 0 where
  pub few : Many a s 4096 → ⊥
  pub placed : Many a s places → ⊥

abbrev pub ExpandObeyedRightly : Type 0
ExpandObeyedRightly = (a : Alg) → Lawful a → (s : System) → SystemFits a s → (places room : ℕ) (g : List ℕ) (n : ℕ) → expand_system a places room s ≡ made g n → Few a s places

abbrev pub ExpandDeclinedRightly : Type 0
ExpandDeclinedRightly = (a : Alg) (s : System) (places room : ℕ) (e : ExpandFault) → expand_system a places room s ≡ refused e → Declines a s places room e
