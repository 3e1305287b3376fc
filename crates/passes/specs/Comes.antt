-- What the passes R and U let come to a first-come list.
use Rattle.std.specs.Prelude.{◌≡◌, ℕ, ◌<◌, ◌≤◌, Bool, true, false, ◌&&◌, List, [], map, length, Some, Ok, Err, Result, nat_eq, replicate, slice_index_or}
use mathlib.Core.List.{Memᴰ}
use Rattle.definitions.specs.Lists.{at, flat}
use Rattle.definitions.specs.Systems.{Term, Occurrence, Clause, Equation, System}
use Rattle.definitions.specs.Passes.{occurs_in, marked, occurrences, reachable, needed}
use Rattle.firstcome.specs.declared.FirstCome.{FirstCome}
use Rattle.firstcome.specs.Coming.{listed}
use Rattle.system.specs.declared.places.OccurrenceAt.{OccurrenceAt}
use Rattle.passes.specs.declared.plan.ParameterChange.TheVariants.{Stays, Goes}
use Rattle.passes.specs.declared.plan.EquationChange.TheVariants as equation
use Rattle.passes.specs.declared.plan.Change.{Change}
use Rattle.passes.specs.declared.plan.Plan.{Plan}
use Rattle.passes.specs.declared.plan.Missing.{Missing}
use Rattle.passes.specs.declared.redundant.Parameter.{Parameter}
use Rattle.passes.specs.declared.unreachable_equations.EquationNumber.{EquationNumber}

-- a record stands in a list; each stands there once; each passes a test
abbrev pub Has : {T : Type 0} → List T → T → Type 0
Has xs x = (k : ℕ) × (at xs k ≡ Some x)

abbrev pub Once : {T : Type 0} → List T → Type 0
Once {T} xs = (i j : ℕ) (x : T) → at xs i ≡ Some x → at xs j ≡ Some x → i ≡ j

abbrev pub Passing : {T : Type 0} → (T → Bool) → List T → Type 0
Passing {T} p xs = (k : ℕ) (x : T) → at xs k ≡ Some x → p x ≡ true

-- what came passes the test and came once, and there are places for all that pass it
pub record Room {T : Type 0} (p : T → Bool) (l : FirstCome T) : Type 0 where
  pub once : Once (listed l)
  pub pass : Passing p (listed l)
  pub places : (xs : List T) → Once xs → Passing p xs → length xs ≤ length l.items.now

-- what came before stays where it is, and what is wanted came
pub record Brought {T : Type 0} (p : T → Bool) (W : T → Type 0) (old new : FirstCome T) : Type 0 where
  pub room : Room p new
  pub kept : (k : ℕ) (x : T) → at (listed old) k ≡ Some x → at (listed new) k ≡ Some x
  pub came : (x : T) → W x → Has (listed new) x

abbrev pub Brings : {T : Type 0} → (T → Bool) → (T → Type 0) → FirstCome T → FirstCome T → Result (Unit {0}) Missing → Type 0
Brings p W old new (Ok _) = Brought p W old new
Brings p W old new (Err _) = ⊥

-- whatever test what came and what is wanted pass, none is refused, and what is wanted came
abbrev pub Gathers : {T : Type 0} → (T → Type 0) → FirstCome T → FirstCome T → Result (Unit {0}) Missing → Type 0
Gathers {T} W old new r = (p : T → Bool) → Room p old → ((x : T) → W x → p x ≡ true) → Brings p W old new r

-- the same where what is wanted hangs on which records have a property: by those that pass the test it passes, and by those that came before it came
abbrev pub Follows : {T : Type 0} → ((T → Type 0) → T → Type 0) → FirstCome T → FirstCome T → Result (Unit {0}) Missing → Type 0
Follows {T} V old new r = (p : T → Bool) → Room p old → ((x : T) → V (λ y. p y ≡ true) x → p x ≡ true) → Brings p (V (Has (listed old))) old new r

-- U: an equation by its number
abbrev pub number : ℕ → EquationNumber
number i = record { index = i }

abbrev pub is_number : ℕ → EquationNumber → Bool
is_number i y = nat_eq y.index i

-- the targets of occurrences that are found, and of the occurrences of clauses
abbrev pub Targets : List OccurrenceAt → EquationNumber → Type 0
Targets xs x = (k : ℕ) × (o : OccurrenceAt) × (at xs k ≡ Some o) × (x ≡ number o.target)

abbrev pub Called : List Clause → EquationNumber → Type 0
Called ks x = (o : Occurrence) × (Memᴰ o (flat (map (λ (k : Clause). k.occurrences) ks))) × (x ≡ number o.target)

-- those to which an equation among the first n that came leads
abbrev pub Led : System → List EquationNumber → ℕ → EquationNumber → Type 0
Led s ys n x = (j : ℕ) × (y : EquationNumber) × (e : Equation) × (j < n) × (at ys j ≡ Some y) × (at s.equations y.index ≡ Some e) × Called e.clauses x

-- whether it is reached
abbrev pub reached : System → EquationNumber → Bool
reached s x = slice_index_or (reachable s) x.index false

-- the plan by which the equations that are as told stay, and the others go
pub record Keeping (q : ℕ → Bool) (P : Plan) : Type 0 where
  pub fold : P.fold ≡ false
  pub each : (i : ℕ) → i < 31 → at P.equations i ≡ Some (record { equation = elim (q i) [ true ↦ equation.Stays | false ↦ equation.Goes ]; parameters = replicate 15 Stays })

-- R: a parameter by its equation's number and its own
abbrev pub parameter : ℕ → ℕ → Parameter
parameter i k = record { equation = i; index = k }

abbrev pub is_parameter : ℕ → ℕ → Parameter → Bool
is_parameter i k y = nat_eq y.equation i && nat_eq y.index k

-- the parameters of the equation numbered i, which has n: those that occur in a term, those in the guards of clauses, and the marked
abbrev pub Occurring : ℕ → ℕ → Term → Parameter → Type 0
Occurring i n t x = (k : ℕ) × (k < n) × (occurs_in k t ≡ true) × (x ≡ parameter i k)

abbrev pub Guarding : ℕ → ℕ → List Clause → Parameter → Type 0
Guarding i n ks x = (c : Clause) × Memᴰ c ks × Occurring i n c.guard x

abbrev pub Marking : ℕ → ℕ → Equation → Parameter → Type 0
Marking i n e x = (k : ℕ) × (k < n) × (marked e k ≡ true) × (x ≡ parameter i k)

-- those that occur in an argument for one of which H holds, of an occurrence and of occurrences
abbrev pub Feeding : ℕ → ℕ → Occurrence → (Parameter → Type 0) → Parameter → Type 0
Feeding i n o H x = (j : ℕ) × (t : Term) × (at o.arguments j ≡ Some t) × H (parameter o.target j) × Occurring i n t x

abbrev pub Pointing : ℕ → ℕ → List Occurrence → (Parameter → Type 0) → Parameter → Type 0
Pointing i n os H x = (o : Occurrence) × Memᴰ o os × Feeding i n o H x

-- the same of all equations
abbrev pub Marks : System → Parameter → Type 0
Marks s x = (i : ℕ) × (e : Equation) × (at s.equations i ≡ Some e) × Marking i (length e.sorts) e x

abbrev pub Points : System → (Parameter → Type 0) → Parameter → Type 0
Points s H x = (i : ℕ) × (e : Equation) × (at s.equations i ≡ Some e) × Pointing i (length e.sorts) (occurrences e) H x

-- whether it reaches a mark
abbrev pub wanted : System → Parameter → Bool
wanted s x = slice_index_or (slice_index_or (needed s) x.equation []) x.index false

-- of an equation's parameters those stay that are as told, and the same of all
pub record Staying (q : ℕ → Bool) (c : Change) : Type 0 where
  pub equation : c.equation ≡ equation.Stays
  pub each : (k : ℕ) → k < 15 → at c.parameters k ≡ Some (elim (q k) [ true ↦ Stays | false ↦ Goes ])

pub record Needing (q : ℕ → ℕ → Bool) (P : Plan) : Type 0 where
  pub fold : P.fold ≡ false
  pub each : (i : ℕ) → i < 31 → (c : Change) × (at P.equations i ≡ Some c) × Staying (q i) c
