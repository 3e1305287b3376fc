-- The plans of the four passes.
use Rattle.std.specs.Prelude.{◌≡◌, ℕ, ◌<◌, ◌≤◌, Bool, true, false, List, [], length, replicate, Some, None, Option, Ok, Err, Result, slice_index_or}
use Rattle.definitions.specs.Lists.{at}
use Rattle.definitions.specs.Alg.{Alg}
use Rattle.definitions.specs.Systems.{Equation, System}
use Rattle.definitions.specs.Values.{known, is_false}
use Rattle.definitions.specs.Constants.{Known, least_knowledge}
use Rattle.definitions.specs.Passes.{needed, reachable}
use Rattle.definitions.specs.Fits.{SystemFits}
use Rattle.definitions.specs.Settle.{Pass}
use Rattle.system.specs.declared.outline.Outline.{Outline}
use Rattle.system.specs.Whole.{Outlined}
use Rattle.passes.specs.declared.plan.ParameterChange.{ParameterChange}
use Rattle.passes.specs.declared.plan.ParameterChange.TheVariants.{Stays, Goes, Becomes}
use Rattle.passes.specs.declared.plan.EquationChange.{EquationChange}
use Rattle.passes.specs.declared.plan.EquationChange.TheVariants as equation
use Rattle.passes.specs.declared.plan.Change.{Change}
use Rattle.passes.specs.declared.plan.Plan.{Plan}
use Rattle.passes.specs.declared.plan.Missing.{Missing}
use Rattle.passes.specs.Planned.{system_by}

-- the change and the plan under which all stays
abbrev pub change_none : Change
change_none = record { equation = equation.Stays; parameters = replicate 15 Stays }

abbrev pub plan_none : Plan
plan_none = record { fold = false; equations = replicate 31 change_none }

-- the plan made is as told, and nothing is missing
abbrev pub Planning : (Plan → Type 0) → Result Plan Missing → Type 0
Planning R (Ok P) = R P
Planning R (Err e) = ⊥

-- the plan made of a file makes of its system what the pass m makes of it
abbrev pub PlansAs : Pass → Alg → List ℕ → Outline → Result Plan Missing → Type 0
PlansAs m a f o r = (s : System) → length f ≤ 65536 → Outlined a f s o → SystemFits a s → Planning (λ P. system_by a P s ≡ m a s) r

-- a change of an equation by what becomes of it, and of its parameters by what becomes of each
pub record Changes (e : Equation) (what : EquationChange) (each : ℕ → ParameterChange) (c : Change) : Type 0 where
  pub equation : c.equation ≡ what
  pub parameters : (n : ℕ) → n < length e.sorts → at c.parameters n ≡ Some (each n)

-- a plan that folds or not, and changes each equation as told
pub record Plans (s : System) (folds : Bool) (what : ℕ → Equation → EquationChange) (each : ℕ → Equation → ℕ → ParameterChange) (P : Plan) : Type 0 where
  pub fold : P.fold ≡ folds
  pub each_equation : (i : ℕ) (e : Equation) → at s.equations i ≡ Some e → (c : Change) × ((at P.equations i ≡ Some c) × Changes e (what i e) (each i e) c)

-- F: equations whose h is known false become bare
abbrev pub folding : Alg → System → Plan → Type 0
folding a s P = Plans s true (λ i e. elim (is_false (known a [] e.h)) [ true ↦ equation.Bare | false ↦ equation.Stays ]) (λ i e n. Stays) P

-- U: equations that are not reached go
abbrev pub keeping : System → Plan → Type 0
keeping s P = Plans s false (λ i e. elim (slice_index_or (reachable s) i false) [ true ↦ equation.Stays | false ↦ equation.Goes ]) (λ i e n. Stays) P

-- R: parameters that are not needed go
abbrev pub needing : System → Plan → Type 0
needing s P = Plans s false (λ i e. equation.Stays) (λ i e n. elim (slice_index_or (slice_index_or (needed s) i []) n false) [ true ↦ Stays | false ↦ Goes ]) P

-- C: unreached equations become bare, and known parameters become their values
abbrev pub becomes : Option Known → ℕ → ParameterChange
becomes None n = Goes
becomes (Some ks) n = elim (slice_index_or ks n None) [ None ↦ Stays | Some v ↦ Becomes v ]

abbrev pub knowing : Alg → System → Plan → Type 0
knowing a s P =
    Plans s false (λ i e. elim (slice_index_or (least_knowledge a s) i None) [ None ↦ equation.Bare | Some ks ↦ equation.Stays ])
    (λ i e. becomes (slice_index_or (least_knowledge a s) i None)) P
