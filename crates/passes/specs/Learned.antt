-- What the pass C keeps of each equation, and what is brought to it.
use Rattle.std.specs.Prelude.{◌≡◌, ℕ, suc, ◌+◌, ◌*◌, ◌<◌, ◌≤◌, Bool, true, false, List, [], ◌∷◌, map, length, replicate, Some, None, Option, Ok, Err, Result, slice_index_or}
use Rattle.definitions.specs.Lists.{at, bind, each, sum}
use Rattle.definitions.specs.Fits.{Every}
use Rattle.definitions.specs.Alg.{Alg}
use Rattle.definitions.specs.Systems.{Occurrence, Equation, System}
use Rattle.definitions.specs.Values.{known}
use Rattle.definitions.specs.Constants.{Known, Knowledge, Brought, equation_brings, taken, learnt_all, reached_below, below, least_knowledge}
use Rattle.theorems.specs.KnowledgeLaws.{arities}
use Rattle.terms.specs.Known.{Alike}
use Rattle.passes.specs.declared.constants.Known.{Known as Kept}
use Rattle.passes.specs.declared.constants.Known.TheVariants.{Unreached, Fresh, Followed}
use Rattle.passes.specs.declared.constants.Pending.{Pending}
use Rattle.passes.specs.declared.plan.ParameterChange.{ParameterChange}
use Rattle.passes.specs.declared.plan.ParameterChange.TheVariants.{Stays, Goes, Becomes}
use Rattle.passes.specs.declared.plan.EquationChange.TheVariants as equation
use Rattle.passes.specs.declared.plan.Change.{Change}
use Rattle.passes.specs.declared.plan.Missing.{Missing}

-- what is known of an equation, as it is kept
abbrev pub Tells : Kept → Option Known → Type 0
Tells Unreached o = o ≡ None
Tells (Fresh vs) o = (ks : Known) × (o ≡ Some ks) × Alike vs ks × (length vs ≡ 15)
Tells (Followed vs) o = (ks : Known) × (o ≡ Some ks) × Alike vs ks × (length vs ≡ 15)

abbrev pub kept_at : List Kept → ℕ → Kept
kept_at T i = slice_index_or T i Unreached

abbrev pub Shows : List Kept → Knowledge → Type 0
Shows T K = (i : ℕ) → Tells (kept_at T i) (slice_index_or K i None)

-- whether an equation has been followed, or is still to be
abbrev pub followed : Kept → Bool
followed Unreached = false
followed (Fresh vs) = false
followed (Followed vs) = true

abbrev pub fresh : Kept → Bool
fresh Unreached = false
fresh (Fresh vs) = true
fresh (Followed vs) = false

-- no change of what is kept makes this larger, and following makes it smaller
abbrev pub values_known : List (Option ℕ) → ℕ
values_known [] = 0
values_known (None ∷ vs) = values_known vs
values_known (Some v ∷ vs) = suc (values_known vs)

abbrev pub rank : Kept → ℕ
rank Unreached = 31
rank (Fresh vs) = 2 * values_known vs + 1
rank (Followed vs) = 2 * values_known vs

abbrev pub ranks : List Kept → ℕ
ranks T = sum (map rank T)

-- values are joined to what is kept: what was followed is that still only if nothing changes
pub record Joins (old : Kept) (vs : List (Option ℕ)) (new : Kept) : Type 0 where
  pub tells : (o : Option Known) (ks : Known) → Tells old o → Alike vs ks → Tells new (Some (taken o ks))
  pub kept : followed new ≡ true → new ≡ old
  pub less : rank new ≤ rank old

-- what an occurrence brings
abbrev pub occurrence_brings : Alg → Known → Occurrence → Brought
occurrence_brings a ks o = (o.target, map (known a ks) o.arguments)

-- what is brought is learnt
pub record Brings (bs : List Brought) (old new : List Kept) : Type 0 where
  pub shows : (K : Knowledge) → Every (λ b. b.0 < length K) bs → Shows old K → Shows new (learnt_all K bs)
  pub kept : (i : ℕ) → followed (kept_at new i) ≡ true → kept_at new i ≡ kept_at old i

abbrev pub Follows : {X : Type 0} → List Brought → List Kept → List Kept → Result X Missing → Type 0
Follows bs old new (Ok x) = Brings bs old new
Follows bs old new (Err e) = ⊥

-- an equation that is still to be followed, with its values; none where there is none from the number n on, or none at all
abbrev pub PendingFrom : ℕ → List Kept → Option Pending → Type 0
PendingFrom n T None = (i : ℕ) → n ≤ i → fresh (kept_at T i) ≡ false
PendingFrom n T (Some x) = kept_at T x.number ≡ Fresh x.values

abbrev pub NextPending : List Kept → Option Pending → Type 0
NextPending T None = (i : ℕ) → fresh (kept_at T i) ≡ false
NextPending T (Some x) = kept_at T x.number ≡ Fresh x.values

-- what becomes of an equation and of each of its parameters
abbrev pub put : Option ℕ → ParameterChange
put None = Stays
put (Some v) = Becomes v

abbrev pub changing : Kept → Change
changing Unreached = record { equation = equation.Bare; parameters = replicate 15 Goes }
changing (Fresh vs) = record { equation = equation.Stays; parameters = map put vs }
changing (Followed vs) = record { equation = equation.Stays; parameters = map put vs }

-- what is brought is known already
abbrev pub Meets : Knowledge → List Brought → Type 0
Meets K bs = each (λ b. reached_below (Some b.1) (bind (at K b.0) (λ k. k))) bs ≡ true

-- knowledge on the way to the least: the start is known, and of the equations that are done all that they bring
pub record Underway (a : Alg) (s : System) (done : ℕ → Bool) (K : Knowledge) : Type 0 where
  pub long : length K ≡ length s.equations
  pub arity : (i : ℕ) (ks : Known) → slice_index_or K i None ≡ Some ks → at (arities s.equations) i ≡ Some (length ks)
  pub least : below K (least_knowledge a s) ≡ true
  pub start : Meets K ((s.start, map Some s.values) ∷ [])
  pub followed : (i : ℕ) (e : Equation) → at s.equations i ≡ Some e → done i ≡ true → Meets K (equation_brings a e (slice_index_or K i None))

abbrev pub Learnt : Alg → System → List Kept → Type 0
Learnt a s T = (K : Knowledge) × Shows T K × Underway a s (λ i. followed (kept_at T i)) K

abbrev pub Learns : {X : Type 0} → Alg → System → List Kept → Result X Missing → Type 0
Learns a s T (Ok x) = Learnt a s T
Learns a s T (Err e) = ⊥

abbrev pub Least : Alg → System → Result (List Kept) Missing → Type 0
Least a s (Ok T) = Shows T (least_knowledge a s)
Least a s (Err e) = ⊥
