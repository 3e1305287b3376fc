-- What the passes keep: the truth of each instance that they leave, so the verdict; and the rules of a pass.
use Rattle.std.specs.Prelude.{◌≡◌, ℕ, Bool, true, false, ◌↔◌, List, [], Some, None, slice_index_or}
use Rattle.definitions.specs.Lists.{at, map_from, strike, place}
use Rattle.definitions.specs.Alg.{Alg, Lawful, within}
use Rattle.definitions.specs.Systems.{Term, Equation, System}
use Rattle.definitions.specs.Values.{value_of}
use Rattle.definitions.specs.Fits.{SystemFits}
use Rattle.definitions.specs.Truth.{Instance, sizes_of, body, truths, verdict}
use Rattle.definitions.specs.Terms.{truth_term}
use Rattle.definitions.specs.Constants.{Known, least_knowledge, unknown_of, pass_c}
use Rattle.definitions.specs.Passes.{folded, needed, reachable, pass_f, pass_r, pass_u}
use Rattle.definitions.specs.Reach.{ReachesMark, ReachedEquation}
use Rattle.definitions.specs.Rules.{Rules}
use Rattle.definitions.specs.Histories.{Alike}

-- an instance of an equation, with values in the ranges of its sorts
pub record InRange (a : Alg) (s : System) (x : Instance) : Type 0 where
  pub equation : Equation
  pub there : at s.equations x.0 ≡ Some equation
  pub fine : within (sizes_of a equation) x.1 ≡ true

-- what masks of an equation's parameters leave of an instance
abbrev pub left : List (List Bool) → Instance → Instance
left masks x = (x.0, strike (slice_index_or masks x.0 []) x.1)

-- R: the parameters that stay are those that reach a mark; every instance keeps its truth
abbrev pub RKeepsWhatReachesAMark : Type 0
RKeepsWhatReachesAMark = (s : System) (i k : ℕ) → (slice_index_or (slice_index_or (needed s) i []) k false ≡ true) ↔ ReachesMark s i k

abbrev pub RKeepsTruths : Type 0
RKeepsTruths = (a : Alg) → Lawful a → (s : System) → SystemFits a s → (x : Instance) → InRange a s x → truths a (pass_r a s) (left (needed s) x) ≡ truths a s x

-- the starting values of removed parameters do not matter
abbrev pub RemovedValuesDoNotMatter : Type 0
RemovedValuesDoNotMatter = (a : Alg) → Lawful a → (s t : System) → SystemFits a s → SystemFits a t → Alike s t → verdict a t ≡ verdict a s

-- C: an instance of a reached equation that agrees with what is known keeps its truth
abbrev pub unknowns : Alg → System → List (List Bool)
unknowns a s = map_from 0 (λ i e. unknown_of e (slice_index_or (least_knowledge a s) i None)) s.equations

pub record AgreesWithKnown (a : Alg) (s : System) (x : Instance) : Type 0 where
  pub known : Known
  pub reached : at (least_knowledge a s) x.0 ≡ Some (Some known)
  pub agrees : (k v : ℕ) → slice_index_or known k None ≡ Some v → at x.1 k ≡ Some v

abbrev pub CKeepsTruths : Type 0
CKeepsTruths = (a : Alg) → Lawful a → (s : System) → SystemFits a s → (x : Instance) → InRange a s x → AgreesWithKnown a s x →
    truths a (pass_c a s) (left (unknowns a s) x) ≡ truths a s x

-- what is not reached keeps its sign alone, and is false
abbrev pub CBaresUnreached : Type 0
CBaresUnreached = (a : Alg) (s : System) (i : ℕ) (e : Equation) → at s.equations i ≡ Some e → slice_index_or (least_knowledge a s) i None ≡ None →
    at (pass_c a s).equations i ≡ Some (record { sign = e.sign; sorts = []; quantified = []; h = truth_term 0; clauses = [] })

-- F: every term keeps its value in every environment, every body what it says, and every instance its truth
abbrev pub FoldingKeepsValues : Type 0
FoldingKeepsValues = (a : Alg) (ps vs : List ℕ) (t : Term) → value_of a ps vs (folded t a) ≡ value_of a ps vs t

abbrev pub FKeepsBodies : Type 0
FKeepsBodies = (a : Alg) → Lawful a → (s : System) → SystemFits a s → (f : Instance → Bool) (x : Instance) → body a (pass_f a s) f x ≡ body a s f x

abbrev pub FKeepsTruths : Type 0
FKeepsTruths = (a : Alg) → Lawful a → (s : System) → SystemFits a s → (x : Instance) → truths a (pass_f a s) x ≡ truths a s x

-- U: the equations that stay are those that are reached; their instances keep their truths
abbrev pub UKeepsWhatIsReached : Type 0
UKeepsWhatIsReached = (a : Alg) (s : System) → SystemFits a s → (j : ℕ) → (slice_index_or (reachable s) j false ≡ true) ↔ ReachedEquation s j

abbrev pub UKeepsTruths : Type 0
UKeepsTruths = (a : Alg) → Lawful a → (s : System) → SystemFits a s → (x : Instance) → ReachedEquation s x.0 →
    truths a (pass_u a s) (place (reachable s) x.0, x.1) ≡ truths a s x

-- so the four passes keep the rules of a pass
pub record PassesKeepRules : Type 0 where
  pub C : Rules pass_c
  pub F : Rules pass_f
  pub R : Rules pass_r
  pub U : Rules pass_u
