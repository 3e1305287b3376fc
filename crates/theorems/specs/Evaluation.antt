-- Terms of a fitting system evaluate inside their sorts, and known values agree with them.
use Rattle.std.specs.Prelude.{◌≡◌, ℕ, ◌<◌, true, List, map, Some, None, Option, slice_index_or}
use Rattle.definitions.specs.Lists.{at}
use Rattle.definitions.specs.Alg.{Alg, Lawful, within}
use Rattle.definitions.specs.Systems.{Term, System}
use Rattle.definitions.specs.ReadSystem.{Scope}
use Rattle.definitions.specs.Values.{known, value_of, values_of}
use Rattle.definitions.specs.Fits.{Fits, TermsFit, SystemFits}
use Rattle.definitions.specs.Truth.{Instance, size_of}
use Rattle.definitions.specs.Reach.{ReachedInstance}
use Rattle.theorems.specs.PassLaws.{InRange}

-- values in the ranges of sorts
abbrev pub Ranges : Alg → List ℕ → List ℕ → Type 0
Ranges a ss vs = within (map (size_of a) ss) vs ≡ true

-- a value of the sort
pub record Valued (a : Alg) (s : ℕ) (o : Option ℕ) : Type 0 where
  pub it : ℕ
  pub is : o ≡ Some it
  pub size : ℕ
  pub sized : a.size s ≡ Some size
  pub low : it < size

abbrev pub TermsEvaluateInSort : Type 0
TermsEvaluateInSort = (a : Alg) → Lawful a → (c : Scope) (ps vs : List ℕ) → Ranges a c.parameters ps → Ranges a c.variables vs →
    (d s : ℕ) (t : Term) → Fits a c d s t → Valued a s (value_of a ps vs t)

-- arguments that fit land in the sorts of the parameters
abbrev pub ArgumentsLandInSorts : Type 0
ArgumentsLandInSorts = (a : Alg) → Lawful a → (c : Scope) (ps vs : List ℕ) → Ranges a c.parameters ps → Ranges a c.variables vs →
    (ss : List ℕ) (ts : List Term) → TermsFit a c ss ts → Ranges a ss (values_of a ps vs ts)

abbrev pub ReachedInstancesInRange : Type 0
ReachedInstancesInRange = (a : Alg) → Lawful a → (s : System) → SystemFits a s → (x : Instance) → ReachedInstance a s x → InRange a s x

-- a known value is the value under every completion: all parameters, and any values of the quantified variables
abbrev pub KnownValuesAgree : Type 0
KnownValuesAgree = (a : Alg) (ks : List (Option ℕ)) (ps vs : List ℕ) → ((k v : ℕ) → slice_index_or ks k None ≡ Some v → at ps k ≡ Some v) →
    (t : Term) (v : ℕ) → known a ks t ≡ Some v → value_of a ps vs t ≡ Some v
