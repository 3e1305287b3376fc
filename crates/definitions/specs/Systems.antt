-- Terms, equations and systems.
use Rattle.std.specs.Prelude.{ℕ, List, [], ◌∷◌}
use Rattle.definitions.specs.Solution.{Sign}

pub data Kind : Type 0 where
  parameter variable : ℕ → Kind
  value : ℕ → ℕ → Kind
  operation : ℕ → Kind
  not and or equal : Kind

-- a term is a kind with its parts
mutual
  pub data Term : Type 0 where
    node : Kind → Terms → Term

  pub data Terms : Type 0 where
    none : Terms
    more : Term → Terms → Terms

-- what a rule for a kind and what its parts came to makes of a whole term
abbrev mutual
  pub fold : {X : Type 0} → Term → (Kind → List X → X) → X
  fold (node k ts) f = f k (folds ts f)

  pub folds : {X : Type 0} → Terms → (Kind → List X → X) → List X
  folds none f = []
  folds (more t ts) f = fold t f ∷ folds ts f

abbrev pub terms : List Term → Terms
terms [] = none
terms (t ∷ ts) = more t (terms ts)

-- a term of a kind with parts in a list
abbrev pub term : Kind → List Term → Term
term k ts = node k (terms ts)

pub data Quantifier : Type 0 where
  exists forall : Quantifier

pub record Quantified : Type 0 where
  pub quantifier : Quantifier
  pub sort : ℕ

pub record Occurrence : Type 0 where
  pub target : ℕ
  pub arguments : List Term

-- the guard implies one of the occurrences
pub record Clause : Type 0 where
  pub guard : Term
  pub occurrences : List Occurrence

pub record Equation : Type 0 where
  pub sign : Sign
  pub sorts : List ℕ
  pub quantified : List Quantified
  pub h : Term
  pub clauses : List Clause

pub record System : Type 0 where
  pub equations : List Equation
  pub start : ℕ
  pub values : List ℕ
