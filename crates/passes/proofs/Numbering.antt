-- How many a mask keeps, and the new number of what stays.
use Rattle.std.proofs.Common.{◌≡◌, ◌≢◌, ℕ, zero, suc, ◌≤◌, Bool, true, false, cond, List, [], ◌∷◌, map, length, take, slice_index, slice_index_or, MatchBool, refl, ap, ◌∙◌, arith}
use Rattle.std.specs.List.{filter}
use Rattle.definitions.specs.Lists.{strike, place}
use Rattle.passes.specs.declared.plan.ParameterChange.{ParameterChange}
use Rattle.passes.specs.declared.plan.ParameterChange.TheVariants.{Stays, Goes, Becomes}
use Rattle.passes.specs.declared.plan.EquationChange.{EquationChange}
use Rattle.passes.specs.declared.plan.EquationChange.TheVariants as equation
use Rattle.definitions.specs.Systems.{Kind, parameter, value}
use Rattle.passes.specs.declared.plan.Change.{Change}
use Rattle.passes.specs.Planned.{stays, remains, mask, kind_by}

-- as many as are kept of the first n
pub kept_of_first : {A : Type 0} (f : A → Bool) (xs : List A) (n : ℕ) → length (filter f (take n xs)) ≡ place (map f xs) n
kept_of_first f [] zero = refl
kept_of_first f (x ∷ xs) zero = refl
kept_of_first f [] (suc n) = refl
kept_of_first {A} f (x ∷ xs) (suc n) = go (f x) (kept_of_first f xs n)
  where
    go : (b : Bool) → length (filter f (take n xs)) ≡ place (map f xs) n → length (cond b (x ∷ filter f (take n xs)) (filter f (take n xs))) ≡ place (b ∷ map f xs) (suc n)
    go true h = ap suc h
    go false h = h

-- as many are kept as are counted
pub struck_long : {A : Type 0} (ms : List Bool) (xs : List A) → length (strike ms xs) ≡ place ms (length xs)
struck_long [] xs = refl
struck_long (m ∷ ms) [] = refl
struck_long (true ∷ ms) (x ∷ xs) = ap suc (struck_long ms xs)
struck_long (false ∷ ms) (x ∷ xs) = struck_long ms xs

pub place_few : (ms : List Bool) (n : ℕ) → place ms n ≤ length ms
place_few [] n = omega arith
place_few (m ∷ ms) zero = omega arith
place_few (true ∷ ms) (suc n) = let h = place_few ms n in omega arith
place_few (false ∷ ms) (suc n) = let h = place_few ms n in omega arith

pub stays_same : (b : Bool) (p : ParameterChange) → MatchBool b (p ≡ Stays) (p ≢ Stays) → b ≡ stays p
stays_same true Stays h = refl
stays_same true Goes h = absurd cc
stays_same true (Becomes v) h = absurd cc
stays_same false Stays h = absurd (h refl)
stays_same false Goes h = refl
stays_same false (Becomes v) h = refl

pub remains_same : (b : Bool) (p : EquationChange) → MatchBool b (p ≢ equation.Goes) (p ≡ equation.Goes) → b ≡ remains p
remains_same false equation.Stays h = absurd cc
remains_same false equation.Bare h = absurd cc
remains_same false equation.Goes h = refl
remains_same true equation.Stays h = refl
remains_same true equation.Bare h = refl
remains_same true equation.Goes h = absurd (h refl)

module _ (ss : List ℕ) (c : Change) (n : ℕ) where
  abbrev kind_at : ParameterChange → Kind
  kind_at (Becomes v) = value (slice_index ss n) v
  kind_at Stays = parameter (place (mask c) n)
  kind_at Goes = parameter (place (mask c) n)

  kind_is : (p : ParameterChange) → slice_index_or c.parameters n Goes ≡ p → kind_by ss c n ≡ kind_at p
  kind_is p e = go (slice_index_or c.parameters n Goes) ∙ ap kind_at e
    where
      go : (p : ParameterChange) → elim p [ Becomes v ↦ value (slice_index ss n) v | Stays ↦ parameter (place (mask c) n) | Goes ↦ parameter (place (mask c) n) ] ≡ kind_at p
      go Stays = refl
      go Goes = refl
      go (Becomes v) = refl

  -- a parameter with a value
  pub kind_becomes : (v : ℕ) → slice_index_or c.parameters n Goes ≡ Becomes v → kind_by ss c n ≡ value (slice_index ss n) v
  kind_becomes v e = kind_is (Becomes v) e

  -- one with none
  pub kind_numbered : (p : ParameterChange) → slice_index_or c.parameters n Goes ≡ p → ((v : ℕ) → p ≡ Becomes v → ⊥) → kind_by ss c n ≡ parameter (place (mask c) n)
  kind_numbered Stays e others = kind_is Stays e
  kind_numbered Goes e others = kind_is Goes e
  kind_numbered (Becomes v) e others = absurd (others v refl)
