-- What is known of the terms that stand.
use Rattle.std.specs.Prelude.{◌≡◌, ℕ, Bool, false, List, Some, None, Option, slice_index_or}
use Rattle.definitions.specs.Systems.{Term}
use Rattle.definitions.specs.Passes.{occurs_in}

-- two lists tell the same of every number, none behind their ends
abbrev pub Alike : List (Option ℕ) → List (Option ℕ) → Type 0
Alike xs ys = (n : ℕ) → slice_index_or xs n None ≡ slice_index_or ys n None

-- in no term nothing occurs
abbrev pub occurs_at : ℕ → Option Term → Bool
occurs_at k None = false
occurs_at k (Some t) = occurs_in k t
