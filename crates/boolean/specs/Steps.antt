-- The truths of variables, and of a body where it is read.
use Rattle.std.specs.Prelude.{ℕ, Bool, false, List, slice_index_or}
use Rattle.definitions.specs.Reading.{Step, next, stop, Reader}
use Rattle.definitions.specs.Boolean.{said, read_token}

-- the truths of the variables as an assignment
abbrev pub assigned : List Bool → ℕ → Bool
assigned ts j = slice_index_or ts j false

-- a step with g of its value
abbrev pub mapped : {X Y : Type 0} → (X → Y) → Step X → Step Y
mapped g (next x q) = next (g x) q
mapped g (stop r q) = stop r q

-- the truth of a body of depth at most d, over n variables with the truths h
abbrev pub read_said : ℕ → ℕ → (ℕ → Bool) → Reader Bool
read_said n d h f p = mapped (λ b. said b h) (read_token n d f p)
