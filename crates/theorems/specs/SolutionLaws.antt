-- The truths of a system and of a Boolean system are the solutions of their ranked systems, of which each has exactly one.
use Rattle.std.specs.Prelude.{◌≡◌, ℕ, Bool, false, List, map}
use Rattle.definitions.specs.Lists.{at, map_from}
use Rattle.definitions.specs.Alg.{Alg}
use Rattle.definitions.specs.Systems.{System}
use Rattle.definitions.specs.Order.{Monotone, Enough}
use Rattle.definitions.specs.Order as order
use Rattle.definitions.specs.Nested.{IsSolution}
use Rattle.definitions.specs.Fits.{Every}
use Rattle.definitions.specs.Truth.{Instance, body, block_of, truths}
use Rattle.definitions.specs.Boolean.{Variable, body_at, rank_block, used_ranks}
use Rattle.theorems.specs.ExpandLaws.{variable_truths}

-- of every system, over every algebra
pub record SystemSolved (a : Alg) (s : System) : Type 0 where
  pub monotone : Monotone order.truths (body a s)
  pub rounds_suffice : Every (Enough order.truths) (map_from 0 (block_of a) s.equations)
  pub solution : IsSolution order.truths (body a s) (map_from 0 (block_of a) s.equations) (λ _. false) (truths a s)
  pub only : (t : Instance → Bool) → IsSolution order.truths (body a s) (map_from 0 (block_of a) s.equations) (λ _. false) t → t ≡ truths a s

abbrev pub SystemsSolved : Type 0
SystemsSolved = (a : Alg) (s : System) → SystemSolved a s

abbrev pub variable_body : List Variable → (ℕ → Bool) → ℕ → Bool
variable_body vs f k = body_at (at vs k) f

pub record BooleanSolved (vs : List Variable) : Type 0 where
  pub monotone : Monotone order.truths (variable_body vs)
  pub rounds_suffice : Every (Enough order.truths) (map (rank_block vs) (used_ranks vs))
  pub solution : IsSolution order.truths (variable_body vs) (map (rank_block vs) (used_ranks vs)) (λ _. false) (variable_truths vs)
  pub only : (t : ℕ → Bool) → IsSolution order.truths (variable_body vs) (map (rank_block vs) (used_ranks vs)) (λ _. false) t → t ≡ variable_truths vs

abbrev pub BooleansSolved : Type 0
BooleansSolved = (vs : List Variable) → BooleanSolved vs
