-- Blocks of neighbouring ranks of one sign, and one sweep over a block.
use Rattle.std.specs.Prelude.{◌≡◌, ℕ, zero, suc, ◌+◌, ◌-◌, ◌<◌, ◌≤◌, Bool, true, false, ◌⊎◌, List, [], ◌∷◌, map, length, Some, None, Option, ◌==◌, ◌≢◌, nat_eq, slice_index, slice_index_or, slice_set}
use Rattle.definitions.specs.Lists.{at, some, keep, from, is_some, up_to}
use Rattle.definitions.specs.Solution.{Block}
use Rattle.definitions.specs.Order.{Order, Le, toward, dual, Below}
use Rattle.definitions.specs.Order as order
use Rattle.definitions.specs.Nested.{solve}
use Rattle.definitions.specs.Reading.{Reading, got, bad}
use Rattle.definitions.specs.Boolean.{Variable, body_at, rank_of, sign_of_rank, rank_block, used_ranks, boolean_reading}
use Rattle.rows.specs.Listed.{listed}
use Rattle.system.specs.declared.header.Sign.{Sign as KeptSign}
use Rattle.system.specs.declared.header.Sign.TheVariants.{Least, Greatest}
use Rattle.system.specs.Files.{kept_sign}
use Rattle.boolean.specs.declared.blocks.Blocks.{Blocks}
use Rattle.boolean.specs.Steps.{assigned}

-- the variables of an accepted file
abbrev pub variables_by : Reading (List Variable) → List Variable
variables_by (got vs) = vs
variables_by (bad r p) = []

unfoldable pub variables_of : List ℕ → List Variable
variables_of f = variables_by (boolean_reading f)

abbrev pub variable_body : List Variable → (ℕ → Bool) → ℕ → Bool
variable_body vs f k = body_at (at vs k) f

-- the signs of the ranks are those of the variables
pub record Signed (vs : List Variable) (ss : List (Option KeptSign)) : Type 0 where
  pub used : (r : ℕ) → r < 32 → is_some (slice_index_or ss r None) ≡ some (λ (v : Variable). nat_eq v.rank r) vs
  pub sign : (r : ℕ) (s : KeptSign) → r < 32 → slice_index_or ss r None ≡ Some s → sign_of_rank (rank_of vs r) ≡ kept_sign s
  pub small : (i : ℕ) (v : Variable) → at vs i ≡ Some v → v.rank < 32

-- the block of a variable is k, where bs has the block of each rank
abbrev pub in_block : Option Variable → List ℕ → ℕ → Bool
in_block None bs k = false
in_block (Some v) bs k = slice_index bs v.rank == k

abbrev pub block_at : List Variable → List ℕ → ℕ → KeptSign → Block ℕ
block_at vs bs k s = record { sign = kept_sign s; inside = λ j. in_block (at vs j) bs k; rounds = length vs }

-- the blocks below k, the outermost first
abbrev pub blocks_below : List Variable → List ℕ → List KeptSign → ℕ → List (Block ℕ)
blocks_below vs bs ss zero = []
blocks_below vs bs ss (suc k) = block_at vs bs k (slice_index_or ss k Least) ∷ blocks_below vs bs ss k

abbrev pub blocks_of : List Variable → Blocks → ℕ → List (Block ℕ)
blocks_of vs b k = blocks_below vs b.ranks (listed b.signs) k

-- the blocks have the solution that the ranks have
abbrev pub SolvedAlike : List Variable → Blocks → Type 0
SolvedAlike vs b = (e : ℕ → Bool) → solve order.truths (variable_body vs) (map (rank_block vs) (used_ranks vs)) e ≡ solve order.truths (variable_body vs) (blocks_of vs b (length (listed b.signs))) e

-- is a rank used
abbrev pub used_by : List Variable → ℕ → Bool
used_by vs r = some (λ (v : Variable). nat_eq v.rank r) vs

-- the ranks from 32 - k on have come to blocks
pub record Merged (ss : List (Option KeptSign)) (k : ℕ) (all : Blocks) : Type 0 where
  pub long_ranks : length all.ranks ≡ 32
  pub few : length (listed all.signs) ≤ k
  pub free : (r : ℕ) → r + k < 32 → slice_index all.ranks r ≡ 32
  pub placed : (r : ℕ) → r < 32 → (slice_index all.ranks r ≡ 32) ⊎ (slice_index all.ranks r < length (listed all.signs))
  pub alike : (vs : List Variable) → Signed vs ss → (e : ℕ → Bool) →
      solve order.truths (variable_body vs) (map (rank_block vs) (keep (used_by vs) (from (32 - k) k))) e ≡ solve order.truths (variable_body vs) (blocks_of vs all (length (listed all.signs))) e

-- the order in which the truths of a block move
abbrev pub moving : KeptSign → Order Bool
moving s = toward (kept_sign s) order.truths

-- the truth that they move to
abbrev pub moves_to : KeptSign → Bool
moves_to Least = true
moves_to Greatest = false

-- the variable v is visited: it takes the truth t where its body says so
abbrev pub Visited : Bool → ((ℕ → Bool) → ℕ → Bool) → (ℕ → Bool) → ℕ → List Bool → List Bool → Bool → Type 0
Visited t body inside v ts ts' false = (ts' ≡ ts) × (inside v ≡ true → body (assigned ts) v ≡ t → assigned ts v ≡ t)
Visited t body inside v ts ts' true = (ts' ≡ slice_set ts v t) × ((inside v ≡ true) × ((body (assigned ts) v ≡ t) × (assigned ts v ≢ t)))

-- h' comes of h by a sweep over the variables of a block from n on: their truths only move, none beyond what holds its bodies,
-- and nothing moved only where the bodies do not move them further
pub record Swept (s : KeptSign) (body : (ℕ → Bool) → ℕ → Bool) (inside : ℕ → Bool) (n : ℕ) (h h' : ℕ → Bool) (changed : Bool) : Type 0 where
  pub outside : (x : ℕ) → inside x ≡ false → h' x ≡ h x
  pub moves : Below (moving s) h h'
  pub sound : (g : ℕ → Bool) → Below (moving s) h g → ((x : ℕ) → inside x ≡ true → Le (moving s) (body g x) (g x)) → Below (moving s) h' g
  pub rests : changed ≡ false → (h' ≡ h) × ((x : ℕ) → n ≤ x → inside x ≡ true → Le (moving s) (body h x) (h x))
  pub changes : changed ≡ true → (x : ℕ) × ((inside x ≡ true) × (h x ≢ h' x))

abbrev pub members : List Variable → List ℕ → ℕ → List ℕ
members vs bs k = keep (λ j. in_block (at vs j) bs k) (up_to (length vs))
