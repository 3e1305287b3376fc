-- What the solution of a ranked system is, with no rounds in it: the meaning that a reader is asked to believe.
use Rattle.std.specs.Prelude.{◌≡◌, List, [], ◌∷◌}
use Rattle.definitions.specs.Solution.{Block, edge, put, settled, solution}
use Rattle.definitions.specs.Order.{Order, toward, Below}

-- The indices of the outermost block take the least (greatest) truths that their bodies give back, the inner blocks holding
-- their own solution for these truths; the others are held at `e`, and `s` is the whole assignment.
pub record Outermost {I V : Type 0} (O : Order V) (body : (I → V) → I → V) (b : Block I) (Inner : (I → V) → (I → V) → Type 0) (e s : I → V) : Type 0 where
  pub inner : (I → V) → I → V
  pub inner_solution : (f : I → V) → Inner f (inner f)
  pub truths : I → V
  pub given_back : put b (body (inner truths)) e ≡ truths
  pub extreme : (g : I → V) → put b (body (inner g)) e ≡ g → Below (toward b.sign O) truths g
  pub whole : inner truths ≡ s

-- s is the solution of the blocks, the first outermost, the indices of no block being held at e
abbrev pub IsSolution : {I V : Type 0} → Order V → ((I → V) → I → V) → List (Block I) → (I → V) → (I → V) → Type 0
IsSolution O body [] e s = e ≡ s
IsSolution O body (b ∷ bs) e s = Outermost O body b (IsSolution O body bs) e s

-- the solution by rounds
abbrev pub solve : {I V : Type 0} → Order V → ((I → V) → I → V) → List (Block I) → (I → V) → I → V
solve O body bs e = solution O.bot O.top body bs e

-- the truths of the first block by rounds, the later ones holding their own solution for these and for `e`
abbrev pub outer : {I V : Type 0} → Order V → ((I → V) → I → V) → Block I → List (Block I) → (I → V) → I → V
outer O body b bs e = settled (edge O.bot O.top b.sign) b (λ f. body (solve O body bs f)) e
