-- The laws of the solution of a ranked system. Each stands twice: over every relation, as the proofs use it, and for given
-- types of indices and values, with relations by Boolean tests, as a contract can promise it.
use Rattle.std.specs.Prelude.{ℕ, ◌+◌, ◌≡◌, Bool, true, false, ◌||◌, List, [], ◌∷◌, ◌++◌, map, ◌⊎◌}
use Rattle.std.proofs.Math.Bool.{So}
use Rattle.std.proofs.Common.{inl, inr}
use Rattle.definitions.specs.Fits.{Every}
use Rattle.definitions.specs.Solution.{Block, iter, edge, put}
use Rattle.definitions.specs.Order.{Order, toward, Below, Monotone, Enough}
use Rattle.definitions.specs.Nested.{IsSolution, solve, outer}

-- The truths of a block are given back by its bodies; they are the least (greatest) among all assignments that lie above
-- (below) what the bodies give, those given back among them; and more rounds change nothing.
pub record Extreme {I V : Type 0} (O : Order V) (body : (I → V) → I → V) (b : Block I) (bs : List (Block I)) (e : I → V) : Type 0 where
  pub given_back : put b (body (solve O body bs (outer O body b bs e))) e ≡ outer O body b bs e
  pub extreme : (g : I → V) → Below (toward b.sign O) (put b (body (solve O body bs g)) e) g →
      Below (toward b.sign O) (outer O body b bs e) g
  pub extreme_given_back : (g : I → V) → put b (body (solve O body bs g)) e ≡ g → Below (toward b.sign O) (outer O body b bs e) g
  pub more_rounds : (d : ℕ) →
      iter (b.rounds + d) (λ f. put b (body (solve O body bs f)) e) (put b (λ _. edge O.bot O.top b.sign) e) ≡ outer O body b bs e

abbrev pub BlocksExtreme : (I V : Type 0) → Type 0
BlocksExtreme I V =
    (O : Order V) (body : (I → V) → I → V) → Monotone O body →
    (b : Block I) (bs : List (Block I)) (e : I → V) → Enough O b → Extreme O body b bs e

-- higher environments give higher solutions
abbrev pub SolutionsMonotone : (I V : Type 0) → Type 0
SolutionsMonotone I V = (O : Order V) (body : (I → V) → I → V) → Monotone O body → (bs : List (Block I)) → Monotone O (solve O body bs)

-- there is exactly one solution, and the rounds find it
abbrev pub AtMostOneSolution : (I V : Type 0) → Type 0
AtMostOneSolution I V =
    (O : Order V) (body : (I → V) → I → V) (bs : List (Block I)) (e s s' : I → V) →
    IsSolution O body bs e s → IsSolution O body bs e s' → s ≡ s'

abbrev pub RoundsFindSolution : (I V : Type 0) → Type 0
RoundsFindSolution I V =
    (O : Order V) (body : (I → V) → I → V) → Monotone O body →
    (bs : List (Block I)) → Every (Enough O) bs → (e : I → V) → IsSolution O body bs e (solve O body bs e)

-- in one of the blocks
abbrev pub in_blocks : {I : Type 0} → List (Block I) → I → Bool
in_blocks [] x = false
in_blocks (b ∷ bs) x = b.inside x || in_blocks bs x

-- each index of the blocks has the truth that its body gives
abbrev pub GivesBack : {I V : Type 0} → ((I → V) → I → V) → List (Block I) → (I → V) → Type 0
GivesBack {I} body bs f = (x : I) → in_blocks bs x ≡ true → f x ≡ body f x

abbrev pub SolutionGivenBack : (I V : Type 0) → Type 0
SolutionGivenBack I V =
    (O : Order V) (body : (I → V) → I → V) → Monotone O body →
    (bs : List (Block I)) → Every (Enough O) bs → (e : I → V) → GivesBack body bs (solve O body bs e)

-- two assignments agree on the related pairs
abbrev pub Agree : {I J V W : Type 0} → (V → W → Type 0) → (I → J → Type 0) → (I → V) → (J → W) → Type 0
Agree {I} {J} ρ rel f g = (i : I) (j : J) → rel i j → ρ (f i) (g j)

-- blocks in order, each matched with one of its sign, or left out where no pair touches it
pub data Matched {I J : Type 0} (rel : I → J → Type 0) : List (Block I) → List (Block J) → Type 0 where
  done : Matched rel [] []
  both : {b : Block I} {c : Block J} {bs : List (Block I)} {cs : List (Block J)} → b.sign ≡ c.sign →
      ((i : I) (j : J) → rel i j → b.inside i ≡ c.inside j) → Matched rel bs cs → Matched rel (b ∷ bs) (c ∷ cs)
  left : {b : Block I} {bs : List (Block I)} {cs : List (Block J)} →
      ((i : I) (j : J) → rel i j → b.inside i ≡ false) → Matched rel bs cs → Matched rel (b ∷ bs) cs
  right : {c : Block J} {bs : List (Block I)} {cs : List (Block J)} →
      ((i : I) (j : J) → rel i j → c.inside j ≡ false) → Matched rel bs cs → Matched rel bs (c ∷ cs)

-- Two systems whose bodies agree on related indices, wherever assignments do, have solutions that agree on them.
abbrev pub Transfer : {I J V W : Type 0} (O : Order V) (P : Order W) (ρ : V → W → Type 0) (rel : I → J → Type 0) → Type 0
Transfer {I} {J} {V} {W} O P ρ rel =
    ρ O.bot P.bot → ρ O.top P.top →
    (body : (I → V) → I → V) (body' : (J → W) → J → W) → Monotone O body → Monotone P body' →
    ((f : I → V) (g : J → W) → Agree ρ rel f g → Agree ρ rel (body f) (body' g)) →
    (bs : List (Block I)) (cs : List (Block J)) → Every (Enough O) bs → Every (Enough P) cs → Matched rel bs cs →
    (e : I → V) (e' : J → W) → Agree ρ rel e e' → Agree ρ rel (solve O body bs e) (solve P body' cs e')

abbrev pub TransferOfRelations : Type 1
TransferOfRelations = (I J V W : Type 0) (O : Order V) (P : Order W) (ρ : V → W → Type 0) (rel : I → J → Type 0) → Transfer O P ρ rel

abbrev pub TransferOfTests : (I J V W : Type 0) → Type 0
TransferOfTests I J V W = (O : Order V) (P : Order W) (ρ : V → W → Bool) (rel : I → J → Bool) → Transfer O P (λ a b. So (ρ a b)) (λ i j. So (rel i j))

-- the same for equal truths, which in general no test decides
abbrev pub TransferOfEquals : (I J V : Type 0) → Type 0
TransferOfEquals I J V = (O : Order V) (rel : I → J → Bool) → Transfer O O (λ a b. a ≡ b) (λ i j. So (rel i j))

-- As `Matched`, and at each matched pair of blocks the bodies need to agree only at assignments that agree
-- and that give the blocks behind these back.
pub data Coupled {I J V W : Type 0} (ρ : V → W → Type 0) (rel : I → J → Type 0) (body : (I → V) → I → V) (body' : (J → W) → J → W) :
    List (Block I) → List (Block J) → Type 0 where
  done : Coupled ρ rel body body' [] []
  both : {b : Block I} {c : Block J} {bs : List (Block I)} {cs : List (Block J)} → b.sign ≡ c.sign →
      ((i : I) (j : J) → rel i j → b.inside i ≡ c.inside j) →
      ((f : I → V) (g : J → W) → Agree ρ rel f g → GivesBack body bs f → GivesBack body' cs g →
      (i : I) (j : J) → rel i j → b.inside i ≡ true → ρ (body f i) (body' g j)) →
      Coupled ρ rel body body' bs cs → Coupled ρ rel body body' (b ∷ bs) (c ∷ cs)
  left : {b : Block I} {bs : List (Block I)} {cs : List (Block J)} →
      ((i : I) (j : J) → rel i j → b.inside i ≡ false) → Coupled ρ rel body body' bs cs → Coupled ρ rel body body' (b ∷ bs) cs
  right : {c : Block J} {bs : List (Block I)} {cs : List (Block J)} →
      ((i : I) (j : J) → rel i j → c.inside j ≡ false) → Coupled ρ rel body body' bs cs → Coupled ρ rel body body' bs (c ∷ cs)

abbrev pub Coupling : {I J V W : Type 0} (O : Order V) (P : Order W) (ρ : V → W → Type 0) (rel : I → J → Type 0) → Type 0
Coupling {I} {J} {V} {W} O P ρ rel =
    ρ O.bot P.bot → ρ O.top P.top →
    (body : (I → V) → I → V) (body' : (J → W) → J → W) → Monotone O body → Monotone P body' →
    (bs : List (Block I)) (cs : List (Block J)) → Every (Enough O) bs → Every (Enough P) cs → Coupled ρ rel body body' bs cs →
    (e : I → V) (e' : J → W) → Agree ρ rel e e' → Agree ρ rel (solve O body bs e) (solve P body' cs e')

abbrev pub CouplingOfRelations : Type 1
CouplingOfRelations = (I J V W : Type 0) (O : Order V) (P : Order W) (ρ : V → W → Type 0) (rel : I → J → Type 0) → Coupling O P ρ rel

abbrev pub CouplingOfTests : (I J V W : Type 0) → Type 0
CouplingOfTests I J V W = (O : Order V) (P : Order W) (ρ : V → W → Bool) (rel : I → J → Bool) → Coupling O P (λ a b. So (ρ a b)) (λ i j. So (rel i j))

-- two blocks as one
abbrev pub join : {I : Type 0} → Block I → Block I → Block I
join b c = record { sign = b.sign; inside = λ x. b.inside x || c.inside x; rounds = b.rounds + c.rounds }

-- neighbours of one sign are one block, and may change places, behind any other blocks
abbrev pub NeighboursMerge : (I V : Type 0) → Type 0
NeighboursMerge I V =
    (O : Order V) (body : (I → V) → I → V) → Monotone O body →
    (pre : List (Block I)) (b c : Block I) (bs : List (Block I)) → b.sign ≡ c.sign → Enough O b → Enough O c →
    (e : I → V) → solve O body (pre ++ (b ∷ (c ∷ bs))) e ≡ solve O body (pre ++ (join b c ∷ bs)) e

abbrev pub NeighboursExchange : (I V : Type 0) → Type 0
NeighboursExchange I V =
    (O : Order V) (body : (I → V) → I → V) → Monotone O body →
    (pre : List (Block I)) (b c : Block I) (bs : List (Block I)) → b.sign ≡ c.sign → Enough O b → Enough O c →
    (e : I → V) → solve O body (pre ++ (b ∷ (c ∷ bs))) e ≡ solve O body (pre ++ (c ∷ (b ∷ bs))) e

-- a block of a system with further indices of type K
abbrev pub only_old : {I K : Type 0} → (I → Bool) → I ⊎ K → Bool
only_old p (inl i) = p i
only_old p (inr k) = false

abbrev pub widen : {I : Type 0} (K : Type 0) → Block I → Block (I ⊎ K)
widen K b = record { sign = b.sign; inside = only_old b.inside; rounds = b.rounds }

-- New indices `inr k` take the place of nested formulas in bodies of the blocks `pre`: where the new ones hold what their
-- bodies say, the old bodies say what they said. They stand in a block of their own behind `pre`, of either sign. The blocks
-- behind it do not speak of them. Then the old indices keep their truths.
abbrev pub FormulaPulledOut : (I K V : Type 0) → Type 0
FormulaPulledOut I K V =
    (O : Order V) (body : (I → V) → I → V) (body' : (I ⊎ K → V) → I ⊎ K → V) →
    Monotone O body → Monotone O body' →
    (pre post : List (Block I)) (c : Block (I ⊎ K)) → Every (Enough O) pre → Every (Enough O) post → Enough O c →
    ((i : I) → c.inside (inl i) ≡ false) →
    ((g : I ⊎ K → V) → ((k : K) → c.inside (inr k) ≡ true → g (inr k) ≡ body' g (inr k)) →
    (i : I) → in_blocks pre i ≡ true → body (λ x. g (inl x)) i ≡ body' g (inl i)) →
    ((g : I ⊎ K → V) (i : I) → in_blocks post i ≡ true → body (λ x. g (inl x)) i ≡ body' g (inl i)) →
    (e : I → V) (e' : I ⊎ K → V) → ((i : I) → e i ≡ e' (inl i)) →
    (i : I) → solve O body (pre ++ post) e i ≡ solve O body' (map (widen K) pre ++ (c ∷ map (widen K) post)) e' (inl i)
