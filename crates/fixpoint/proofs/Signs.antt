-- The laws of one block for either sign, and monotone solutions.
use Prim.Native.Nat.{ℕ, ◌+◌}
use mathlib.Core.Path.{◌≡◌, ap}
use mathlib.Core.List.{List, [], ◌∷◌}
use Rattle.definitions.specs.Solution.{Sign, least, greatest, Block, edge, put, settled}
use Rattle.definitions.specs.Order.{Order, dual, toward, Below, Monotone, Enough}
use Rattle.definitions.specs.Nested.{solve, outer}
use Rattle.fixpoint.specs.Laws.{BlocksExtreme, SolutionsMonotone}
use Rattle.fixpoint.proofs.Rounds.{le_eq, step, after, settled_mono, after_least, more_rounds, settled_back}

pub mono_dual : {I J V : Type 0} (O : Order V) (F : (I → V) → J → V) → Monotone O F → Monotone (dual O) F
mono_dual O F m f g h = m g f h

pub mono_toward : {I J V : Type 0} (s : Sign) (O : Order V) (F : (I → V) → J → V) → Monotone O F → Monotone (toward s O) F
mono_toward least O F m = m
mono_toward greatest O F m = mono_dual O F m

pub enough_dual : {I V : Type 0} (O : Order V) (b : Block I) → Enough O b → Enough (dual O) b
enough_dual O b n = record { members = n.members; all = n.all; rounds_le = n.rounds_le }

module _ {I V : Type 0} (O : Order V) (b : Block I) (op : (I → V) → I → V) (mono : Monotone O op) (e : I → V) where
  pub sign_least : (s : Sign) (n : ℕ) (g : I → V) → Below (toward s O) (step b op e g) g →
      Below (toward s O) (after (edge O.bot O.top s) b op e n) g
  sign_least least n g h = after_least O b op mono e n g h
  sign_least greatest n g h = after_least (dual O) b op (mono_dual O op mono) e n g h

  pub sign_more : (s : Sign) → Enough O b → (d : ℕ) →
      after (edge O.bot O.top s) b op e (b.rounds + d) ≡ settled (edge O.bot O.top s) b op e
  sign_more least n d = more_rounds O b op mono e n d
  sign_more greatest n d = more_rounds (dual O) b op (mono_dual O op mono) e (enough_dual O b n) d

  pub sign_back : (s : Sign) → Enough O b →
      step b op e (settled (edge O.bot O.top s) b op e) ≡ settled (edge O.bot O.top s) b op e
  sign_back least n = settled_back O b op mono e n
  sign_back greatest n = settled_back (dual O) b op (mono_dual O op mono) e (enough_dual O b n)

pub solve_mono : {I V : Type 0} (O : Order V) (body : (I → V) → I → V) → Monotone O body →
    (bs : List (Block I)) → Monotone O (solve O body bs)
solve_mono O body m [] f g h = h
solve_mono O body m (b ∷ bs) f g h =
    solve_mono O body m bs (outer O body b bs f) (outer O body b bs g)
    (settled_mono O (edge O.bot O.top b.sign) b (λ u. body (solve O body bs u))
    (λ u v k. m (solve O body bs u) (solve O body bs v) (solve_mono O body m bs u v k)) f g h)

pub op_mono : {I V : Type 0} (O : Order V) (body : (I → V) → I → V) → Monotone O body → (bs : List (Block I)) →
    Monotone O (λ (u : I → V). body (solve O body bs u))
op_mono O body m bs u v k = m (solve O body bs u) (solve O body bs v) (solve_mono O body m bs u v k)

pub extreme : (I V : Type 0) → BlocksExtreme I V
extreme I V O body m b bs e n =
    record {
      given_back = sign_back O b (λ u. body (solve O body bs u)) (op_mono O body m bs) e b.sign n;
      extreme = above;
      extreme_given_back = λ g h. above g (λ x. le_eq (toward b.sign O) (ap (λ f. f x) h));
      more_rounds = sign_more O b (λ u. body (solve O body bs u)) (op_mono O body m bs) e b.sign n;
    }
  where
    above : (g : I → V) → Below (toward b.sign O) (put b (body (solve O body bs g)) e) g → Below (toward b.sign O) (outer O body b bs e) g
    above = sign_least O b (λ u. body (solve O body bs u)) (op_mono O body m bs) e b.sign b.rounds

pub monotone : (I V : Type 0) → SolutionsMonotone I V
monotone I V = solve_mono
