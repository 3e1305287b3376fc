-- The solution by rounds is the one that the round-free definition has.
use mathlib.Core.Path.{◌≡◌, refl, sym, ◌∙◌, ap, fun_ext}
use mathlib.Core.List.{List, [], ◌∷◌}
use Rattle.definitions.specs.Solution.{Block, put}
use Rattle.definitions.specs.Order.{Order, toward, Monotone, Enough}
use Rattle.definitions.specs.Fits.{Every}
use Rattle.definitions.specs.Nested.{solve, outer, IsSolution}
use Rattle.fixpoint.specs.Laws.{AtMostOneSolution, RoundsFindSolution}
use Rattle.fixpoint.proofs.Signs.{sign_back, sign_least, op_mono}
use Rattle.fixpoint.proofs.Rounds.{antisym, le_eq}

pub one : {I V : Type 0} (O : Order V) (body : (I → V) → I → V) (bs : List (Block I)) (e s s' : I → V) →
    IsSolution O body bs e s → IsSolution O body bs e s' → s ≡ s'
one O body [] e s s' p q = sym p ∙ q
one {I} {V} O body (b ∷ bs) e s s' t t' = go (fun_ext (λ f. one O body bs f (t.inner f) (t'.inner f) (t.inner_solution f) (t'.inner_solution f)))
  where
    go : t.inner ≡ t'.inner → s ≡ s'
    go p =
        let h : t.truths ≡ t'.truths =
        fun_ext (λ x. antisym (toward b.sign O)
        (t.extreme t'.truths (ap (λ (R : (I → V) → I → V). put b (body (R t'.truths)) e) p ∙ t'.given_back) x)
        (t'.extreme t.truths (ap (λ (R : (I → V) → I → V). put b (body (R t.truths)) e) (sym p) ∙ t.given_back) x))
        in sym t.whole ∙ ap (λ (R : (I → V) → I → V). R t.truths) p ∙ ap t'.inner h ∙ t'.whole

pub found : {I V : Type 0} (O : Order V) (body : (I → V) → I → V) → Monotone O body →
    (bs : List (Block I)) → Every (Enough O) bs → (e : I → V) → IsSolution O body bs e (solve O body bs e)
found O body m [] n e = refl
found O body m (b ∷ bs) n e =
    record {
      inner = solve O body bs;
      inner_solution = found O body m bs n.1;
      truths = outer O body b bs e;
      given_back = sign_back O b (λ u. body (solve O body bs u)) (op_mono O body m bs) e b.sign n.0;
      extreme = λ g h. sign_least O b (λ u. body (solve O body bs u)) (op_mono O body m bs) e b.sign b.rounds g
          (λ x. le_eq (toward b.sign O) (ap (λ f. f x) h));
      whole = refl;
    }

pub at_most_one : (I V : Type 0) → AtMostOneSolution I V
at_most_one I V = one

pub rounds_find : (I V : Type 0) → RoundsFindSolution I V
rounds_find I V = found
