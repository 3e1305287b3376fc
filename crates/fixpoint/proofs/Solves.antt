-- A solution gives each instance what its body says, and leaves alone what is in no block.
use mathlib.Core.Path.{◌≡◌, refl, sym, ◌∙◌, ap}
use mathlib.Core.Bool.{Bool, true, false, ◌||◌, true≢false, false≢true}
use mathlib.Core.List.{List, [], ◌∷◌, ◌++◌}
use Rattle.definitions.specs.Solution.{Block, edge}
use Rattle.definitions.specs.Order.{Order, Monotone, Enough}
use Rattle.definitions.specs.Fits.{Every}
use Rattle.definitions.specs.Nested.{solve, outer}
use Rattle.fixpoint.specs.Laws.{in_blocks, GivesBack, SolutionGivenBack}
use Rattle.fixpoint.proofs.Rounds.{after_outside, cond_true}
use Rattle.fixpoint.proofs.Signs.{sign_back, op_mono}

pub or_left : (p q : Bool) → p ≡ true → (p || q) ≡ true
or_left p q h = ap (λ z. z || q) h

pub or_right : (p q : Bool) → q ≡ true → (p || q) ≡ true
or_right true q h = refl
or_right false q h = h

pub nor_left : (p q : Bool) → (p || q) ≡ false → p ≡ false
nor_left true q h = h
nor_left false q h = refl

pub nor_right : (p q : Bool) → (p || q) ≡ false → q ≡ false
nor_right true q h = absurd (true≢false h)
nor_right false q h = h

pub or_first : (p q : Bool) → (p || q) ≡ true → q ≡ false → p ≡ true
or_first true q h k = refl
or_first false q h k = absurd (true≢false (sym h ∙ k))

pub solve_outside : {I V : Type 0} (O : Order V) (body : (I → V) → I → V) (bs : List (Block I)) (e : I → V) (x : I) →
    in_blocks bs x ≡ false → solve O body bs e x ≡ e x
solve_outside O body [] e x h = refl
solve_outside O body (b ∷ bs) e x h =
    solve_outside O body bs (outer O body b bs e) x (nor_right (b.inside x) (in_blocks bs x) h) ∙
    after_outside (edge O.bot O.top b.sign) b (λ f. body (solve O body bs f)) e b.rounds x (nor_left (b.inside x) (in_blocks bs x) h)

pub solves : {I V : Type 0} (O : Order V) (body : (I → V) → I → V) → Monotone O body →
    (bs : List (Block I)) → Every (Enough O) bs → (e : I → V) → GivesBack body bs (solve O body bs e)
solves O body m [] n e x h = absurd (false≢true h)
solves {I} {V} O body m (b ∷ bs) n e x h = by_place (in_blocks bs x) refl (solves O body m bs n.1 (outer O body b bs e) x)
  where
    T : I → V
    T = outer O body b bs e

    by_place : (q : Bool) → in_blocks bs x ≡ q → (in_blocks bs x ≡ true → solve O body bs T x ≡ body (solve O body bs T) x) →
        solve O body bs T x ≡ body (solve O body bs T) x
    by_place true p ih = ih p
    by_place false p ih =
        solve_outside O body bs T x p ∙
        sym (ap (λ f. f x) (sign_back O b (λ u. body (solve O body bs u)) (op_mono O body m bs) e b.sign n.0)) ∙
        cond_true (b.inside x) (body (solve O body bs T) x) (e x) (or_first (b.inside x) (in_blocks bs x) h p)

pub given_back : (I V : Type 0) → SolutionGivenBack I V
given_back I V = solves

pub in_mid : {I : Type 0} (pre : List (Block I)) (c : Block I) (post : List (Block I)) (x : I) → c.inside x ≡ true →
    in_blocks (pre ++ (c ∷ post)) x ≡ true
in_mid [] c post x h = or_left (c.inside x) (in_blocks post x) h
in_mid (b ∷ pre) c post x h = or_right (b.inside x) (in_blocks (pre ++ (c ∷ post)) x) (in_mid pre c post x h)
