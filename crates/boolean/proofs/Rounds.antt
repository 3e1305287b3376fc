-- The rounds of a block in place: between them the blocks inside are solved again, from whatever truths they have.
use Rattle.std.proofs.Common.{◌≡◌, ℕ, zero, suc, Bool, true, false, ◌||◌, List, [], ◌∷◌, sym, refl, ap, ◌∙◌, subst}
use mathlib.Core.Path.{fun_ext}
use Rattle.definitions.specs.Solution.{Sign, least, greatest, Block, edge, put}
use Rattle.definitions.specs.Order.{Order, Le, toward, Below, Monotone, Enough}
use Rattle.definitions.specs.Fits.{Every}
use Rattle.definitions.specs.Nested.{solve, outer}
use Rattle.fixpoint.specs.Laws.{in_blocks}
use Rattle.fixpoint.proofs.Rounds.{pick, antisym, le_eq, after, after_outside, cond_false, cond_true}
use Rattle.fixpoint.proofs.Signs.{mono_toward, sign_least, op_mono, solve_mono}
use Rattle.fixpoint.proofs.Solves.{solve_outside, solves, or_left}

or_false : (p q : Bool) → p ≡ false → q ≡ false → (p || q) ≡ false
or_false true q h k = h
or_false false q h k = k

module _ {I V : Type 0} (O : Order V) (body : (I → V) → I → V) where
  -- assignments that agree where no block is
  after_held : (v : V) (b : Block I) (bs : List (Block I)) →
      ((f g : I → V) → ((x : I) → in_blocks bs x ≡ false → f x ≡ g x) → solve O body bs f ≡ solve O body bs g) →
      (e e' : I → V) → ((x : I) → in_blocks (b ∷ bs) x ≡ false → e x ≡ e' x) →
      (n : ℕ) (x : I) → in_blocks bs x ≡ false → after v b (λ f. body (solve O body bs f)) e n x ≡ after v b (λ f. body (solve O body bs f)) e' n x
  after_held v b bs same e e' h zero x p = go (b.inside x) refl
    where
      go : (c : Bool) → b.inside x ≡ c → pick (b.inside x) v (e x) ≡ pick (b.inside x) v (e' x)
      go true q = cond_true (b.inside x) v (e x) q ∙ sym (cond_true (b.inside x) v (e' x) q)
      go false q = ap (pick (b.inside x) v) (h x (or_false (b.inside x) (in_blocks bs x) q p))
  after_held v b bs same e e' h (suc n) x p =
      go (ap (λ f. body f x) (same (after v b (λ f. body (solve O body bs f)) e n) (after v b (λ f. body (solve O body bs f)) e' n) (after_held v b bs same e e' h n))) (b.inside x) refl
    where
      go : {a a' : V} → a ≡ a' → (c : Bool) → b.inside x ≡ c → pick (b.inside x) a (e x) ≡ pick (b.inside x) a' (e' x)
      go {a} {a'} k true q = cond_true (b.inside x) a (e x) q ∙ k ∙ sym (cond_true (b.inside x) a' (e' x) q)
      go {a} {a'} k false q = ap (λ z. pick (b.inside x) z (e x)) k ∙ ap (pick (b.inside x) a') (h x (or_false (b.inside x) (in_blocks bs x) q p))

  pub held : (bs : List (Block I)) (e e' : I → V) → ((x : I) → in_blocks bs x ≡ false → e x ≡ e' x) → solve O body bs e ≡ solve O body bs e'
  held [] e e' h = fun_ext (λ x. h x refl)
  held (b ∷ bs) e e' h =
      held bs (outer O body b bs e) (outer O body b bs e')
      (after_held (edge O.bot O.top b.sign) b bs (λ f g k. held bs f g k) e e' h b.rounds)

  below_held : Monotone O body → (s : Sign) (bs : List (Block I)) (f g : I → V) →
      ((x : I) → in_blocks bs x ≡ false → Le (toward s O) (f x) (g x)) → Below (toward s O) (solve O body bs f) (solve O body bs g)
  below_held m s bs f g h =
      subst (λ z. Below (toward s O) z (solve O body bs g))
      (held bs (λ x. pick (in_blocks bs x) (g x) (f x)) f (λ x p. cond_false (in_blocks bs x) (g x) (f x) p))
      (mono_toward s O (solve O body bs) (solve_mono O body m bs) (λ x. pick (in_blocks bs x) (g x) (f x)) g (λ x. go x (in_blocks bs x) refl))
    where
      go : (x : I) (c : Bool) → in_blocks bs x ≡ c → Le (toward s O) (pick (in_blocks bs x) (g x) (f x)) (g x)
      go x true p = le_eq (toward s O) (cond_true (in_blocks bs x) (g x) (f x) p)
      go x false p = subst (λ z. Le (toward s O) z (g x)) (sym (cond_false (in_blocks bs x) (g x) (f x) p)) (h x p)

pub edge_le : {V : Type 0} (O : Order V) (s : Sign) (a : V) → Le (toward s O) (edge O.bot O.top s) a
edge_le O least a = O.bot_le a
edge_le O greatest a = O.le_top a

-- the assignment at the start of a round of the block b, the blocks bs being inside, from the assignment e
pub record Round {I V : Type 0} (O : Order V) (body : (I → V) → I → V) (b : Block I) (bs : List (Block I)) (e f : I → V) : Type 0 where
  pub stays : (x : I) → in_blocks bs x ≡ false → b.inside x ≡ false → f x ≡ e x
  pub below : (x : I) → in_blocks bs x ≡ false → Le (toward b.sign O) (f x) (solve O body (b ∷ bs) e x)

module _ {I V : Type 0} (O : Order V) (body : (I → V) → I → V) (m : Monotone O body) (b : Block I) (bs : List (Block I)) (e : I → V) where
  pub round_start : Round O body b bs e (put b (λ _. edge O.bot O.top b.sign) e)
  round_start =
      record {
        stays = λ x p q. cond_false (b.inside x) (edge O.bot O.top b.sign) (e x) q;
        below = λ x p. go x p (b.inside x) refl;
      }
    where
      go : (x : I) → in_blocks bs x ≡ false → (c : Bool) → b.inside x ≡ c →
          Le (toward b.sign O) (put b (λ _. edge O.bot O.top b.sign) e x) (solve O body (b ∷ bs) e x)
      go x p true q =
          subst (λ z. Le (toward b.sign O) z (solve O body (b ∷ bs) e x)) (sym (cond_true (b.inside x) (edge O.bot O.top b.sign) (e x) q))
          (edge_le O b.sign (solve O body (b ∷ bs) e x))
      go x p false q =
          le_eq (toward b.sign O)
          (cond_false (b.inside x) (edge O.bot O.top b.sign) (e x) q ∙
          sym (solve_outside O body bs (outer O body b bs e) x p ∙ after_outside (edge O.bot O.top b.sign) b (λ f. body (solve O body bs f)) e b.rounds x q))

  pub round_below : (f : I → V) → Round O body b bs e f → Below (toward b.sign O) (solve O body bs f) (solve O body (b ∷ bs) e)
  round_below f r =
      below_held O body m b.sign bs f (outer O body b bs e)
      (λ x p. subst (Le (toward b.sign O) (f x)) (solve_outside O body bs (outer O body b bs e) x p) (r.below x p))

  pub round_next : (f h : I → V) → Round O body b bs e f → ((x : I) → b.inside x ≡ false → h x ≡ solve O body bs f x) →
      Below (toward b.sign O) h (solve O body (b ∷ bs) e) → Round O body b bs e h
  round_next f h r k l = record { stays = λ x p q. k x q ∙ solve_outside O body bs f x p ∙ r.stays x p q; below = λ x p. l x }

  pub round_end : (f : I → V) → Round O body b bs e f →
      ((x : I) → b.inside x ≡ true → Le (toward b.sign O) (body (solve O body bs f) x) (solve O body bs f x)) → solve O body bs f ≡ solve O body (b ∷ bs) e
  round_end f r k = fun_ext (λ x. antisym (toward b.sign O) (round_below f r x) (above x))
    where
      g : I → V
      g = put b (solve O body bs f) e

      same : solve O body bs (put b (solve O body bs f) e) ≡ solve O body bs f
      same = held O body bs (put b (solve O body bs f) e) f (λ x p. go x p (b.inside x) refl)
        where
          go : (x : I) → in_blocks bs x ≡ false → (c : Bool) → b.inside x ≡ c → put b (solve O body bs f) e x ≡ f x
          go x p true q = cond_true (b.inside x) (solve O body bs f x) (e x) q ∙ solve_outside O body bs f x p
          go x p false q = cond_false (b.inside x) (solve O body bs f x) (e x) q ∙ sym (r.stays x p q)

      holds : (x : I) (c : Bool) → b.inside x ≡ c →
          Le (toward b.sign O) (pick (b.inside x) (body (solve O body bs (put b (solve O body bs f) e)) x) (e x)) (pick (b.inside x) (solve O body bs f x) (e x))
      holds x true q =
          subst (λ c. Le (toward b.sign O) (pick c (body (solve O body bs (put b (solve O body bs f) e)) x) (e x)) (pick c (solve O body bs f x) (e x))) (sym q)
          (subst (λ (z : I → V). Le (toward b.sign O) (body z x) (solve O body bs f x)) (sym same) (k x q))
      holds x false q =
          subst (λ c. Le (toward b.sign O) (pick c (body (solve O body bs (put b (solve O body bs f) e)) x) (e x)) (pick c (solve O body bs f x) (e x))) (sym q)
          ((toward b.sign O).refl_le (e x))

      above : Below (toward b.sign O) (solve O body (b ∷ bs) e) (solve O body bs f)
      above =
          subst (Below (toward b.sign O) (solve O body (b ∷ bs) e)) same
          (mono_toward b.sign O (solve O body bs) (solve_mono O body m bs) (outer O body b bs e) (put b (solve O body bs f) e)
          (sign_least O b (λ u. body (solve O body bs u)) (op_mono O body m bs) e b.sign b.rounds (put b (solve O body bs f) e) (λ x. holds x (b.inside x) refl)))

  -- the bodies give the solution no more
  pub solution_holds : Every (Enough O) (b ∷ bs) → (x : I) → b.inside x ≡ true →
      Le (toward b.sign O) (body (solve O body (b ∷ bs) e) x) (solve O body (b ∷ bs) e x)
  solution_holds n x q = le_eq (toward b.sign O) (sym (solves O body m (b ∷ bs) n e x (or_left (b.inside x) (in_blocks bs x) q)))
