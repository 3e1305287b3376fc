-- The rounds of solving, by what a sweep does.
use Rattle.std.proofs.Common.{◌≡◌, ℕ, suc, ◌<◌, Bool, true, false, not, List, ◌∷◌, length, get_or, sym, refl, ap, ◌∙◌, subst, arith}
use mathlib.Core.Path.{fun_ext}
use Rattle.definitions.specs.Lists.{at, up_to}
use Rattle.definitions.specs.Solution.{Block, edge, put}
use Rattle.definitions.specs.Order.{Order, Le, dual, Below, Monotone, Enough}
use Rattle.definitions.specs.Order as order
use Rattle.definitions.specs.Nested.{solve}
use Rattle.definitions.specs.Boolean.{Variable}
use Rattle.fixpoint.specs.Laws.{in_blocks}
use Rattle.fixpoint.proofs.Rounds.{total, cond_true, cond_false}
use Rattle.fixpoint.proofs.Solves.{solve_outside, nor_left}
use Rattle.system.specs.declared.header.Sign.{Sign as KeptSign}
use Rattle.system.specs.declared.header.Sign.TheVariants.{Least, Greatest}
use Rattle.system.specs.Files.{kept_sign}
use Rattle.boolean.specs.Ranked.{variable_body, in_block, block_at, blocks_below, moving, moves_to, Swept, members}
use Rattle.theorems.proofs.Expands.{variables_mono}
use Rattle.boolean.proofs.Rounds.{held, Round, round_start, round_below, round_next, round_end, solution_holds}
use Rattle.theorems.proofs.Marks.{from_mem}
use Rattle.boolean.proofs.Weights.{lighter}
use Rattle.boolean.proofs.Merges.{in_below, block_enough, blocks_enough}
use Rattle.boolean.proofs.Sweeping.{apart}

pub start_edge : (s : KeptSign) → not (moves_to s) ≡ edge false true (kept_sign s)
start_edge Least = refl
start_edge Greatest = refl

put_twice : {I V : Type 0} (b : Block I) (f e : I → V) → put b f (put b f e) ≡ put b f e
put_twice {I} b f e = fun_ext (λ x. go x (b.inside x) refl)
  where
    go : (x : I) (c : Bool) → b.inside x ≡ c → put b f (put b f e) x ≡ put b f e x
    go x true p = cond_true (b.inside x) (f x) (put b f e x) p ∙ sym (cond_true (b.inside x) (f x) (e x) p)
    go x false p = cond_false (b.inside x) (f x) (put b f e x) p

module _ (vs : List Variable) (bs : List ℕ) (ss : List KeptSign) (k : ℕ) (e e' : ℕ → Bool)
    (begun : e' ≡ put (block_at vs bs k (get_or ss k Least)) (λ _. edge false true (kept_sign (get_or ss k Least))) e) where
  pub below_start : Round order.truths (variable_body vs) (block_at vs bs k (get_or ss k Least)) (blocks_below vs bs ss k) e' e'
  below_start =
      let b = block_at vs bs k (get_or ss k Least) in
      let t : ℕ → Bool = λ _. edge false true (kept_sign (get_or ss k Least)) in
      let same : put b t e' ≡ e' = ap (put b t) begun ∙ put_twice b t e ∙ sym begun in
      subst (Round order.truths (variable_body vs) b (blocks_below vs bs ss k) e') same (round_start order.truths (variable_body vs) (variables_mono vs) b (blocks_below vs bs ss k) e')

  module _ (f h h' : ℕ → Bool) (r : Round order.truths (variable_body vs) (block_at vs bs k (get_or ss k Least)) (blocks_below vs bs ss k) e' f)
      (inner : h ≡ solve order.truths (variable_body vs) (blocks_below vs bs ss k) f) where
    pub below_next : (c : Bool) → Swept (get_or ss k Least) (variable_body vs) (λ j. in_block (at vs j) bs k) 0 h h' c →
        Round order.truths (variable_body vs) (block_at vs bs k (get_or ss k Least)) (blocks_below vs bs ss k) e' h'
    below_next c w =
        let O = order.truths in
        let b = block_at vs bs k (get_or ss k Least) in
        let cs = blocks_below vs bs ss k in
        let m = variables_mono vs in
        round_next O (variable_body vs) m b cs e' f h' r (λ x q. w.outside x q ∙ ap (λ g. g x) inner)
        (w.sound (solve O (variable_body vs) (b ∷ cs) e') (subst (λ g. Below (moving (get_or ss k Least)) g (solve O (variable_body vs) (b ∷ cs) e')) (sym inner) (round_below O (variable_body vs) m b cs e' f r))
        (solution_holds O (variable_body vs) m b cs e' (block_enough vs bs k (get_or ss k Least), blocks_enough vs bs ss k)))

    pub below_end : Swept (get_or ss k Least) (variable_body vs) (λ j. in_block (at vs j) bs k) 0 h h' false → h' ≡ solve order.truths (variable_body vs) (blocks_below vs bs ss (suc k)) e
    below_end w =
        let O = order.truths in
        let b = block_at vs bs k (get_or ss k Least) in
        let cs = blocks_below vs bs ss k in
        let m = variables_mono vs in
        let q = w.rests refl in
        q.0 ∙ inner ∙
        round_end O (variable_body vs) m b cs e' f r (λ x p. subst (λ (g : ℕ → Bool). Le (moving (get_or ss k Least)) (variable_body vs g x) (g x)) inner (q.1 x (omega arith) p)) ∙
        held O (variable_body vs) (b ∷ cs) e' e (λ x p. ap (λ g. g x) begun ∙ cond_false (b.inside x) (edge false true (kept_sign (get_or ss k Least))) (e x) (nor_left (b.inside x) (in_blocks cs x) p))

    pub below_less : Swept (get_or ss k Least) (variable_body vs) (λ j. in_block (at vs j) bs k) 0 h h' true →
        total (dual (moving (get_or ss k Least))) (members vs bs k) h' < total (dual (moving (get_or ss k Least))) (members vs bs k) f
    below_less w =
        let c = w.changes refl in
        let l : c.0 < length vs = in_below vs bs k c.0 c.1.0 in
        lighter (moving (get_or ss k Least)) (λ j. in_block (at vs j) bs k) (up_to (length vs)) f h h'
        (λ x q. ap (λ g. g x) inner ∙ solve_outside order.truths (variable_body vs) (blocks_below vs bs ss k) f x (apart vs bs ss k k x (omega arith) q))
        w.moves c.0 c.1.0 (from_mem 0 (length vs) c.0 (omega arith) (omega arith)) c.1.1
