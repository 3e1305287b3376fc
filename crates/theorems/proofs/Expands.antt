-- The variables that expanding makes have the truths of their instances.
use Rattle.std.proofs.Common.{◌≡◌, ℕ, zero, suc, ◌+◌, ◌<◌, ◌≤◌, Bool, true, false, ◌&&◌, eqb, List, [], ◌∷◌, map, length, Some, None, Option, sym, refl, ap, ◌∙◌, subst, true≢false, zero-add, arith}
use mathlib.Core.Bool.{false≢true}
use Rattle.std.proofs.lemmas.Bool.{eqb-true}
use Rattle.definitions.specs.Lists.{at, bind, some, keep, from, map_from}
use Rattle.definitions.specs.Alg.{Alg, Lawful, within}
use Rattle.definitions.specs.Solution.{Sign}
use Rattle.definitions.specs.Systems.{Equation, System}
use Rattle.definitions.specs.Order.{Below, Monotone}
use Rattle.definitions.specs.Order as order
use Rattle.fixpoint.specs.Laws.{Agree, Matched}
use Rattle.definitions.specs.Truth.{Instance, sizes_of, block_of, body, truths}
use Rattle.definitions.specs.Boolean.{vars, form, number_in, Variable, sign_at, variable_of, rank_of, sign_of_rank, has_rank, rank_block, body_at, used_ranks}
use Rattle.definitions.specs.Fits.{Every, SystemFits}
use Rattle.definitions.specs.Reach.{ReachedInstance}
use Rattle.theorems.specs.ExpandLaws.{variable_truths, Expands}
use Rattle.theorems.proofs.Listing.{none_some, some_same, at_map, every_at, every_mapped, every_of, every_with}
use Rattle.fixpoint.proofs.Transfer.{transfer}
use Rattle.theorems.proofs.Forms.{form_said, said_mono, said_renamed, said_agree}
use Rattle.fixpoint.proofs.Truths.{implies}
use Rattle.theorems.proofs.Monotone.{body_mono}
use Rattle.theorems.proofs.Enough.{blocks_enough, ranks_enough}
use Rattle.theorems.specs.PassLaws.{InRange}
use Rattle.theorems.proofs.Numbers.{Has, Numbering, all_reached, number_at}

pub some_at : {A : Type 0} (p : A → Bool) (l : List A) (j : ℕ) (x : A) → at l j ≡ Some x → p x ≡ true → some p l ≡ true
some_at p [] j x e h = none_some x e
some_at p (y ∷ l) zero x e h = ap (λ b. elim b [ true ↦ true | false ↦ some p l ]) (ap p (some_same y x e) ∙ h)
some_at p (y ∷ l) (suc j) x e h = go (some_at p l j x e h) (p y)
  where
    go : some p l ≡ true → (b : Bool) → elim b [ true ↦ true | false ↦ some p l ] ≡ true
    go k true = refl
    go k false = k

option_mono : (o : Option Variable) → (f g : ℕ → Bool) → Below order.truths f g → body_at o f ≡ true → body_at o g ≡ true
option_mono None f g h k = k
option_mono (Some v) f g h k = said_mono v.body f g h k

pub variables_mono : (vs : List Variable) → Monotone order.truths (λ (f : ℕ → Bool) (k : ℕ). body_at (at vs k) f)
variables_mono vs f g h k = implies (body_at (at vs k) f) (body_at (at vs k) g) (option_mono (at vs k) f g h)

-- the sign of a rank, where the sign is a function of the rank
pub rank_sign : (g : ℕ → Sign) (k : ℕ) (vs : List Variable) → Every (λ (v : Variable). v.sign ≡ g v.rank) vs → some (λ (v : Variable). eqb v.rank k) vs ≡ true →
    sign_of_rank (rank_of vs k) ≡ g k
rank_sign g k [] h u = absurd (false≢true u)
rank_sign g k (v ∷ vs) h u = go (rank_sign g k vs h.1) (eqb v.rank k) refl u
  where
    go : (some (λ (w : Variable). eqb w.rank k) vs ≡ true → sign_of_rank (rank_of vs k) ≡ g k) → (b : Bool) → eqb v.rank k ≡ b →
        elim b [ true ↦ true | false ↦ some (λ (w : Variable). eqb w.rank k) vs ] ≡ true → sign_of_rank (elim b [ true ↦ v ∷ rank_of vs k | false ↦ rank_of vs k ]) ≡ g k
    go ih true e m = h.0 ∙ ap g (eqb-true v.rank k e)
    go ih false e m = ih m

module _ (a : Alg) (law : Lawful a) (s : System) (fits : SystemFits a s) (r : List Instance) (n : Numbering a s r) (fit : Every (InRange a s) r) where
  abbrev Rel : Instance → ℕ → Type 0
  Rel x j = at r j ≡ Some x

  variable_at : (x : Instance) (j : ℕ) → at r j ≡ Some x → at (map (variable_of a s r) r) j ≡ Some (variable_of a s r x)
  variable_at x j e = at_map (variable_of a s r) r j ∙ ap (λ o. bind o (λ y. Some (variable_of a s r y))) e

  agrees : (f : Instance → Bool) (g : ℕ → Bool) → Agree (λ p q. p ≡ q) Rel f g → Agree (λ p q. p ≡ q) Rel (body a s f) (λ k. body_at (at (map (variable_of a s r) r) k) g)
  agrees f g h x j e =
      sym (form_said a s f x) ∙
      said_agree (form a s x) f (λ i. g (number_in r i))
      (every_with (Has r) (λ i. f i ≡ g (number_in r i)) (vars (form a s x)) (n.closed j x e) (λ y m. h y (number_in r y) (number_at r y m))) ∙
      sym (said_renamed (form a s x) (number_in r) g) ∙
      sym (ap (λ o. body_at o g) (variable_at x j e))

  rank_at : (k : ℕ) (x : Instance) (j : ℕ) → at r j ≡ Some x → has_rank (at (map (variable_of a s r) r) j) k ≡ eqb x.0 k
  rank_at k x j e = ap (λ o. has_rank o k) (variable_at x j e)

  unused : (k : ℕ) → some (λ (v : Variable). eqb v.rank k) (map (variable_of a s r) r) ≡ false → (x : Instance) (j : ℕ) → at r j ≡ Some x → eqb x.0 k ≡ false
  unused k u x j e = go (eqb x.0 k) refl
    where
      go : (b : Bool) → eqb x.0 k ≡ b → b ≡ false
      go true h = absurd (true≢false (sym (some_at (λ (v : Variable). eqb v.rank k) (map (variable_of a s r) r) j (variable_of a s r x) (variable_at x j e) h) ∙ u))
      go false h = refl

  none_there : (k : ℕ) → at s.equations k ≡ None → (x : Instance) (j : ℕ) → at r j ≡ Some x → eqb x.0 k ≡ false
  none_there k u x j e = go (eqb x.0 k) refl
    where
      go : (b : Bool) → eqb x.0 k ≡ b → b ≡ false
      go true h =
          let f = every_at (InRange a s) r j x e fit in
          none_some f.equation (sym u ∙ ap (at s.equations) (sym (eqb-true x.0 k h)) ∙ f.there)
      go false h = refl

  insides : (k : ℕ) (e : Equation) → at s.equations k ≡ Some e → (x : Instance) (j : ℕ) → at r j ≡ Some x →
      (eqb x.0 k && within (sizes_of a e) x.1) ≡ has_rank (at (map (variable_of a s r) r) j) k
  insides k e there x j h = go (eqb x.0 k) refl ∙ sym (rank_at k x j h)
    where
      go : (b : Bool) → eqb x.0 k ≡ b → (b && within (sizes_of a e) x.1) ≡ eqb x.0 k
      go true q =
          let f = every_at (InRange a s) r j x h fit in
          let w : f.equation ≡ e = some_same f.equation e (sym f.there ∙ ap (at s.equations) (eqb-true x.0 k q) ∙ there) in
          subst (λ (z : Equation). within (sizes_of a z) x.1 ≡ true) w f.fine ∙ sym q
      go false q = sym q

  signs : Every (λ (v : Variable). v.sign ≡ sign_at (at s.equations v.rank)) (map (variable_of a s r) r)
  signs = every_mapped (λ (v : Variable). v.sign ≡ sign_at (at s.equations v.rank)) (variable_of a s r) r (every_of r (λ x. refl))

  matches : (m k : ℕ) (es : List Equation) → length es ≤ m → ((j : ℕ) → at es j ≡ at s.equations (k + j)) →
      Matched Rel (map_from k (block_of a) es) (map (rank_block (map (variable_of a s r) r)) (keep (λ q. some (λ (v : Variable). eqb v.rank q) (map (variable_of a s r) r)) (from k m)))
  matches zero k [] l h = Matched.done
  matches zero k (e ∷ es) l h = absurd (omega arith)
  matches (suc m) k [] l h =
      go (matches m (suc k) [] (omega arith) (λ j. h (suc j) ∙ ap (at s.equations) (let e : k + suc j ≡ suc k + j = omega arith in e)))
      (some (λ (v : Variable). eqb v.rank k) (map (variable_of a s r) r))
    where
      go : Matched Rel [] (map (rank_block (map (variable_of a s r) r)) (keep (λ q. some (λ (v : Variable). eqb v.rank q) (map (variable_of a s r) r)) (from (suc k) m))) → (b : Bool) →
          Matched Rel [] (map (rank_block (map (variable_of a s r) r)) (elim b [
            | true ↦ k ∷ keep (λ q. some (λ (v : Variable). eqb v.rank q) (map (variable_of a s r) r)) (from (suc k) m)
            | false ↦ keep (λ q. some (λ (v : Variable). eqb v.rank q) (map (variable_of a s r) r)) (from (suc k) m)
          ]))
      go ih true = Matched.right (λ x j e. rank_at k x j e ∙ none_there k (sym (h 0 ∙ ap (at s.equations) (let q : k + 0 ≡ k = omega arith in q))) x j e) ih
      go ih false = ih
  matches (suc m) k (e ∷ es) l h =
      go (matches m (suc k) es (omega arith) (λ j. h (suc j) ∙ ap (at s.equations) (let q : k + suc j ≡ suc k + j = omega arith in q)))
      (some (λ (v : Variable). eqb v.rank k) (map (variable_of a s r) r)) refl
    where
      there : at s.equations k ≡ Some e
      there = sym (h 0 ∙ ap (at s.equations) (let q : k + 0 ≡ k = omega arith in q))

      go : Matched Rel (map_from (suc k) (block_of a) es) (map (rank_block (map (variable_of a s r) r)) (keep (λ q. some (λ (v : Variable). eqb v.rank q) (map (variable_of a s r) r)) (from (suc k) m))) → (b : Bool) →
          some (λ (v : Variable). eqb v.rank k) (map (variable_of a s r) r) ≡ b →
          Matched Rel (block_of a k e ∷ map_from (suc k) (block_of a) es) (map (rank_block (map (variable_of a s r) r)) (elim b [
            | true ↦ k ∷ keep (λ q. some (λ (v : Variable). eqb v.rank q) (map (variable_of a s r) r)) (from (suc k) m)
            | false ↦ keep (λ q. some (λ (v : Variable). eqb v.rank q) (map (variable_of a s r) r)) (from (suc k) m)
          ]))
      go ih true u =
          Matched.both (sym (rank_sign (λ q. sign_at (at s.equations q)) k (map (variable_of a s r) r) signs u ∙ ap sign_at there)) (insides k e there) ih
      go ih false u = Matched.left (λ x j q. ap (λ b. b && within (sizes_of a e) x.1) (unused k u x j q)) ih

  pub truths_alike : (k : ℕ) (x : Instance) → at r k ≡ Some x → variable_truths (map (variable_of a s r) r) k ≡ truths a s x
  truths_alike k x e =
      sym (transfer Instance ℕ Bool Bool order.truths order.truths (λ p q. p ≡ q) Rel refl refl
      (body a s) (λ f j. body_at (at (map (variable_of a s r) r) j) f) (body_mono a s) (variables_mono (map (variable_of a s r) r)) agrees
      (map_from 0 (block_of a) s.equations) (map (rank_block (map (variable_of a s r) r)) (used_ranks (map (variable_of a s r) r)))
      (blocks_enough a 0 s.equations) (ranks_enough (map (variable_of a s r) r) (used_ranks (map (variable_of a s r) r)))
      (matches 32 0 s.equations (let f : length s.equations < 32 = fits.few in omega arith) (λ j. ap (at s.equations) (sym (zero-add j))))
      (λ _. false) (λ _. false) (λ _ _ _. refl) x k e)

  pub expands : Expands a s (map (variable_of a s r) r)
  expands =
      record {
        instances = r;
        variables = refl;
        only = λ k x e. every_at (ReachedInstance a s) r k x e n.reached;
        every = λ x h. all_reached a s r n h;
        once = n.once;
        first = n.first;
        order = n.order;
        true_alike = truths_alike;
        verdict = truths_alike 0 (s.start, s.values) n.first;
      }
