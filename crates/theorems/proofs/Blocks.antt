-- Blocks of a system whose equations are changed one by one.
use Rattle.std.proofs.Common.{◌≡◌, ℕ, suc, ◌+◌, Bool, true, false, ◌&&◌, eqb, List, [], ◌∷◌, Some, sym, refl, ap, ◌∙◌, subst, arith}
use Rattle.std.proofs.lemmas.Bool.{eqb-true}
use Rattle.definitions.specs.Lists.{at, map_from}
use Rattle.definitions.specs.Alg.{Alg, within}
use Rattle.definitions.specs.Systems.{Equation, System}
use Rattle.definitions.specs.Truth.{Instance, block_of, body, truths as truths_of}
use Rattle.definitions.specs.Order.{truths}
use Rattle.fixpoint.specs.Laws.{Matched, Agree}
use Rattle.theorems.proofs.Monotone.{body_mono}
use Rattle.theorems.proofs.Enough.{blocks_enough}
use Rattle.fixpoint.proofs.Transfer.{transfer}

module _ (a : Alg) (rel : Instance → Instance → Type 0) (F : ℕ → Equation → Equation) (signs : (i : ℕ) (e : Equation) → e.sign ≡ (F i e).sign) where
  pub blocks_match : (k : ℕ) (es : List Equation) →
      ((j : ℕ) (e : Equation) → at es j ≡ Some e → (x y : Instance) → rel x y → (block_of a (k + j) e).inside x ≡ (block_of a (k + j) (F (k + j) e)).inside y) →
      Matched rel (map_from k (block_of a) es) (map_from k (block_of a) (map_from k F es))
  blocks_match k [] h = Matched.done
  blocks_match k (e ∷ es) h =
      Matched.both (signs k e)
      (λ x y r. subst (λ n. (block_of a n e).inside x ≡ (block_of a n (F n e)).inside y) (omega arith) (h 0 e refl x y r))
      (blocks_match (suc k) es (λ j e' q x y r.
      subst (λ n. (block_of a n e').inside x ≡ (block_of a n (F n e')).inside y) (omega arith) (h (suc j) e' q x y r)))

-- both inside, or neither
pub both_inside : (i : ℕ) (x y : Instance) (ns ms : List ℕ) → x.0 ≡ y.0 → (x.0 ≡ i → within ns x.1 ≡ true) → (x.0 ≡ i → within ms y.1 ≡ true) →
    (eqb x.0 i && within ns x.1) ≡ (eqb y.0 i && within ms y.1)
both_inside i x y ns ms e h k = subst (λ z. (eqb x.0 i && within ns x.1) ≡ (eqb z i && within ms y.1)) e (go (eqb x.0 i) refl)
  where
    go : (b : Bool) → eqb x.0 i ≡ b → (eqb x.0 i && within ns x.1) ≡ (eqb x.0 i && within ms y.1)
    go true p = ap (λ z. eqb x.0 i && z) (h (eqb-true x.0 i p) ∙ sym (k (eqb-true x.0 i p)))
    go false p = ap (λ z. z && within ns x.1) p ∙ sym (ap (λ z. z && within ms y.1) p)

-- two systems whose bodies agree on related instances
pub truths_agree : (a : Alg) (s t : System) (rel : Instance → Instance → Type 0) →
    Matched rel (map_from 0 (block_of a) s.equations) (map_from 0 (block_of a) t.equations) →
    ((f g : Instance → Bool) → Agree (λ p q. p ≡ q) rel f g → Agree (λ p q. p ≡ q) rel (body a s f) (body a t g)) →
    (x y : Instance) → rel x y → truths_of a s x ≡ truths_of a t y
truths_agree a s t rel m agrees x y r =
    transfer Instance Instance Bool Bool truths truths (λ p q. p ≡ q) rel refl refl (body a s) (body a t) (body_mono a s) (body_mono a t) agrees
    (map_from 0 (block_of a) s.equations) (map_from 0 (block_of a) t.equations) (blocks_enough a 0 s.equations) (blocks_enough a 0 t.equations) m
    (λ _. false) (λ _. false) (λ _ _ _. refl) x y r
