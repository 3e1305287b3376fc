-- Two systems whose bodies agree on related pairs have solutions that agree on them.
use Prim.Native.Nat.{ℕ, zero, suc, ◌+◌}
use mathlib.Core.Path.{◌≡◌, refl, sym, ◌∙◌, ap, subst, subst₂}
use mathlib.Core.Bool.{Bool, true, false, true≢false, false≢true}
use mathlib.Core.List.{List}
use native.Mathlib.Nat.{add_comm}
use Rattle.definitions.specs.Solution.{Sign, least, greatest, Block, edge, settled}
use Rattle.definitions.specs.Order.{Order, Monotone, Enough}
use Rattle.definitions.specs.Fits.{Every}
use Rattle.definitions.specs.Nested.{solve, outer}
use Rattle.fixpoint.specs.Laws.{Agree, Matched, done, both, left, right, TransferOfRelations}
use Rattle.fixpoint.proofs.Rounds.{pick, after, after_outside}
use Rattle.fixpoint.proofs.Signs.{sign_more, op_mono}

module _ {V W : Type 0} (ρ : V → W → Type 0) where
  cond_agree : (c d : Bool) {a z : V} {a' z' : W} → c ≡ d → (c ≡ true → ρ a a') → ρ z z' → ρ (pick c a z) (pick d a' z')
  cond_agree true true p h k = h refl
  cond_agree true false p h k = absurd (true≢false p)
  cond_agree false true p h k = absurd (false≢true p)
  cond_agree false false p h k = k

  edge_agree : (O : Order V) (P : Order W) → ρ O.bot P.bot → ρ O.top P.top → (s t : Sign) → s ≡ t →
      ρ (edge O.bot O.top s) (edge P.bot P.top t)
  edge_agree O P low up s t p = subst (λ z. ρ (edge O.bot O.top s) (edge P.bot P.top z)) p (same s)
    where
      same : (u : Sign) → ρ (edge O.bot O.top u) (edge P.bot P.top u)
      same least = low
      same greatest = up

  module _ {I J : Type 0} (rel : I → J → Type 0) (b : Block I) (c : Block J)
      (fits : (i : I) (j : J) → rel i j → b.inside i ≡ c.inside j)
      (op : (I → V) → I → V) (op' : (J → W) → J → W)
      (ops : (f : I → V) (g : J → W) → Agree ρ rel f g → (i : I) (j : J) → rel i j → b.inside i ≡ true → ρ (op f i) (op' g j))
      (e : I → V) (e' : J → W) (agree : Agree ρ rel e e') where
    pub after_agree : (v : V) (w : W) → ρ v w → (n : ℕ) → Agree ρ rel (after v b op e n) (after w c op' e' n)
    after_agree v w h zero i j r = cond_agree (b.inside i) (c.inside j) (fits i j r) (λ _. h) (agree i j r)
    after_agree v w h (suc n) i j r =
        cond_agree (b.inside i) (c.inside j) (fits i j r)
        (ops (after v b op e n) (after w c op' e' n) (after_agree v w h n) i j r) (agree i j r)

    pub settled_agree : (O : Order V) (P : Order W) → ρ O.bot P.bot → ρ O.top P.top →
        Monotone O op → Monotone P op' → Enough O b → Enough P c → b.sign ≡ c.sign →
        Agree ρ rel (settled (edge O.bot O.top b.sign) b op e) (settled (edge P.bot P.top c.sign) c op' e')
    settled_agree O P low up m m' n n' p =
        subst₂ (Agree ρ rel)
        (sign_more O b op m e b.sign n c.rounds)
        (ap (after (edge P.bot P.top c.sign) c op' e') (add_comm b.rounds c.rounds) ∙
        sign_more P c op' m' e' c.sign n' b.rounds)
        (after_agree (edge O.bot O.top b.sign) (edge P.bot P.top c.sign)
        (edge_agree O P low up b.sign c.sign p) (b.rounds + c.rounds))

module _ {I J V W : Type 0} (O : Order V) (P : Order W) (ρ : V → W → Type 0) (rel : I → J → Type 0)
    (low : ρ O.bot P.bot) (up : ρ O.top P.top)
    (body : (I → V) → I → V) (body' : (J → W) → J → W) (m : Monotone O body) (m' : Monotone P body')
    (agrees : (f : I → V) (g : J → W) → Agree ρ rel f g → Agree ρ rel (body f) (body' g)) where
  go : {bs : List (Block I)} {cs : List (Block J)} → Matched rel bs cs → Every (Enough O) bs → Every (Enough P) cs →
      (e : I → V) (e' : J → W) → Agree ρ rel e e' → Agree ρ rel (solve O body bs e) (solve P body' cs e')
  go done n n' e e' h = h
  go (both {b} {c} {bs} {cs} p fits ms) n n' e e' h =
      go ms n.1 n'.1 (outer O body b bs e) (outer P body' c cs e')
      (settled_agree ρ rel b c fits (λ f. body (solve O body bs f)) (λ f. body' (solve P body' cs f))
      (λ f g k i j r _. agrees (solve O body bs f) (solve P body' cs g) (go ms n.1 n'.1 f g k) i j r)
      e e' h O P low up (op_mono O body m bs) (op_mono P body' m' cs) n.0 n'.0 p)
  go (left {b} {bs} {cs} out ms) n n' e e' h =
      go ms n.1 n' (outer O body b bs e) e'
      (λ i j r. subst (λ z. ρ z (e' j))
      (sym (after_outside (edge O.bot O.top b.sign) b (λ f. body (solve O body bs f)) e b.rounds i (out i j r))) (h i j r))
  go (right {c} {bs} {cs} out ms) n n' e e' h =
      go ms n n'.1 e (outer P body' c cs e')
      (λ i j r. subst (ρ (e i))
      (sym (after_outside (edge P.bot P.top c.sign) c (λ f. body' (solve P body' cs f)) e' c.rounds j (out i j r))) (h i j r))

pub transfer : TransferOfRelations
transfer I J V W O P ρ rel low up body body' m m' agrees bs cs n n' ms e e' h = go O P ρ rel low up body body' m m' agrees ms n n' e e' h
