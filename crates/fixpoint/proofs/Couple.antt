-- The transfer where bodies need to agree only at assignments that give the later blocks back.
use mathlib.Core.Path.{sym, subst}
use mathlib.Core.List.{List}
use Rattle.definitions.specs.Solution.{Block, edge}
use Rattle.definitions.specs.Order.{Order, Monotone, Enough}
use Rattle.definitions.specs.Fits.{Every}
use Rattle.definitions.specs.Nested.{solve, outer}
use Rattle.fixpoint.specs.Laws.{Agree, Coupled, CouplingOfRelations}
use Rattle.fixpoint.proofs.Rounds.{after_outside}
use Rattle.fixpoint.proofs.Signs.{op_mono}
use Rattle.fixpoint.proofs.Transfer.{settled_agree}
use Rattle.fixpoint.proofs.Solves.{solves}

module _ {I J V W : Type 0} (O : Order V) (P : Order W) (ρ : V → W → Type 0) (rel : I → J → Type 0)
    (low : ρ O.bot P.bot) (up : ρ O.top P.top)
    (body : (I → V) → I → V) (body' : (J → W) → J → W) (m : Monotone O body) (m' : Monotone P body') where
  go : {bs : List (Block I)} {cs : List (Block J)} → Coupled ρ rel body body' bs cs → Every (Enough O) bs → Every (Enough P) cs →
      (e : I → V) (e' : J → W) → Agree ρ rel e e' → Agree ρ rel (solve O body bs e) (solve P body' cs e')
  go Coupled.done n n' e e' h = h
  go (Coupled.both {b} {c} {bs} {cs} p fits agrees ms) n n' e e' h =
      go ms n.1 n'.1 (outer O body b bs e) (outer P body' c cs e')
      (settled_agree ρ rel b c fits (λ f. body (solve O body bs f)) (λ f. body' (solve P body' cs f))
      (λ f g k. agrees (solve O body bs f) (solve P body' cs g) (go ms n.1 n'.1 f g k)
      (solves O body m bs n.1 f) (solves P body' m' cs n'.1 g))
      e e' h O P low up (op_mono O body m bs) (op_mono P body' m' cs) n.0 n'.0 p)
  go (Coupled.left {b} {bs} {cs} out ms) n n' e e' h =
      go ms n.1 n' (outer O body b bs e) e'
      (λ i j r. subst (λ z. ρ z (e' j))
      (sym (after_outside (edge O.bot O.top b.sign) b (λ f. body (solve O body bs f)) e b.rounds i (out i j r))) (h i j r))
  go (Coupled.right {c} {bs} {cs} out ms) n n' e e' h =
      go ms n n'.1 e (outer P body' c cs e')
      (λ i j r. subst (ρ (e i))
      (sym (after_outside (edge P.bot P.top c.sign) c (λ f. body' (solve P body' cs f)) e' c.rounds j (out i j r))) (h i j r))

pub couple : CouplingOfRelations
couple I J V W O P ρ rel low up body body' m m' bs cs n n' ms e e' h = go O P ρ rel low up body body' m m' ms n n' e e' h
