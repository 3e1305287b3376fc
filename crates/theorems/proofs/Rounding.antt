-- Rounds one after the other: what holds before each, and that the weight falls.
use Rattle.std.proofs.Common.{◌≡◌, ◌≢◌, ℕ, zero, suc, ◌+◌, ◌*◌, ◌/◌, ◌<◌, ◌≤◌, Bool, true, false, eqb, leb, ◌&&◌, ◌⊎◌, List, [], ◌∷◌, length, drop, Ok, Err, Result, sym, refl, ap, ◌∙◌, subst, inl, inr, arith, leb-false, leb-true}
use Rattle.faults.specs.declared.Reason.TheVariants.{BenchEmpty}
use Rattle.faults.specs.declared.PassFault.{PassFault}
use Rattle.faults.specs.declared.PassFault.TheVariants.{Declined}
use Rattle.faults.specs.declared.Halt.{Halt}
use Rattle.definitions.specs.Alg.{Alg, Lawful}
use Rattle.definitions.specs.Systems.{System}
use Rattle.definitions.specs.Reading.{Reading, got, bad}
use Rattle.definitions.specs.ReadSystem.{reading}
use Rattle.definitions.specs.Written.{system_bits, written}
use Rattle.definitions.specs.Settle.{Pass, Ran, wrote, refused, ran_on, run, passes, Round, ended, failed, round_by, weight, rounds_for}
use Rattle.definitions.specs.Constants.{pass_c}
use Rattle.definitions.specs.Passes.{pass_f, pass_r, pass_u}
use Rattle.definitions.specs.Calls.{Bytes, Settles, equal, again, Stops, here, later, empty_halt, Halts}
use Rattle.theorems.proofs.PassRules.{passes_rule}
use Rattle.theorems.proofs.Packs.{bytes_long}
use Rattle.theorems.proofs.Histories.{all_rule, fitted_short}
use Rattle.theorems.proofs.RoundStrict.{round_strict}
use Rattle.theorems.proofs.Repack.{whole_forth}
use Rattle.theorems.proofs.Settled.{Is, applied, applied_is, unread}

-- a round that changes the file leaves fewer rounds
pub fewer_rounds : (a : Alg) → Lawful a → (f g : List ℕ) → Bytes f → round_by a passes f ≡ ended g → (g ≢ f) → suc (rounds_for (reading a g)) ≤ rounds_for (reading a f)
fewer_rounds a law f g b e d = go (reading a f) refl
  where
    go : (o : Reading System) → reading a f ≡ o → suc (rounds_for (reading a g)) ≤ rounds_for (reading a f)
    go (bad r p) i = absurd (let q = sym (unread a f r p i) ∙ e in cc)
    go (got s) i =
        let w = whole_forth a law f b s i in
        let j = applied_is a law passes (all_rule passes_rule) f g s e (record { reads = i; fits = w.1; file = w.0 }) in
        light (leb (weight s) (weight (applied passes a s))) refl w.0 j
      where
        light : (t : Bool) → leb (weight s) (weight (applied passes a s)) ≡ t → written s ≡ f → Is a g (applied passes a s) → suc (rounds_for (reading a g)) ≤ rounds_for (reading a f)
        light true t w j =
            let q : applied passes a s ≡ s = round_strict a law s (whole_forth a law f b s i).1 (leb-true (weight s) (weight (applied passes a s)) t) in
            absurd (d (sym j.file ∙ (ap written q ∙ w)))
        light false t w j =
            let lower : weight (applied passes a s) < weight s = leb-false (weight s) (weight (applied passes a s)) t in
            omega (arith, lower, ap rounds_for i, ap rounds_for j.reads)

-- a written file is not empty
header_some : (s : System) → 1 ≤ length (system_bits s)
header_some s = omega arith

written_some : (s : System) → 1 ≤ length (written s)
written_some s = omega (arith, bytes_long ((length (system_bits s) + 7) / 8) (system_bits s), header_some s)

ran_some : (m : Pass) (a : Alg) (o : Reading System) (g : List ℕ) → ran_on m a o ≡ wrote g → g ≢ []
ran_some m a (bad r p) g e z = absurd cc
ran_some m a (got s) g e z = omega (arith, written_some (m a s), ap length ((fitted_short (written (m a s)) g e).1 ∙ z))

pub run_some : (m : Pass) (a : Alg) (f g : List ℕ) → run m a f ≡ wrote g → g ≢ []
run_some m a f g = ran_some m a (reading a f) g

-- the first of the passes wrote a file, on which the others ran
through : (m : ℕ × Pass) (ms : List (ℕ × Pass)) (a : Alg) (f g : List ℕ) → round_by a (m ∷ ms) f ≡ ended g → (k : List ℕ) × (run m.1 a f ≡ wrote k) × (round_by a ms k ≡ ended g)
through m ms a f g e = go (run m.1 a f) refl e
  where
    go : (o : Ran) → run m.1 a f ≡ o → elim o as (λ _. Round) [ wrote k ↦ round_by a ms k | refused e ↦ failed e m.0 ] ≡ ended g → (k : List ℕ) × (run m.1 a f ≡ wrote k) × (round_by a ms k ≡ ended g)
    go (wrote k) r e = (k, r, e)
    go (refused x) r e = absurd cc

last_some : (ms : List (ℕ × Pass)) (m : ℕ × Pass) (a : Alg) (f g : List ℕ) → round_by a (m ∷ ms) f ≡ ended g → g ≢ []
last_some [] m a f g e =
    let t = through m [] a f g e in
    let q : t.0 ≡ g = let u : ended t.0 ≡ ended g = t.2 in cc in
    subst (λ (h : List ℕ). h ≢ []) q (run_some m.1 a f t.0 t.1)
last_some (n ∷ ns) m a f g e = let t = through m (n ∷ ns) a f g e in last_some ns n a t.0 g t.2

-- a round leaves no empty file
pub round_some : (a : Alg) (f g : List ℕ) → round_by a passes f ≡ ended g → g ≢ []
round_some a f g = last_some ((0x46, pass_f) ∷ (0x52, pass_r) ∷ (0x55, pass_u) ∷ []) (0x43, pass_c) a f g
