-- Settling always has one answer, in a round that the weight limits.
use Rattle.std.proofs.Common.{◌≡◌, ℕ, zero, suc, ◌+◌, ◌<◌, ◌≤◌, Bool, true, false, eqb, leb, ◌⊎◌, List, [], ◌∷◌, length, Ok, Err, Result, sym, refl, ap, ◌∙◌, subst, inl, inr, arith, eqb-true, leb-false, leb-true}
use Rattle.definitions.specs.Lists.{same}
use Rattle.definitions.specs.Alg.{Alg, Lawful}
use Rattle.definitions.specs.Systems.{System}
use Rattle.definitions.specs.Reading.{Reading, got, bad}
use Rattle.definitions.specs.ReadSystem.{reading}
use Rattle.definitions.specs.Written.{written}
use Rattle.definitions.specs.Fits.{SystemFits}
use Rattle.definitions.specs.Constants.{pass_c}
use Rattle.definitions.specs.Passes.{pass_f, pass_r, pass_u}
use Rattle.definitions.specs.Settle.{Pass, Ran, wrote, refused, ran_on, run, passes, Round, ended, failed, round_by, weight, rounds_for, rounds, settled, halted, Settled as Settlement}
use Rattle.definitions.specs.Calls.{Bytes, Settles, equal, again, Stops, here, later, empty_halt, Halts, Settling}
use Rattle.faults.specs.declared.Reason.{Reason}
use Rattle.faults.specs.declared.Reason.TheVariants.{BadLength}
use Rattle.faults.specs.declared.PassFault.TheVariants.{Reading as Unread}
use Rattle.faults.specs.declared.SettleFault.{SettleFault}
use Rattle.faults.specs.declared.Halt.{Halt}
use Rattle.theorems.specs.SettleLaws.{told, Answered, SettlingEnds, OneSettledAnswer, SettleComputes}
use Rattle.theorems.proofs.Listing.{same_eq, same_refl}
use Rattle.theorems.proofs.Whole.{whole_back}
use Rattle.theorems.proofs.Repack.{whole_forth}
use Rattle.theorems.proofs.PassRules.{passes_rule}
use Rattle.theorems.proofs.Histories.{fitted_short, AllRule, all_rule}
use Rattle.theorems.proofs.RoundStrict.{round_strict}

abbrev pub applied : List (ℕ × Pass) → Alg → System → System
applied [] a s = s
applied (m ∷ ms) a s = applied ms a (m.1 a s)

-- the file f is that of the system s, which fits
pub record Is (a : Alg) (f : List ℕ) (s : System) : Type 0 where
  pub reads : reading a f ≡ got s
  pub fits : SystemFits a s
  pub file : written s ≡ f

got_same : {x y : System} → got x ≡ got y → x ≡ y
got_same e = cc

module _ (a : Alg) (law : Lawful a) where
  pub applied_is : (ms : List (ℕ × Pass)) → AllRule ms → (f g : List ℕ) (s : System) → round_by a ms f ≡ ended g → Is a f s → Is a g (applied ms a s)
  applied_is [] rs f g s e i = let q : f ≡ g = cc in subst (λ (f : List ℕ). Is a f s) q i
  applied_is (m ∷ ms) rs f g s e i = go (λ k. applied_is ms rs.1 k g (m.1 a s)) (run m.1 a f) refl e
    where
      go : ((k : List ℕ) → round_by a ms k ≡ ended g → Is a k (m.1 a s) → Is a g (applied ms a (m.1 a s))) →
          (r : Ran) → run m.1 a f ≡ r → elim r as (λ _. Round) [ wrote k ↦ round_by a ms k | refused e ↦ failed e m.0 ] ≡ ended g → Is a g (applied ms a (m.1 a s))
      go h (wrote k) p e =
          let w = fitted_short (written (m.1 a s)) k (sym (ap (ran_on m.1 a) i.reads) ∙ p) in
          let fit = rs.0.fits a law s i.fits in
          h k e (record { reads = ap (reading a) (sym w.1) ∙ whole_back a (m.1 a s) fit w.0; fits = fit; file = w.1 })
      go h (refused x) p e = absurd cc

  abbrev Done : ℕ → List ℕ → ℕ → Type 0
  Done k f m = ((n : ℕ) × (g : List ℕ) × Settles a k f n g × (n ≤ m)) ⊎ ((x : Halt) × Stops a k f x × (x.round ≤ m))

  one_round : (n : ℕ) → ((k : ℕ) (f : List ℕ) (s : System) → Is a f s → weight s < n → Done k f (k + weight s)) →
      (k : ℕ) (f : List ℕ) (s : System) → Is a f s → weight s < suc n → Done k f (k + weight s)
  one_round n ih k f s i l = go (round_by a passes f) refl
    where
      next : (g : List ℕ) → round_by a passes f ≡ ended g → Is a g (applied passes a s) → (b : Bool) → leb (weight s) (weight (applied passes a s)) ≡ b → Done k f (k + weight s)
      next g e j true t =
          let q : applied passes a s ≡ s = round_strict a law s i.fits (leb-true (weight s) (weight (applied passes a s)) t) in
          let p : g ≡ f = sym j.file ∙ (ap written q ∙ i.file) in
          inl (k, f, equal (e ∙ ap ended p), omega arith)
      next g e j false t =
          let lower : weight (applied passes a s) < weight s = leb-false (weight s) (weight (applied passes a s)) t in
          let differs : g ≡ f → ⊥ = λ p.
          let q : applied passes a s ≡ s = got_same (sym j.reads ∙ (ap (reading a) p ∙ i.reads)) in
          omega (arith, lower, ap weight q) in
          elim (ih (suc k) g (applied passes a s) j (omega (arith, lower, l))) [
            | inl x ↦ inl (x.0, x.1, again g e differs x.2, omega (arith, lower, x.3))
            | inr x ↦ inr (x.0, later g e differs x.1, omega (arith, lower, x.2))
          ]

      go : (r : Round) → round_by a passes f ≡ r → Done k f (k + weight s)
      go (ended g) e = next g e (applied_is passes (all_rule passes_rule) f g s e i) (leb (weight s) (weight (applied passes a s))) refl
      go (failed x l) e = inr (record { fault = x; letter = l; round = k }, here x l e, omega arith)

  ends : (n k : ℕ) (f : List ℕ) (s : System) → Is a f s → weight s < n → Done k f (k + weight s)
  ends zero k f s i l = absurd (omega arith)
  ends (suc n) k f s i l = one_round n (ends n) k f s i l

-- a file that is not read is refused by the first pass
pub unread : (a : Alg) (f : List ℕ) (r : Reason) (p : ℕ) → reading a f ≡ bad r p → round_by a passes f ≡ failed (Unread (record { reason = r; place = p })) 0x43
unread a f r p e = ap (λ (o : Ran). elim o as (λ _. Round) [ wrote g ↦ round_by a ((0x46, pass_f) ∷ (0x52, pass_r) ∷ (0x55, pass_u) ∷ []) g | refused e ↦ failed e 0x43 ]) (ap (ran_on pass_c a) e)

pub settle_answers : SettlingEnds
settle_answers a law [] b = record { after = []; answer = Err (record { halt = empty_halt }); settles = record { why = refl; kept = refl }; soon = omega arith }
settle_answers a law (x ∷ xs) b = go (reading a (x ∷ xs)) refl
  where
    stopped : (h : Halt) → Stops a 1 (x ∷ xs) h → (n : ℕ) → h.round ≤ n → rounds_for (reading a (x ∷ xs)) ≡ n → Answered a (x ∷ xs)
    stopped h s n l e = record { after = x ∷ xs; answer = Err (record { halt = h }); settles = record { why = s; kept = refl }; soon = omega (arith, l, e) }

    go : (r : Reading System) → reading a (x ∷ xs) ≡ r → Answered a (x ∷ xs)
    go (bad r p) e = stopped (record { fault = Unread (record { reason = r; place = p }); letter = 0x43; round = 1 }) (here (Unread (record { reason = r; place = p })) 0x43 (unread a (x ∷ xs) r p e)) 1 (omega arith) (ap rounds_for e)
    go (got s) e =
        let w = whole_forth a law (x ∷ xs) b s e in
        elim (ends a law (suc (weight s)) 1 (x ∷ xs) s (record { reads = e; fits = w.1; file = w.0 }) (omega arith)) [
          | inl y ↦ record { after = y.1; answer = Ok y.0; settles = y.2; soon = omega (arith, y.3, ap rounds_for e) }
          | inr y ↦ stopped y.0 y.1 (1 + weight s) y.2 (ap rounds_for e ∙ omega arith)
        ]

-- one answer
ended_same : {f g : List ℕ} → ended f ≡ ended g → f ≡ g
ended_same e = cc

settles_one : (a : Alg) {k m n : ℕ} {f g h : List ℕ} → Settles a k f m g → Settles a k f n h → (g ≡ h) × (m ≡ n)
settles_one a (equal e) (equal d) = (refl, refl)
settles_one a (equal e) (again g d q t) = absurd (q (ended_same (sym d ∙ e)))
settles_one a (again g e p s) (equal d) = absurd (p (ended_same (sym e ∙ d)))
settles_one a {k} {m} {g = h} (again g e p s) (again i d q t) = settles_one a (subst (λ (f : List ℕ). Settles a (suc k) f m h) (ended_same (sym e ∙ d)) s) t

stops_one : (a : Alg) {k : ℕ} {f : List ℕ} {x y : Halt} → Stops a k f x → Stops a k f y → x ≡ y
stops_one a {k} (here x l e) (here x' l' d) = failed_same (sym e ∙ d)
  where
    failed_same : failed x l ≡ failed x' l' → ◌≡◌ {A = Halt} (record { fault = x; letter = l; round = k }) (record { fault = x'; letter = l'; round = k })
    failed_same e = cc
stops_one a (here x l e) (later g d q t) = absurd cc
stops_one a (later g e p s) (here x l d) = absurd cc
stops_one a {k} {x = x} (later g e p s) (later i d q t) = stops_one a (subst (λ (f : List ℕ). Stops a (suc k) f x) (ended_same (sym e ∙ d)) s) t

not_both : (a : Alg) {k n : ℕ} {f g : List ℕ} {x : Halt} → Settles a k f n g → Stops a k f x → ⊥
not_both a (equal e) (here x l d) = cc
not_both a (equal e) (later g d q t) = q (ended_same (sym d ∙ e))
not_both a (again g e p s) (here x l d) = cc
not_both a {k} {n} {g = h} (again g e p s) (later i d q t) = not_both a (subst (λ (f : List ℕ). Settles a (suc k) f n h) (ended_same (sym e ∙ d)) s) t

not_empty : (a : Alg) {k n : ℕ} {g : List ℕ} → Settles a k [] n g → ⊥
not_empty a {k} {n} {g} s = not_both a s (here (Unread (record { reason = BadLength; place = 0 })) 0x43 refl)

not_halted : (a : Alg) (f g : List ℕ) (n : ℕ) (x : Halt) → Settles a 1 f n g → Halts a f x → ⊥
not_halted a [] g n x s h = not_empty a s
not_halted a (y ∷ ys) g n x s h = not_both a s h

halts_one : (a : Alg) (f : List ℕ) (x y : Halt) → Halts a f x → Halts a f y → x ≡ y
halts_one a [] x y p q = p ∙ sym q
halts_one a (z ∷ zs) x y p q = stops_one a p q

pub settle_one : OneSettledAnswer
settle_one a f g h (Ok m) (Ok n) s t = let p = settles_one a s t in (p.0, ap Ok p.1)
settle_one a f g h (Ok m) (Err y) s t = absurd (not_halted a f g m y.halt s t.why)
settle_one a f g h (Err x) (Ok n) s t = absurd (not_halted a f h n x.halt t s.why)
settle_one a f g h (Err x) (Err y) s t = (s.kept ∙ sym t.kept, ap (λ (z : Halt). Err (record { halt = z })) (halts_one a f x.halt y.halt s.why t.why))

-- the function of rounds
same_false : (xs ys : List ℕ) → (ys ≡ xs → ⊥) → same xs ys ≡ false
same_false xs ys d = go (same xs ys) refl
  where
    go : (b : Bool) → same xs ys ≡ b → same xs ys ≡ false
    go true e = absurd (d (sym (same_eq xs ys e)))
    go false e = e

-- what a round's end makes of the rest
module _ (n : ℕ) (a : Alg) (k : ℕ) (f : List ℕ) where
  abbrev on_round : Round → Settlement
  on_round r =
      elim r as (λ _. Settlement) [
        | ended g ↦ elim (same f g) as (λ _. Settlement) [ true ↦ settled k g | false ↦ rounds n a (suc k) g ]
        | failed e l ↦ halted (record { fault = e; letter = l; round = k })
      ]

  abbrev on_same : List ℕ → Bool → Settlement
  on_same g b = elim b as (λ _. Settlement) [ true ↦ settled k g | false ↦ rounds n a (suc k) g ]

late : (a : Alg) {k n : ℕ} {f g : List ℕ} → Settles a k f n g → k ≤ n
late a (equal e) = omega arith
late a (again g e d t) = omega (arith, late a t)

late_stop : (a : Alg) {k : ℕ} {f : List ℕ} {x : Halt} → Stops a k f x → k ≤ x.round
late_stop a (here x l e) = omega arith
late_stop a (later g e d t) = omega (arith, late_stop a t)

rounds_settle : (m : ℕ) (a : Alg) {k n : ℕ} {f g : List ℕ} → Settles a k f n g → n < k + m → rounds m a k f ≡ settled n g
rounds_settle zero a s l = absurd (omega (arith, late a s))
rounds_settle (suc m) a {k} {f = f} (equal e) l = ap (on_round m a k f) e ∙ ap (on_same m a k f f) (same_refl f)
rounds_settle (suc m) a {k} {f = f} (again g e d t) l =
    ap (on_round m a k f) e ∙ (ap (on_same m a k f g) (same_false f g d) ∙ rounds_settle m a t (omega arith))

rounds_stop : (m : ℕ) (a : Alg) {k : ℕ} {f : List ℕ} {x : Halt} → Stops a k f x → x.round < k + m →
    rounds m a k f ≡ halted x
rounds_stop zero a s l = absurd (omega (arith, late_stop a s))
rounds_stop (suc m) a {k} {f} (here x i e) l = ap (on_round m a k f) e
rounds_stop (suc m) a {k} {f} (later g e d t) l =
    ap (on_round m a k f) e ∙ (ap (on_same m a k f g) (same_false f g d) ∙ rounds_stop m a t (omega arith))

soon : (a : Alg) → Lawful a → (f : List ℕ) → Bytes f → (g : List ℕ) (r : Result ℕ SettleFault) → Settling a f g r → told r ≤ rounds_for (reading a f)
soon a law f b g r s =
    let x = settle_answers a law f b in
    let e = settle_one a f x.after g x.answer r x.settles s in
    subst (λ (r : Result ℕ SettleFault). told r ≤ rounds_for (reading a f)) e.1 x.soon

some_long : (n : ℕ) → eqb (suc n) 0 ≡ false
some_long n = go (eqb (suc n) 0) refl
  where
    go : (b : Bool) → eqb (suc n) 0 ≡ b → eqb (suc n) 0 ≡ false
    go true e = absurd (omega (arith, eqb-true (suc n) 0 e))
    go false e = e

abbrev on_length : Alg → List ℕ → Bool → Settlement
on_length a f b = elim b as (λ _. Settlement) [ true ↦ halted empty_halt | false ↦ rounds (rounds_for (reading a f)) a 1 f ]

pub settle_function : SettleComputes
settle_function a law [] b = (λ n g s. absurd (not_empty a s), λ x s. sym (ap halted s.why))
settle_function a law (y ∷ ys) b = (
  λ n g s. ap (on_length a (y ∷ ys)) (some_long (length ys)) ∙ rounds_settle (rounds_for (reading a (y ∷ ys))) a s (omega (arith, soon a law (y ∷ ys) b g (Ok n) s)),
  λ x s. ap (on_length a (y ∷ ys)) (some_long (length ys)) ∙ rounds_stop (rounds_for (reading a (y ∷ ys))) a s.why (omega (arith, soon a law (y ∷ ys) b (y ∷ ys) (Err x) s)),
)
