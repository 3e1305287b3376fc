-- A round letter by letter, and rounds one after the other.
use Rattle.std.proofs.Common.{◌≡◌, ◌≢◌, ℕ, zero, suc, ◌+◌, ◌<◌, ◌≤◌, Bool, true, false, nat_eq, List, [], ◌∷◌, length, drop, get_or, Ok, Err, Result, sym, refl, ap, ◌∙◌, subst, arith}
use Rattle.faults.specs.declared.Reason.TheVariants.{BenchEmpty}
use Rattle.faults.specs.declared.PassFault.{PassFault}
use Rattle.faults.specs.declared.PassFault.TheVariants.{Declined}
use Rattle.faults.specs.declared.Halt.{Halt}
use Rattle.std.specs.Prelude.{Decides}
use Rattle.std.specs.Cmp.Lexicographic.{pointwise}
use Rattle.std.proofs.lemmas.Bool.Decides.{Decides-eqb}
use Rattle.std.proofs.lemmas.Slice.Eq.{slice_eq-Decides}
use Rattle.faults.specs.declared.SettleFault.{SettleFault}
use Rattle.definitions.specs.Alg.{Alg, Lawful}
use Rattle.definitions.specs.ReadSystem.{reading}
use Rattle.definitions.specs.Settle.{Pass, Ran, wrote, refused, run, passes, Round, ended, failed, round_by, rounds_for}
use Rattle.definitions.specs.Constants.{pass_c}
use Rattle.definitions.specs.Passes.{pass_f, pass_r, pass_u}
use Rattle.definitions.specs.Calls.{Bytes, run_by, Settles, equal, again, Stops, here, later, Halts}
use Rattle.theorems.proofs.Lightness.{rounds_within_limit}
use Rattle.theorems.proofs.Rounding.{fewer_rounds, run_some, round_some}
use Rattle.bench.specs.Rounds.{NotRun, round_on, Failed, Rounded, Rounds}

-- what is left of a round when the first i passes have run
abbrev rest_on : Alg → ℕ → List ℕ → Round
rest_on a i [] = failed (Declined BenchEmpty) 0x43
rest_on a i (x ∷ xs) = round_by a (drop i passes) (x ∷ xs)

pub record Going (a : Alg) (before : List ℕ) (i : ℕ) (now : List ℕ) : Type 0 where
  pub left : round_on a before ≡ rest_on a i now
  pub some : 1 ≤ i → now ≢ []

pub going_first : (a : Alg) (h : List ℕ) → Going a h 0 h
going_first a h = record { left = same h; some = λ l. absurd (omega arith) }
  where
    same : (h : List ℕ) → round_on a h ≡ rest_on a 0 h
    same [] = refl
    same (x ∷ xs) = refl

abbrev letter_at : ℕ → ℕ
letter_at i = get_or (0x43 ∷ 0x46 ∷ 0x52 ∷ 0x55 ∷ []) i 0

-- one pass on a file that is not empty
one_of : (m : Pass) (l : ℕ) (ms : List (ℕ × Pass)) (a : Alg) (f k : List ℕ) → run m a f ≡ wrote k → round_by a ((l, m) ∷ ms) f ≡ round_by a ms k
one_of m l ms a f k e = ap (λ (o : Ran). elim o as (λ _. Round) [ wrote g ↦ round_by a ms g | refused e ↦ failed e l ]) e

none_of : (m : Pass) (l : ℕ) (ms : List (ℕ × Pass)) (a : Alg) (f : List ℕ) (x : PassFault) → run m a f ≡ refused x → round_by a ((l, m) ∷ ms) f ≡ failed x l
none_of m l ms a f x e = ap (λ (o : Ran). elim o as (λ _. Round) [ wrote g ↦ round_by a ms g | refused e ↦ failed e l ]) e

on_rest : (a : Alg) (i : ℕ) (k : List ℕ) → (k ≢ []) → round_by a (drop i passes) k ≡ rest_on a i k
on_rest a i [] d = absurd (d refl)
on_rest a i (x ∷ xs) d = refl

put : (m : Pass) (l : ℕ) (ms : List (ℕ × Pass)) (a : Alg) (f k : List ℕ) (n : ℕ) → drop n passes ≡ ms → run m a f ≡ wrote k → (round_by a ((l, m) ∷ ms) f ≡ rest_on a n k) × (k ≢ [])
put m l ms a f k n e r = let d = run_some m a f k r in (one_of m l ms a f k r ∙ (ap (λ q. round_by a q k) (sym e) ∙ on_rest a n k d), d)

step : (a : Alg) (i : ℕ) (h k : List ℕ) → i < 4 → run_by (letter_at i) a h ≡ wrote k → (rest_on a i h ≡ rest_on a (suc i) k) × (k ≢ [])
step a i [] k l e = absurd cc
step a zero (x ∷ xs) k l e = put pass_c 0x43 (drop 1 passes) a (x ∷ xs) k 1 refl e
step a (suc zero) (x ∷ xs) k l e = put pass_f 0x46 (drop 2 passes) a (x ∷ xs) k 2 refl e
step a (suc (suc zero)) (x ∷ xs) k l e = put pass_r 0x52 (drop 3 passes) a (x ∷ xs) k 3 refl e
step a (suc (suc (suc zero))) (x ∷ xs) k l e = put pass_u 0x55 (drop 4 passes) a (x ∷ xs) k 4 refl e
step a (suc (suc (suc (suc i)))) (x ∷ xs) k l e = absurd (omega arith)

stop : (a : Alg) (i : ℕ) (h : List ℕ) (x : PassFault) → i < 4 → (1 ≤ i → h ≢ []) → run_by (letter_at i) a h ≡ refused x → rest_on a i h ≡ failed x (letter_at i)
stop a zero [] x l s e = ap (λ (o : Ran). elim o as (λ _. Round) [ wrote g ↦ ended g | refused y ↦ failed y 0x43 ]) e
stop a (suc i) [] x l s e = absurd (s (omega arith) refl)
stop a zero (y ∷ ys) x l s e = none_of pass_c 0x43 (drop 1 passes) a (y ∷ ys) x e
stop a (suc zero) (y ∷ ys) x l s e = none_of pass_f 0x46 (drop 2 passes) a (y ∷ ys) x e
stop a (suc (suc zero)) (y ∷ ys) x l s e = none_of pass_r 0x52 (drop 3 passes) a (y ∷ ys) x e
stop a (suc (suc (suc zero))) (y ∷ ys) x l s e = none_of pass_u 0x55 (drop 4 passes) a (y ∷ ys) x e
stop a (suc (suc (suc (suc i)))) (y ∷ ys) x l s e = absurd (omega arith)

pub going_next : (a : Alg) (before h k : List ℕ) (i : ℕ) → Going a before i h → i < 4 → run_by (letter_at i) a h ≡ wrote k → Going a before (i + 1) k
going_next a before h k i g b e =
    let s = step a i h k b e in
    let q : suc i ≡ i + 1 = omega arith in
    record { left = g.left ∙ (s.0 ∙ ap (λ j. rest_on a j k) q); some = λ _. s.1 }

pub going_stop : (a : Alg) (before h after : List ℕ) (i round : ℕ) (r : Result (Unit {0}) Halt) (x : Halt) → Going a before i h → i < 4 → NotRun a (letter_at i) round h x → r ≡ Err x →
    Rounded a round before after r
going_stop a before h after i round (Ok u) x g b n e = absurd cc
going_stop a before h after i round (Err y) x g b n e =
    let t : x ≡ y = cc in
    subst (Failed a round before) t (record { why = g.left ∙ (stop a i h x.fault b g.some n.why ∙ ap (failed x.fault) (sym n.named)); number = n.number })

pub going_end : (a : Alg) (before h : List ℕ) (i : ℕ) → Going a before i h → 4 ≤ i → round_on a before ≡ ended h
going_end a before h i g b = g.left ∙ (sym (on_rest a i h (g.some (omega arith))) ∙ ap (λ ms. round_by a ms h) (over i b))
  where
    over : (i : ℕ) → 4 ≤ i → ◌≡◌ {A = List (ℕ × Pass)} (drop i passes) []
    over zero b = absurd (omega arith)
    over (suc zero) b = absurd (omega arith)
    over (suc (suc zero)) b = absurd (omega arith)
    over (suc (suc (suc zero))) b = absurd (omega arith)
    over (suc (suc (suc (suc i)))) b = none i
      where
        none : (i : ℕ) → ◌≡◌ {A = List (ℕ × Pass)} (drop i []) []
        none zero = refl
        none (suc i) = refl

-- before the round numbered k
abbrev HaltsFrom : Alg → ℕ → List ℕ → Halt → Type 0
HaltsFrom a k [] x = x ≡ record { fault = Declined BenchEmpty; letter = 0x43; round = k }
HaltsFrom a k (y ∷ ys) x = Stops a k (y ∷ ys) x

pub record Begun (a : Alg) (first : List ℕ) (k : ℕ) (now : List ℕ) : Type 0 where
  pub settles : (n : ℕ) (g : List ℕ) → Settles a k now n g → Settles a 1 first n g
  pub halts : (x : Halt) → HaltsFrom a k now x → Halts a first x
  pub soon : k + rounds_for (reading a now) ≤ 65538
  pub bytes : Bytes now

pub begun_first : (a : Alg) → Lawful a → (f : List ℕ) → Bytes f → length f ≤ 8192 → Begun a f 1 f
begun_first a law f b l = record { settles = λ n g s. s; halts = same f; soon = omega (arith, rounds_within_limit a law f b l); bytes = b }
  where
    same : (f : List ℕ) (x : Halt) → HaltsFrom a 1 f x → Halts a f x
    same [] x h = h
    same (y ∷ ys) x h = h

-- a round on an empty bench is declined
ended_some : (a : Alg) (f g : List ℕ) → round_on a f ≡ ended g → round_by a passes f ≡ ended g
ended_some a [] g e = absurd cc
ended_some a (x ∷ xs) g e = e

pub fewer : (a : Alg) → Lawful a → (f g : List ℕ) → Bytes f → round_on a f ≡ ended g → (g ≢ f) → rounds_for (reading a g) < rounds_for (reading a f)
fewer a law f g b e d = fewer_rounds a law f g b (ended_some a f g e) d

pub begun_next : (a : Alg) → Lawful a → (first f g : List ℕ) (k : ℕ) → Begun a first k f → round_on a f ≡ ended g → (g ≢ f) → Bytes g → Begun a first (k + 1) g
begun_next a law first f g k i e d b =
    let r = ended_some a f g e in
    let q : suc k ≡ k + 1 = omega arith in
    subst (λ j. Begun a first j g) q (record {
      settles = λ n h s. i.settles n h (again g r d s);
      halts = λ x h. i.halts x (on f x e (later_on g x r d h));
      soon = omega (arith, i.soon, fewer_rounds a law f g i.bytes r d);
      bytes = b;
    })
  where
    later_on : (g : List ℕ) (x : Halt) → round_by a passes f ≡ ended g → (g ≢ f) → HaltsFrom a (suc k) g x → Stops a k f x
    later_on [] x r d h = absurd (round_some a f [] r refl)
    later_on (y ∷ ys) x r d h = later (y ∷ ys) r d h

    on : (f : List ℕ) (x : Halt) → round_on a f ≡ ended g → Stops a k f x → HaltsFrom a k f x
    on [] x e h = absurd cc
    on (y ∷ ys) x e h = h

pub begun_equal : (a : Alg) (first f g : List ℕ) (k : ℕ) → Begun a first k f → round_on a f ≡ ended g → g ≡ f → Settles a 1 first k g
begun_equal a first f g k i e q = i.settles k g (subst (λ h. Settles a k h k g) q (equal (subst (λ h. round_by a passes h ≡ ended g) (sym q) (ended_some a f g e))))

halt_is : (x : Halt) (f : PassFault) (l k : ℕ) → x.fault ≡ f → x.letter ≡ l → x.round ≡ k → x ≡ record { fault = f; letter = l; round = k }
halt_is x f l k p q r =
    ap (λ g. record { fault = g; letter = x.letter; round = x.round }) p ∙
    (ap (λ j. record { fault = f; letter = j; round = x.round }) q ∙ ap (λ j. record { fault = f; letter = l; round = j }) r)

failed_same : {f g : PassFault} {k l : ℕ} → failed f k ≡ failed g l → (f ≡ g) × (k ≡ l)
failed_same e = (cc, cc)

begun_stop : (a : Alg) (first f : List ℕ) (k : ℕ) (x : Halt) → Begun a first k f → Failed a k f x → Halts a first x
begun_stop a first f k x i e = i.halts x (on f e)
  where
    on : (f : List ℕ) → Failed a k f x → HaltsFrom a k f x
    on [] e = let t = failed_same e.why in halt_is x (Declined BenchEmpty) 0x43 k (sym t.0) (sym t.1) e.number
    on (y ∷ ys) e = subst (Stops a k (y ∷ ys)) (sym (halt_is x x.fault x.letter k refl refl e.number)) (here x.fault x.letter e.why)

pub rounds_stop : (a : Alg) (first f after : List ℕ) (k : ℕ) (x : Halt) (e : SettleFault) (r : Result ℕ SettleFault) → Begun a first k f → Failed a k f x → r ≡ Err e → e.halt ≡ x → Rounds a first after r
rounds_stop a first f after k x e (Ok n) i w q h = absurd cc
rounds_stop a first f after k x e (Err d) i w q h =
    let t : e ≡ d = cc in
    subst (Halts a first) (sym h ∙ ap (λ (y : SettleFault). y.halt) t) (begun_stop a first f k x i w)

-- whether the file before a round is that behind it
pub same_held : (xs ys : List ℕ) (b : Bool) → b ≡ pointwise nat_eq xs ys → Decides b (xs ≡ ys)
same_held xs ys b e = slice_eq-Decides Decides-eqb xs ys b e
