-- Runs on what is held.
use Rattle.std.proofs.Common.{◌≡◌, ◌≢◌, ℕ, suc, ◌≤◌, Bool, true, false, eqb, ◌⊎◌, inl, inr, List, [], ◌∷◌, length, take, Ok, Err, Result, sym, refl, ap, ◌∙◌, subst, arith}
use Rattle.std.proofs.lemmas.Bool.Decides.{eqb_tells}
use Rattle.faults.specs.declared.Reason.TheVariants.{BenchEmpty, NoSuchName}
use Rattle.faults.specs.declared.PassFault.{PassFault}
use Rattle.faults.specs.declared.PassFault.TheVariants.{Declined}
use Rattle.definitions.specs.Alg.{Alg}
use Rattle.definitions.specs.ReadSystem.{reading}
use Rattle.definitions.specs.Settle.{Pass, Ran, wrote, refused, run, passes}
use Rattle.definitions.specs.Rules.{Rules, applied}
use Rattle.definitions.specs.Calls.{Bytes, Applies, Delivers, Stayed, Answers, run_on, run_by, lettered, Halts, Settling, Expanding}
use Rattle.faults.specs.declared.SettleFault.{SettleFault}
use Rattle.faults.specs.declared.ExpandFault.{ExpandFault}
use Rattle.faults.specs.declared.ExpandFault.TheVariants.{Refused}
use Rattle.definitions.specs.Boolean.{expand_on, expand_read}
use Rattle.definitions.specs.Past.{runs, letters, settles, expands}
use Rattle.definitions.specs.Histories.{Follows}
use Rattle.theorems.proofs.Histories.{ran_bytes}
use Rattle.theorems.proofs.Answerables.{run_applied}
use Rattle.theorems.proofs.Main.{follows}
use Rattle.passes.specs.declared.named.Named.{Named}
use Rattle.passes.specs.declared.named.Named.TheVariants.{Constants, Fold, Redundant, Unreachable}
use Rattle.passes.specs.Letters.{letter_of}
use Rattle.passes.specs.Meanings.{meaning_of}
use Rattle.bench.proofs.Tails.{seam_front}

on_some : (m : Pass) (a : Alg) (h : List ℕ) → 1 ≤ length h → run_on m a h ≡ run m a h
on_some m a [] l = absurd (omega arith)
on_some m a (x ∷ xs) l = refl

-- an answer of a run adds itself to every history
pub run_follows : (a : Alg) (m : Pass) (h k : List ℕ) (r : Result (Unit {0}) PassFault) → Rules m → Answers (run_on m a h) h k r → Follows (runs a m r) h k
run_follows a m h k r rules x = follows (runs a m r) h k (rules, x)

pub letter_follows : (a : Alg) (l : ℕ) (h k : List ℕ) (r : Result (Unit {0}) PassFault) → Answers (run_by l a h) h k r → Follows (letters a l r) h k
letter_follows a l h k r x = follows (letters a l r) h k x

-- on an empty bench, whatever would run
pub empty_run : (m : Pass) (a : Alg) (h : List ℕ) → h ≡ [] → Answers (run_on m a h) h h (Err (Declined BenchEmpty))
empty_run m a h e = record { why = ap (run_on m a) e; kept = refl }

pub empty_letter : (l : ℕ) (a : Alg) (h : List ℕ) → h ≡ [] → Answers (run_by l a h) h h (Err (Declined BenchEmpty))
empty_letter l a h e = record { why = ap (run_by l a) e; kept = refl }

-- what a pass wrote into a buffer that is long enough is held, and a refusal is handed on
pub obeyed_run : (m : Pass) (a : Alg) (h f before after : List ℕ) (n : ℕ) → f ≡ h → 1 ≤ length h → 8192 ≤ length before →
    Applies (applied m a (length before) f) before after (Ok n) → Answers (run_on m a h) h (take n after) (Ok tt)
obeyed_run m a h f before after n i l big d =
    let front : take n after ≡ d.file = ap (λ k. take k after) d.put.long ∙ seam_front d.file before after d.put.front in
    on_some m a h l ∙ (ap (run m a) (sym i) ∙ (sym (run_applied m a (length before) f big) ∙ (d.wrote ∙ ap wrote (sym front))))

-- what a pass wrote are bytes
pub run_bytes : (m : Pass) (a : Alg) (f before after : List ℕ) (n : ℕ) → 8192 ≤ length before → Applies (applied m a (length before) f) before after (Ok n) → Bytes (take n after)
run_bytes m a f before after n big d =
    let front : take n after ≡ d.file = ap (λ k. take k after) d.put.long ∙ seam_front d.file before after d.put.front in
    subst Bytes (sym front) (ran_bytes m a (reading a f) d.file (sym (run_applied m a (length before) f big) ∙ d.wrote))

pub declined_run : (m : Pass) (a : Alg) (h f before after : List ℕ) (e : PassFault) (r : Result (Unit {0}) PassFault) → f ≡ h → 1 ≤ length h → 8192 ≤ length before →
    Applies (applied m a (length before) f) before after (Err e) → r ≡ Err e → Answers (run_on m a h) h h r
declined_run m a h f before after e (Ok x) i l big d q = absurd cc
declined_run m a h f before after e (Err y) i l big d q =
    let t : e ≡ y = cc in
    record { why = on_some m a h l ∙ (ap (run m a) (sym i) ∙ (sym (run_applied m a (length before) f big) ∙ (d.why ∙ ap refused t))); kept = refl }

-- a letter's pass is the pass that is run
named_run : (x : Named) (a : Alg) (h : List ℕ) → run_by (letter_of x) a h ≡ run_on (meaning_of x) a h
named_run Constants a [] = refl
named_run Constants a (y ∷ ys) = refl
named_run Fold a [] = refl
named_run Fold a (y ∷ ys) = refl
named_run Redundant a [] = refl
named_run Redundant a (y ∷ ys) = refl
named_run Unreachable a [] = refl
named_run Unreachable a (y ∷ ys) = refl

pub letter_run : (x : Named) (l : ℕ) (a : Alg) (h k : List ℕ) (r : Result (Unit {0}) PassFault) → letter_of x ≡ l → Answers (run_on (meaning_of x) a h) h k r → Answers (run_by l a h) h k r
letter_run x l a h k (Ok u) e p = sym (ap (λ j. run_by j a h) e) ∙ (named_run x a h ∙ p)
letter_run x l a h k (Err u) e p = record { why = sym (ap (λ j. run_by j a h) e) ∙ (named_run x a h ∙ p.why); kept = p.kept }

-- no pass goes by the letter
skip : (l j : ℕ) (o p : Ran) → (j ≢ l) → elim (eqb l j) [ true ↦ o | false ↦ p ] ≡ p
skip l j o p d =
    elim (eqb_tells l j) [
      | inl x ↦ absurd (d (sym x.1))
      | inr x ↦ ap (λ (b : Bool). elim b as (λ _. Ran) [ true ↦ o | false ↦ p ]) x.0
    ]

no_letter : (l : ℕ) (a : Alg) (h : List ℕ) → 1 ≤ length h → ((x : Named) → letter_of x ≢ l) → run_by l a h ≡ refused (Declined NoSuchName)
no_letter l a [] n d = absurd (omega arith)
no_letter l a (y ∷ ys) n d =
    skip l 0x43 _ _ (d Constants) ∙ (skip l 0x46 _ _ (d Fold) ∙ (skip l 0x52 _ _ (d Redundant) ∙ skip l 0x55 _ _ (d Unreachable)))

pub declined_letter : (l : ℕ) (a : Alg) (h : List ℕ) (r : Result (Unit {0}) PassFault) → 1 ≤ length h → ((x : Named) → letter_of x ≢ l) → r ≡ Err (Declined NoSuchName) → Answers (run_by l a h) h h r
declined_letter l a h (Ok x) n d q = absurd cc
declined_letter l a h (Err y) n d q = let t : Declined NoSuchName ≡ y = cc in record { why = no_letter l a h n d ∙ ap refused t; kept = refl }

-- settling
pub settle_follows : (a : Alg) (h k : List ℕ) (r : Result ℕ SettleFault) → Settling a h k r → Follows (settles a r) h k
settle_follows a h k r x = follows (settles a r) h k x

pub declined_settle : (a : Alg) (h : List ℕ) (e : SettleFault) (r : Result ℕ SettleFault) → Halts a h e.halt → r ≡ Err e → Settling a h h r
declined_settle a h e (Ok n) w q = absurd cc
declined_settle a h e (Err d) w q = let t : e ≡ d = cc in record { why = subst (λ (y : SettleFault). Halts a h y.halt) t w; kept = refl }

-- expanding
pub expand_follows : (a : Alg) (places : ℕ) (before after h : List ℕ) (r : Result (ℕ × ℕ) ExpandFault) → Expanding (expand_on a places (length before) h) before after r →
    Follows (expands a places before after r) h h
expand_follows a places before after h r x = follows (expands a places before after r) h h (x, refl)

pub empty_expand : (a : Alg) (places : ℕ) (before h : List ℕ) → h ≡ [] → Expanding (expand_on a places (length before) h) before before (Err (Refused BenchEmpty))
empty_expand a places before h e = record { why = ap (expand_on a places (length before)) e; kept = refl }

-- what is held is expanded as a file is
pub held_expand : (a : Alg) (places : ℕ) (before after f h : List ℕ) (r : Result (ℕ × ℕ) ExpandFault) → f ≡ h → 1 ≤ length h →
    Expanding (expand_read a places (length before) (reading a f)) before after r → Expanding (expand_on a places (length before) h) before after r
held_expand a places before after f h r e l x = subst (λ o. Expanding o before after r) (ap (λ g. expand_read a places (length before) (reading a g)) e ∙ sym (some h l)) x
  where
    some : (h : List ℕ) → 1 ≤ length h → expand_on a places (length before) h ≡ expand_read a places (length before) (reading a h)
    some [] l = absurd (omega arith)
    some (y ∷ ys) l = refl
