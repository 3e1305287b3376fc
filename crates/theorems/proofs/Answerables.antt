-- Every call has exactly one answer.
use Rattle.std.proofs.Common.{◌≡◌, ℕ, ◌≤◌, Bool, true, false, ◌&&◌, leb, List, [], ◌∷◌, ◌++◌, length, drop, Some, None, Ok, Err, Option, Result, sym, refl, ap, ◌∙◌, subst, ap₂, arith, le-leb, leb-true}
use Rattle.std.proofs.lemmas.Bool.{and_parts}
use Rattle.faults.specs.declared.Reason.{Reason}
use Rattle.faults.specs.declared.Reason.TheVariants.{ResultTooLong, TooManyInstances, BooleanTooLong, TooFewTruths}
use Rattle.faults.specs.declared.ReadFault.{ReadFault}
use Rattle.faults.specs.declared.PassFault.{PassFault}
use Rattle.faults.specs.declared.PassFault.TheVariants.{Declined}
use Rattle.faults.specs.declared.ExpandFault.{ExpandFault}
use Rattle.faults.specs.declared.ExpandFault.TheVariants.{Refused}
use Rattle.faults.specs.declared.SolveFault.{SolveFault}
use Rattle.definitions.specs.Alg.{Alg}
use Rattle.definitions.specs.Systems.{System}
use Rattle.definitions.specs.Reading.{Reading, got, bad}
use Rattle.definitions.specs.ReadSystem.{reading}
use Rattle.definitions.specs.Written.{written}
use Rattle.definitions.specs.Settle.{Pass, Ran, wrote, refused, ran_on}
use Rattle.definitions.specs.Rules.{fitted_in, applied_to, applied}
use Rattle.definitions.specs.Boolean.{Variable, boolean_written, boolean_reading, solves, Expanded, made, refused as declined, shipped, expanded, expand_read, expand_on}
use Rattle.definitions.specs.Calls.{Delivered, Loads, Answers, Applies, run_on, run_by, Expanding, Solved, found, unsolved, solve_variables, solve, Solving}
use Rattle.theorems.specs.CallLaws.{CallsAnswer, CallsAnswerOnce, BuffersAnswer, RunIsApplied}
use Rattle.theorems.proofs.PassRules.{passes_rule}
use Rattle.theorems.proofs.Histories.{sound, found_same, solves_long}
use Rattle.theorems.proofs.Settled.{settle_answers, settle_one}

load_answer : (a : Alg) (f h : List ℕ) (o : Reading System) → reading a f ≡ o → (r : Result (Unit {0}) ReadFault) × (k : List ℕ) × Loads a f h k r
load_answer a f h (got s) e = (Ok tt, f, record { system = s; read = e; holds = refl })
load_answer a f h (bad r p) e = (Err (record { reason = r; place = p }), h, record { why = e; kept = refl })

run_answer : (o : Ran) (h : List ℕ) → (r : Result (Unit {0}) PassFault) × (k : List ℕ) × Answers o h k r
run_answer (wrote g) h = (Ok tt, g, refl)
run_answer (refused x) h = (Err x, h, record { why = refl; kept = refl })

-- a result in front of the buffer
delivered : (g before : List ℕ) → length g ≤ length before → Delivered g before (g ++ drop (length g) before) (length g)
delivered g before l = record { long = refl; room = l; front = refl }

pass_answer : (o : Ran) (before : List ℕ) → ((g : List ℕ) → o ≡ wrote g → length g ≤ length before) → (r : Result ℕ PassFault) × (after : List ℕ) × Applies o before after r
pass_answer (wrote g) before l = (Ok (length g), g ++ drop (length g) before, record { file = g; wrote = refl; put = delivered g before (l g refl) })
pass_answer (refused x) before l = (Err x, before, record { why = refl; kept = refl })

wrote_same : {f g : List ℕ} → wrote f ≡ wrote g → f ≡ g
wrote_same e = cc

refused_same : {x y : PassFault} → refused x ≡ refused y → x ≡ y
refused_same e = cc

fitted_in_lem : (room : ℕ) (h g : List ℕ) → fitted_in room h ≡ wrote g → length g ≤ room
fitted_in_lem room h g e = go (leb (length h) room && leb (length h) 8192) refl e
  where
    go : (b : Bool) → (leb (length h) room && leb (length h) 8192) ≡ b → elim b as (λ _. Ran) [ true ↦ wrote h | false ↦ refused (Declined ResultTooLong) ] ≡ wrote g → length g ≤ room
    go true t e = subst (λ (g : List ℕ). length g ≤ room) (wrote_same e) (leb-true (length h) room (and_parts (leb (length h) room) (leb (length h) 8192) t).0)
    go false t e = absurd cc

applied_in : (m : Pass) (a : Alg) (room : ℕ) (o : Reading System) (g : List ℕ) → applied_to m a room o ≡ wrote g → length g ≤ room
applied_in m a room (got s) g e = fitted_in_lem room (written (m a s)) g e
applied_in m a room (bad r p) g e = absurd cc

made_file : {g h : List ℕ} {m n : ℕ} → made g m ≡ made h n → g ≡ h
made_file e = cc

shipped_in : (places room : ℕ) (vs : List Variable) (g : List ℕ) (n : ℕ) → shipped places room vs ≡ made g n → length g ≤ room
shipped_in places room vs g n e = go (leb (length vs) places) (leb (length (boolean_written vs)) room && leb (length (boolean_written vs)) 65535) refl e
  where
    go : (b c : Bool) → (leb (length (boolean_written vs)) room && leb (length (boolean_written vs)) 65535) ≡ c →
        elim b as (λ _. Expanded) [
          | true ↦ elim c as (λ _. Expanded) [ true ↦ made (boolean_written vs) (length vs) | false ↦ declined (Refused BooleanTooLong) ]
          | false ↦ declined (Refused TooManyInstances)
        ] ≡ made g n → length g ≤ room
    go true true t e = subst (λ (g : List ℕ). length g ≤ room) (made_file e)
        (leb-true (length (boolean_written vs)) room (and_parts (leb (length (boolean_written vs)) room) (leb (length (boolean_written vs)) 65535) t).0)
    go true false t e = absurd cc
    go false c t e = absurd cc

expand_in : (a : Alg) (places room : ℕ) (h g : List ℕ) (n : ℕ) → expand_on a places room h ≡ made g n → length g ≤ room
expand_in a places room [] g n e = absurd cc
expand_in a places room (x ∷ xs) g n e = read (reading a (x ∷ xs)) e
  where
    listed : (o : Option (List Variable)) → elim o as (λ _. Expanded) [ None ↦ declined (Refused TooManyInstances) | Some vs ↦ shipped places room vs ] ≡ made g n → length g ≤ room
    listed None e = absurd cc
    listed (Some vs) e = shipped_in places room vs g n e

    read : (o : Reading System) → expand_read a places room o ≡ made g n → length g ≤ room
    read (got s) e = listed (expanded a s) e
    read (bad r p) e = absurd cc

expand_answer : (o : Expanded) (before : List ℕ) → ((g : List ℕ) (n : ℕ) → o ≡ made g n → length g ≤ length before) → (r : Result (ℕ × ℕ) ExpandFault) × (after : List ℕ) × Expanding o before after r
expand_answer (made g n) before l = (Ok (length g, n), g ++ drop (length g) before, record { file = g; makes = refl; put = delivered g before (l g n refl) })
expand_answer (declined x) before l = (Err x, before, record { why = refl; kept = refl })

pub calls_answer : CallsAnswer
calls_answer es h p =
    record {
      load = λ a f b. let x = load_answer a f h (reading a f) refl in (x.0, x.1, (b, x.2));
      run = λ a m r. let x = run_answer (run_on m a h) h in (x.0, x.1, (r, x.2));
      letter = λ a l. run_answer (run_by l a h) h;
      settle = λ a law. let x = settle_answers a law h (sound passes_rule es h p).bytes in (x.answer, x.after, x.settles);
      expand = λ a places before.
          let x = expand_answer (expand_on a places (length before) h) before (expand_in a places (length before) h) in (x.0, x.1, (x.2, refl));
    }

-- and only one
read_fault_is : (e d : ReadFault) → e.reason ≡ d.reason → e.place ≡ d.place → e ≡ d
read_fault_is e d p q = ap₂ (λ (r : Reason) (w : ℕ). record { reason = r; place = w }) p q

bad_same : {r w : Reason} {p z : ℕ} → ◌≡◌ {A = Reading System} (bad r p) (bad w z) → (r ≡ w) × (p ≡ z)
bad_same e = (cc, cc)

load_one : (a : Alg) (f h : List ℕ) (q r : Result (Unit {0}) ReadFault) (k m : List ℕ) → Loads a f h k q → Loads a f h m r → (q ≡ r) × (k ≡ m)
load_one a f h (Ok u) (Ok v) k m s t = (refl, s.holds ∙ sym t.holds)
load_one a f h (Ok u) (Err d) k m s t = absurd cc
load_one a f h (Err e) (Ok v) k m s t = absurd cc
load_one a f h (Err e) (Err d) k m s t = let x = bad_same (sym s.why ∙ t.why) in (ap Err (read_fault_is e d x.0 x.1), s.kept ∙ sym t.kept)

run_one : (o : Ran) (h : List ℕ) (q r : Result (Unit {0}) PassFault) (k m : List ℕ) → Answers o h k q → Answers o h m r → (q ≡ r) × (k ≡ m)
run_one o h (Ok u) (Ok v) k m s t = (refl, wrote_same (sym s ∙ t))
run_one o h (Ok u) (Err d) k m s t = absurd cc
run_one o h (Err e) (Ok v) k m s t = absurd cc
run_one o h (Err e) (Err d) k m s t = (ap Err (refused_same (sym s.why ∙ t.why)), s.kept ∙ sym t.kept)

delivered_one : (f g before after after' : List ℕ) (n m : ℕ) → f ≡ g → Delivered f before after n → Delivered g before after' m → (n ≡ m) × (after ≡ after')
delivered_one f g before after after' n m e s t = (
  s.long ∙ ap length e ∙ sym t.long,
  s.front ∙ ap (λ (z : List ℕ). z ++ drop (length z) before) e ∙ sym t.front,
)

pass_one : (o : Ran) (before after after' : List ℕ) (q r : Result ℕ PassFault) → Applies o before after q → Applies o before after' r → (q ≡ r) × (after ≡ after')
pass_one o before after after' (Ok n) (Ok m) s t =
    let x = delivered_one s.file t.file before after after' n m (wrote_same (sym s.wrote ∙ t.wrote)) s.put t.put in (ap Ok x.0, x.1)
pass_one o before after after' (Ok n) (Err d) s t = absurd cc
pass_one o before after after' (Err e) (Ok m) s t = absurd cc
pass_one o before after after' (Err e) (Err d) s t = (ap Err (refused_same (sym s.why ∙ t.why)), s.kept ∙ sym t.kept)

expand_one : (o : Expanded) (before after after' : List ℕ) (q r : Result (ℕ × ℕ) ExpandFault) → Expanding o before after q → Expanding o before after' r → (q ≡ r) × (after ≡ after')
expand_one o before after after' (Ok n) (Ok m) s t =
    let y : made s.file n.1 ≡ made t.file m.1 = sym s.makes ∙ t.makes in
    let x = delivered_one s.file t.file before after after' n.0 m.0 (made_file y) s.put t.put in
    (ap₂ (λ (i j : ℕ). Ok (i, j)) x.0 (made_count y), x.1)
  where
    made_count : {g h : List ℕ} {m n : ℕ} → made g m ≡ made h n → m ≡ n
    made_count e = cc
expand_one o before after after' (Ok n) (Err d) s t = absurd cc
expand_one o before after after' (Err e) (Ok m) s t = absurd cc
expand_one o before after after' (Err e) (Err d) s t = (ap Err (declined_same (sym s.why ∙ t.why)), s.kept ∙ sym t.kept)
  where
    declined_same : {x y : ExpandFault} → declined x ≡ declined y → x ≡ y
    declined_same e = cc

pub calls_one : CallsAnswerOnce
calls_one h =
    record {
      load = λ a f q r k m s t. load_one a f h q r k m s.1 t.1;
      run = λ a n q r k m s t. run_one (run_on n a h) h q r k m s.1 t.1;
      letter = λ a l q r k m s t. run_one (run_by l a h) h q r k m s t;
      settle = λ a q r k m s t. let x = settle_one a h k m q r s t in (x.1, x.0);
      expand = λ a places before after after' q r k m s t.
          let x = expand_one (expand_on a places (length before) h) before after after' q r s.0 t.0 in (x.0, x.1, s.1 ∙ sym t.1);
    }

-- solving
unsolved_same : {x y : SolveFault} → unsolved x ≡ unsolved y → x ≡ y
unsolved_same e = cc

solve_in : (room : ℕ) (o : Reading (List Variable)) (g : List ℕ) → solve_variables room o ≡ found g → length g ≤ room
solve_in room (bad r p) g e = absurd cc
solve_in room (got vs) g e = go (leb (length vs) room) refl e
  where
    go : (b : Bool) → leb (length vs) room ≡ b → elim b as (λ _. Solved) [ true ↦ found (solves vs) | false ↦ unsolved (record { reason = TooFewTruths; place = 0 }) ] ≡ found g → length g ≤ room
    go true t e = subst (λ (g : List ℕ). length g ≤ room) (found_same e) (subst (λ n. n ≤ room) (sym (solves_long vs)) (leb-true (length vs) room t))
    go false t e = absurd cc

solve_answer : (g before : List ℕ) → (r : Result ℕ SolveFault) × (after : List ℕ) × Solving g before after r
solve_answer g before = go (solve (length before) g) refl
  where
    go : (o : Solved) → solve (length before) g ≡ o → (r : Result ℕ SolveFault) × (after : List ℕ) × Solving g before after r
    go (found bs) e = (Ok (length bs), bs ++ drop (length bs) before, record { bytes = bs; finds = e; put = delivered bs before (solve_in (length before) (boolean_reading g) bs e) })
    go (unsolved x) e = (Err x, before, record { why = e; kept = refl })

solve_one : (g before after after' : List ℕ) (q r : Result ℕ SolveFault) → Solving g before after q → Solving g before after' r → (q ≡ r) × (after ≡ after')
solve_one g before after after' (Ok n) (Ok m) s t =
    let x = delivered_one s.bytes t.bytes before after after' n m (found_same (sym s.finds ∙ t.finds)) s.put t.put in (ap Ok x.0, x.1)
solve_one g before after after' (Ok n) (Err d) s t = absurd cc
solve_one g before after after' (Err e) (Ok m) s t = absurd cc
solve_one g before after after' (Err e) (Err d) s t = (ap Err (unsolved_same (sym s.why ∙ t.why)), s.kept ∙ sym t.kept)

-- a buffer of 8,192 bytes or more is as good as the bench
pub run_applied : RunIsApplied
run_applied m a room f l = go (reading a f)
  where
    fits : (g : List ℕ) (b : Bool) → leb (length g) 8192 ≡ b → (leb (length g) room && leb (length g) 8192) ≡ leb (length g) 8192
    fits g true t = ap (λ z. z && leb (length g) 8192) (le-leb (length g) room (omega (arith, l, leb-true (length g) 8192 t)))
    fits g false t = ap (λ z. leb (length g) room && z) t ∙ never (leb (length g) room) ∙ sym t
      where
        never : (b : Bool) → (b && false) ≡ false
        never true = refl
        never false = refl

    go : (o : Reading System) → applied_to m a room o ≡ ran_on m a o
    go (got s) =
        let g = written (m a s) in
        ap (λ (b : Bool). elim b as (λ _. Ran) [ true ↦ wrote g | false ↦ refused (Declined ResultTooLong) ]) (fits g (leb (length g) 8192) refl)
    go (bad r p) = refl

pub buffers_answer : BuffersAnswer
buffers_answer =
    record {
      pass_answers = λ m a f before. pass_answer (applied m a (length before) f) before (applied_in m a (length before) (reading a f));
      pass_once = pass_one;
      solve_answers = solve_answer;
      solve_once = solve_one;
    }
