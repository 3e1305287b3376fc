-- Every call has exactly one answer, and adds itself to every history.
use Rattle.std.specs.Prelude.{◌≡◌, ℕ, ◌≤◌, List, length, Result}
use Rattle.faults.specs.declared.ReadFault.{ReadFault}
use Rattle.faults.specs.declared.PassFault.{PassFault}
use Rattle.faults.specs.declared.SettleFault.{SettleFault}
use Rattle.faults.specs.declared.ExpandFault.{ExpandFault}
use Rattle.faults.specs.declared.SolveFault.{SolveFault}
use Rattle.definitions.specs.Alg.{Alg, Lawful}
use Rattle.definitions.specs.Settle.{Pass, Ran, run}
use Rattle.definitions.specs.Rules.{Rules, applied}
use Rattle.definitions.specs.Calls.{Bytes, Applies, Solving}
use Rattle.definitions.specs.Past.{Event, loads, runs, letters, settles, expands, Step, Past}
use Rattle.definitions.specs.Histories.{Follows}

-- every call on a bench with a past has an answer
pub record Answerable (h : List ℕ) : Type 0 where
  pub load : (a : Alg) (f : List ℕ) → Bytes f → (r : Result (Unit {0}) ReadFault) × (k : List ℕ) × Step (loads a f r) h k
  pub run : (a : Alg) (m : Pass) → Rules m → (r : Result (Unit {0}) PassFault) × (k : List ℕ) × Step (runs a m r) h k
  pub letter : (a : Alg) (l : ℕ) → (r : Result (Unit {0}) PassFault) × (k : List ℕ) × Step (letters a l r) h k
  pub settle : (a : Alg) → Lawful a → (r : Result ℕ SettleFault) × (k : List ℕ) × Step (settles a r) h k
  pub expand : (a : Alg) (places : ℕ) (before : List ℕ) → (r : Result (ℕ × ℕ) ExpandFault) × (after : List ℕ) × Step (expands a places before after r) h h

abbrev pub CallsAnswer : Type 0
CallsAnswer = (es : List Event) (h : List ℕ) → Past es h → Answerable h

-- and only one
pub record OneAnswer (h : List ℕ) : Type 0 where
  pub load : (a : Alg) (f : List ℕ) (q r : Result (Unit {0}) ReadFault) (k m : List ℕ) → Step (loads a f q) h k → Step (loads a f r) h m → (q ≡ r) × (k ≡ m)
  pub run : (a : Alg) (n : Pass) (q r : Result (Unit {0}) PassFault) (k m : List ℕ) → Step (runs a n q) h k → Step (runs a n r) h m → (q ≡ r) × (k ≡ m)
  pub letter : (a : Alg) (l : ℕ) (q r : Result (Unit {0}) PassFault) (k m : List ℕ) → Step (letters a l q) h k → Step (letters a l r) h m → (q ≡ r) × (k ≡ m)
  pub settle : (a : Alg) (q r : Result ℕ SettleFault) (k m : List ℕ) → Step (settles a q) h k → Step (settles a r) h m → (q ≡ r) × (k ≡ m)
  pub expand : (a : Alg) (places : ℕ) (before after after' : List ℕ) (q r : Result (ℕ × ℕ) ExpandFault) (k m : List ℕ) →
      Step (expands a places before after q) h k → Step (expands a places before after' r) h m → (q ≡ r) × (after ≡ after') × (k ≡ m)

abbrev pub CallsAnswerOnce : Type 0
CallsAnswerOnce = (h : List ℕ) → OneAnswer h

-- a pass on a file and a solve have exactly one answer too
pub record BuffersAnswer : Type 0 where
  pub pass_answers : (m : Pass) (a : Alg) (f before : List ℕ) → (r : Result ℕ PassFault) × (after : List ℕ) × Applies (applied m a (length before) f) before after r
  pub pass_once : (o : Ran) (before after after' : List ℕ) (q r : Result ℕ PassFault) → Applies o before after q → Applies o before after' r → (q ≡ r) × (after ≡ after')
  pub solve_answers : (g before : List ℕ) → (r : Result ℕ SolveFault) × (after : List ℕ) × Solving g before after r
  pub solve_once : (g before after after' : List ℕ) (q r : Result ℕ SolveFault) → Solving g before after q → Solving g before after' r → (q ≡ r) × (after ≡ after')

-- a run on a bench is the pass on a buffer of 8,192 bytes or more
abbrev pub RunIsApplied : Type 0
RunIsApplied = (m : Pass) (a : Alg) (room : ℕ) (f : List ℕ) → 8192 ≤ room → applied m a room f ≡ run m a f

abbrev pub CallsExtendHistories : Type 0
CallsExtendHistories = (e : Event) (h k : List ℕ) → Step e h k → Follows e h k
