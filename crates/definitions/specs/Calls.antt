-- What each call answers, and what is held and what stands in the caller's buffer after it, obeyed or declined.
-- A list of bytes is what a bench holds, and the empty list is nothing.
use Rattle.std.specs.Prelude.{◌≡◌, ℕ, suc, ◌<◌, ◌≤◌, true, false, ◌&&◌, List, [], ◌∷◌, ◌++◌, length, drop, Ok, Err, Result, ◌==◌, ◌≢◌, nat_le}
use Rattle.faults.specs.declared.Reason.TheVariants.{BenchEmpty, NoSuchName, TooFewTruths, BadCountingSizes}
use Rattle.faults.specs.declared.TableFault.{TableFault}
use Rattle.faults.specs.declared.ReadFault.{ReadFault}
use Rattle.faults.specs.declared.PassFault.{PassFault}
use Rattle.faults.specs.declared.PassFault.TheVariants.{Declined}
use Rattle.faults.specs.declared.Halt.{Halt}
use Rattle.faults.specs.declared.SettleFault.{SettleFault}
use Rattle.faults.specs.declared.ExpandFault.{ExpandFault}
use Rattle.faults.specs.declared.SolveFault.{SolveFault}
use Rattle.definitions.specs.Lists.{each}
use Rattle.definitions.specs.Alg.{Alg}
use Rattle.definitions.specs.Systems.{System}
use Rattle.definitions.specs.Reading.{Reading, got, bad}
use Rattle.definitions.specs.ReadSystem.{reading}
use Rattle.definitions.specs.Fits.{Every}
use Rattle.definitions.specs.Settle.{Pass, Ran, wrote, refused, run, passes, ended, failed, round_by}
use Rattle.definitions.specs.Boolean.{Expanded, made, refused as unmade, Variable, boolean_reading, solves}
use Rattle.definitions.specs.Tables.{Table, table_reading}

abbrev pub Bytes : List ℕ → Type 0
Bytes f = Every (λ x. x < 256) f

-- the result g, of n bytes, in front of a buffer, whose bytes behind it stay
pub record Delivered (g before after : List ℕ) (n : ℕ) : Type 0 where
  pub long : n ≡ length g
  pub room : n ≤ length before
  pub front : after ≡ g ++ drop (length g) before

-- filling an algebra: what it is filled with, or the fault
pub data Filling (X : Type 0) : Type 0 where
  filled : X → Filling X
  unfilled : TableFault → Filling X

abbrev pub counting_fill : List ℕ → Filling (List ℕ)
counting_fill sizes =
    elim (nat_le (length sizes) 15 && each (λ n. nat_le 1 n && nat_le n 256) sizes) [
      | true ↦ filled sizes
      | false ↦ unfilled (record { reason = BadCountingSizes; place = 0 })
    ]

abbrev pub table_fill_by : Reading Table → Filling Table
table_fill_by (got t) = filled t
table_fill_by (bad r p) = unfilled (record { reason = r; place = p })

abbrev pub table_fill : List ℕ → Filling Table
table_fill f = table_fill_by (table_reading f)

pub record NotFilled {X : Type 0} (o : Filling X) (before after : X) (e : TableFault) : Type 0 where
  pub why : o ≡ unfilled e
  pub kept : after ≡ before

abbrev pub Fills : {X : Type 0} → Filling X → X → X → Result (Unit {0}) TableFault → Type 0
Fills o before after (Ok _) = o ≡ filled after
Fills o before after (Err e) = NotFilled o before after e

-- load
pub record Taken (a : Alg) (f after : List ℕ) : Type 0 where
  pub system : System
  pub read : reading a f ≡ got system
  pub holds : after ≡ f

pub record Untaken (a : Alg) (f before after : List ℕ) (e : ReadFault) : Type 0 where
  pub why : reading a f ≡ bad e.reason e.place
  pub kept : after ≡ before

abbrev pub Loads : Alg → List ℕ → List ℕ → List ℕ → Result (Unit {0}) ReadFault → Type 0
Loads a f before after (Ok _) = Taken a f after
Loads a f before after (Err e) = Untaken a f before after e

-- a pass on a file, into a buffer
pub record Stayed (o : Ran) (before after : List ℕ) (e : PassFault) : Type 0 where
  pub why : o ≡ refused e
  pub kept : after ≡ before

pub record Delivers (o : Ran) (before after : List ℕ) (n : ℕ) : Type 0 where
  pub file : List ℕ
  pub wrote : o ≡ wrote file
  pub put : Delivered file before after n

abbrev pub Applies : Ran → List ℕ → List ℕ → Result ℕ PassFault → Type 0
Applies o before after (Ok n) = Delivers o before after n
Applies o before after (Err e) = Stayed o before after e

-- run: the file written is held
abbrev pub Answers : Ran → List ℕ → List ℕ → Result (Unit {0}) PassFault → Type 0
Answers o before after (Ok _) = o ≡ wrote after
Answers o before after (Err e) = Stayed o before after e

abbrev pub run_on : Pass → Alg → List ℕ → Ran
run_on m a [] = refused (Declined BenchEmpty)
run_on m a (x ∷ xs) = run m a (x ∷ xs)

-- run by letter: an empty bench is told before a letter that does not exist
abbrev pub lettered : List (ℕ × Pass) → ℕ → Alg → List ℕ → Ran
lettered [] l a f = refused (Declined NoSuchName)
lettered (m ∷ ms) l a f = elim (l == m.0) [ true ↦ run m.1 a f | false ↦ lettered ms l a f ]

abbrev pub run_by : ℕ → Alg → List ℕ → Ran
run_by l a [] = refused (Declined BenchEmpty)
run_by l a (x ∷ xs) = lettered passes l a (x ∷ xs)

-- settle: from the round numbered k on, f settles as h in round n
pub data Settles (a : Alg) : ℕ → List ℕ → ℕ → List ℕ → Type 0 where
  equal : {k : ℕ} {f : List ℕ} → round_by a passes f ≡ ended f → Settles a k f k f
  again : {k n : ℕ} {f h : List ℕ} (g : List ℕ) → round_by a passes f ≡ ended g → (g ≢ f) → Settles a (suc k) g n h → Settles a k f n h

-- and a pass is declined in one of the rounds
pub data Stops (a : Alg) : ℕ → List ℕ → Halt → Type 0 where
  here : {k : ℕ} {f : List ℕ} (e : PassFault) (l : ℕ) → round_by a passes f ≡ failed e l → Stops a k f (record { fault = e; letter = l; round = k })
  later : {k : ℕ} {f : List ℕ} {x : Halt} (g : List ℕ) → round_by a passes f ≡ ended g → (g ≢ f) → Stops a (suc k) g x → Stops a k f x

-- for an empty bench the letter is C and the round is 1
abbrev pub empty_halt : Halt
empty_halt = record { fault = Declined BenchEmpty; letter = 0x43; round = 1 }

abbrev pub Halts : Alg → List ℕ → Halt → Type 0
Halts a [] x = x ≡ empty_halt
Halts a (y ∷ ys) x = Stops a 1 (y ∷ ys) x

pub record Halted (a : Alg) (before after : List ℕ) (x : Halt) : Type 0 where
  pub why : Halts a before x
  pub kept : after ≡ before

abbrev pub Settling : Alg → List ℕ → List ℕ → Result ℕ SettleFault → Type 0
Settling a before after (Ok n) = Settles a 1 before n after
Settling a before after (Err e) = Halted a before after e.halt

-- expand: how many bytes were written, and how many variables they have
pub record Makes (o : Expanded) (before after : List ℕ) (n k : ℕ) : Type 0 where
  pub file : List ℕ
  pub makes : o ≡ made file k
  pub put : Delivered file before after n

pub record NotMade (o : Expanded) (before after : List ℕ) (e : ExpandFault) : Type 0 where
  pub why : o ≡ unmade e
  pub kept : after ≡ before

abbrev pub Expanding : Expanded → List ℕ → List ℕ → Result (ℕ × ℕ) ExpandFault → Type 0
Expanding o before after (Ok x) = Makes o before after x.0 x.1
Expanding o before after (Err e) = NotMade o before after e

-- solve: the truths of the variables, one byte each; or the fault
pub data Solved : Type 0 where
  found : List ℕ → Solved
  unsolved : SolveFault → Solved

abbrev pub solve_variables : ℕ → Reading (List Variable) → Solved
solve_variables room (got vs) = elim (nat_le (length vs) room) [ true ↦ found (solves vs) | false ↦ unsolved (record { reason = TooFewTruths; place = 0 }) ]
solve_variables room (bad r p) = unsolved (record { reason = r; place = p })

-- a Boolean file, where the buffer for truths has `room` bytes
abbrev pub solve : ℕ → List ℕ → Solved
solve room g = solve_variables room (boolean_reading g)

pub record Finds (o : Solved) (before after : List ℕ) (n : ℕ) : Type 0 where
  pub bytes : List ℕ
  pub finds : o ≡ found bytes
  pub put : Delivered bytes before after n

pub record NotSolved (o : Solved) (before after : List ℕ) (e : SolveFault) : Type 0 where
  pub why : o ≡ unsolved e
  pub kept : after ≡ before

-- the file g is solved into a buffer, and the number of variables is told
abbrev pub Solving : List ℕ → List ℕ → List ℕ → Result ℕ SolveFault → Type 0
Solving g before after (Ok n) = Finds (solve (length before) g) before after n
Solving g before after (Err e) = NotSolved (solve (length before) g) before after e
