-- What one round answers, and what rounds up to one that changes nothing do.
use Rattle.std.specs.Prelude.{◌≡◌, ℕ, List, [], ◌∷◌, Ok, Err, Result}
use Rattle.faults.specs.declared.Reason.TheVariants.{BenchEmpty}
use Rattle.faults.specs.declared.PassFault.TheVariants.{Declined}
use Rattle.faults.specs.declared.Halt.{Halt}
use Rattle.faults.specs.declared.SettleFault.{SettleFault}
use Rattle.definitions.specs.Alg.{Alg}
use Rattle.definitions.specs.Settle.{wrote, refused, passes, Round, ended, failed, round_by}
use Rattle.definitions.specs.Calls.{run_by, Settles, Halts}

-- a pass by its letter, in a round
pub record NotRun (a : Alg) (letter round : ℕ) (before : List ℕ) (x : Halt) : Type 0 where
  pub why : run_by letter a before ≡ refused x.fault
  pub named : x.letter ≡ letter
  pub number : x.round ≡ round

abbrev pub RunWithin : Alg → ℕ → ℕ → List ℕ → List ℕ → Result (Unit {0}) Halt → Type 0
RunWithin a letter round before after (Ok x) = run_by letter a before ≡ wrote after
RunWithin a letter round before after (Err x) = NotRun a letter round before x

-- a round on what is held, where the empty list is nothing
abbrev pub round_on : Alg → List ℕ → Round
round_on a [] = failed (Declined BenchEmpty) 0x43
round_on a (x ∷ xs) = round_by a passes (x ∷ xs)

-- a round with its number
pub record Failed (a : Alg) (round : ℕ) (before : List ℕ) (x : Halt) : Type 0 where
  pub why : round_on a before ≡ failed x.fault x.letter
  pub number : x.round ≡ round

abbrev pub Rounded : Alg → ℕ → List ℕ → List ℕ → Result (Unit {0}) Halt → Type 0
Rounded a round before after (Ok x) = round_on a before ≡ ended after
Rounded a round before after (Err x) = Failed a round before x

-- rounds from the first on; of a fault nothing is said of what is held
abbrev pub Rounds : Alg → List ℕ → List ℕ → Result ℕ SettleFault → Type 0
Rounds a before after (Ok n) = Settles a 1 before n after
Rounds a before after (Err e) = Halts a before e.halt
