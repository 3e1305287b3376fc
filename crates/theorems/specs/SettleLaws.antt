-- Settling ends, with exactly one answer.
use Rattle.std.specs.Prelude.{◌≡◌, ℕ, ◌*◌, ◌≤◌, List, length, Ok, Err, Result}
use Rattle.faults.specs.declared.SettleFault.{SettleFault}
use Rattle.definitions.specs.Alg.{Alg, Lawful}
use Rattle.definitions.specs.Systems.{System}
use Rattle.definitions.specs.Reading.{got}
use Rattle.definitions.specs.ReadSystem.{reading}
use Rattle.definitions.specs.Written.{written}
use Rattle.definitions.specs.Fits.{SystemFits}
use Rattle.definitions.specs.Truth.{verdict}
use Rattle.definitions.specs.Constants.{pass_c}
use Rattle.definitions.specs.Passes.{pass_f, pass_r, pass_u}
use Rattle.definitions.specs.Settle.{weight, rounds_for, settle, settled, halted}
use Rattle.definitions.specs.Calls.{Bytes, Settling}

-- no pass raises the weight
pub record NeverHeavier (a : Alg) (s : System) : Type 0 where
  pub C : weight (pass_c a s) ≤ weight s
  pub F : weight (pass_f a s) ≤ weight s
  pub R : weight (pass_r a s) ≤ weight s
  pub U : weight (pass_u a s) ≤ weight s

abbrev pub NoPassHeavier : Type 0
NoPassHeavier = (a : Alg) (s : System) → NeverHeavier a s

-- a round that does not lower the weight changes nothing
abbrev pub ChangingRoundsLighter : Type 0
ChangingRoundsLighter = (a : Alg) → Lawful a → (s : System) → SystemFits a s →
    (weight s ≤ weight (pass_u a (pass_r a (pass_f a (pass_c a s)))) → pass_u a (pass_r a (pass_f a (pass_c a s))) ≡ s)

-- the round in which an answer is told
abbrev pub told : Result ℕ SettleFault → ℕ
told (Ok n) = n
told (Err e) = e.halt.round

pub record Answered (a : Alg) (f : List ℕ) : Type 0 where
  pub after : List ℕ
  pub answer : Result ℕ SettleFault
  pub settles : Settling a f after answer
  pub soon : told answer ≤ rounds_for (reading a f)

abbrev pub SettlingEnds : Type 0
SettlingEnds = (a : Alg) → Lawful a → (f : List ℕ) → Bytes f → Answered a f

abbrev pub OneSettledAnswer : Type 0
OneSettledAnswer = (a : Alg) (f g h : List ℕ) (q r : Result ℕ SettleFault) → Settling a f g q → Settling a f h r → (g ≡ h) × (q ≡ r)

-- what the function of rounds comes to
abbrev pub SettleComputes : Type 0
SettleComputes = (a : Alg) → Lawful a → (f : List ℕ) → Bytes f →
    ((n : ℕ) (g : List ℕ) → Settling a f g (Ok n) → settle a f ≡ settled n g) ×
    ((e : SettleFault) → Settling a f f (Err e) → settle a f ≡ halted e.halt)

-- the weight of a system is at most the bits of its file, so that a file of at most 8,192 bytes settles within 65,537 rounds
abbrev pub WeightWithinBits : Type 0
WeightWithinBits = (s : System) → weight s ≤ 8 * length (written s)

abbrev pub RoundsWithinLimit : Type 0
RoundsWithinLimit = (a : Alg) → Lawful a → (f : List ℕ) → Bytes f → length f ≤ 8192 → rounds_for (reading a f) ≤ 65537

-- the settled system's verdict is that of the system before
pub record SettledAs (a : Alg) (s : System) (g : List ℕ) : Type 0 where
  pub system : System
  pub read : reading a g ≡ got system
  pub fits : SystemFits a system
  pub same_verdict : verdict a system ≡ verdict a s

abbrev pub SettlingKeepsVerdict : Type 0
SettlingKeepsVerdict = (a : Alg) → Lawful a → (f g : List ℕ) (n : ℕ) → Bytes f → (s : System) → reading a f ≡ got s → Settling a f g (Ok n) → SettledAs a s g
