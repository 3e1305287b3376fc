-- The letters of the passes.
use Rattle.std.specs.Prelude.{◌≡◌, ◌≢◌, ℕ, Result, MatchResult}
use Rattle.passes.specs.declared.named.Named.{Named}
use Rattle.passes.specs.declared.named.Named.TheVariants.{Constants, Fold, Redundant, Unreachable}
use Rattle.passes.specs.declared.named.NoSuchPass.{NoSuchPass}

-- the letters C, F, R and U
abbrev pub letter_of : Named → ℕ
letter_of Constants = 0x43
letter_of Fold = 0x46
letter_of Redundant = 0x52
letter_of Unreachable = 0x55

-- the pass that goes by the letter, or none does
abbrev pub Names : ℕ → Result Named NoSuchPass → Type 0
Names letter r = MatchResult r (λ pass. letter_of pass ≡ letter) (λ _. (pass : Named) → letter_of pass ≢ letter)
