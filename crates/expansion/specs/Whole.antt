-- What the whole Boolean file comes to, in a draft, and what the answer tells.
use Rattle.std.specs.Prelude.{◌≡◌, ℕ, ◌<◌, ◌≤◌, ◌⊎◌, List, [], ◌++◌, map, length, Ok, Err, Result}
use Rattle.faults.specs.declared.ExpandFault.{ExpandFault}
use Rattle.faults.specs.declared.ExpandFault.TheVariants.{Refused}
use Rattle.faults.specs.declared.Reason.TheVariants.{BooleanTooLong}
use Rattle.definitions.specs.Lists.{flat}
use Rattle.definitions.specs.Alg.{Alg}
use Rattle.definitions.specs.Bits.{bits, packed}
use Rattle.definitions.specs.Systems.{System}
use Rattle.definitions.specs.Truth.{Instance}
use Rattle.definitions.specs.Boolean.{numbering, variable_of, variable_bits}
use Rattle.definitions.specs.Calls.{Delivered}
use Rattle.bits.specs.declared.writer.BitWriter.{BitWriter}
use Rattle.expansion.specs.declared.Expansion.{Expansion}
use Rattle.expansion.specs.declared.draft.Draft.{Draft}
use Rattle.expansion.specs.declared.draft.Unfinished.{Unfinished}
use Rattle.expansion.specs.Drafts.{Drafted}

-- the bits of the variables of instances, in their order
abbrev pub variables_bits : Alg → System → List Instance → List ℕ
variables_bits a s ns = flat (map (λ x. variable_bits (variable_of a s ns x)) ns)

-- into an empty draft all that is reached has come and is written, behind the place of the count; or there are too few places for it
abbrev pub Numbers : {T : Type 0} → Alg → System → Draft → Draft → Result T Unfinished → Type 0
Numbers a s old new (Ok x) =
    (first : BitWriter) (places : ℕ) → Drafted s first places [] [] old → Drafted s first places (numbering a s) (bits 12 0 ++ variables_bits a s (numbering a s)) new
Numbers a s old new (Err e) = (first : BitWriter) (places : ℕ) → Drafted s first places [] [] old → places < length (numbering a s)

-- the bits of k variables stand packed in front of the caller's buffer, or they are too many for it or for a draft of so many bytes
abbrev pub HandsOver : ℕ → List ℕ → ℕ → List ℕ → List ℕ → Result Expansion ExpandFault → Type 0
HandsOver bytes bs k before after (Ok x) = Delivered (packed bs) before after x.len × (x.len ≤ bytes) × (x.variables ≡ k)
HandsOver bytes bs k before after (Err e) = (e ≡ Refused BooleanTooLong) × (after ≡ before) × ((length before < length (packed bs)) ⊎ (bytes < length (packed bs)))

-- the answer as two numbers
abbrev pub told : Result Expansion ExpandFault → Result (ℕ × ℕ) ExpandFault
told (Ok x) = Ok (x.len, x.variables)
told (Err e) = Err e
