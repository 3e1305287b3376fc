-- What a draft holds, and what writing a part of the Boolean file makes of it.
use Rattle.std.specs.Prelude.{◌≡◌, ℕ, ◌+◌, ◌*◌, ◌<◌, ◌≤◌, Bool, true, false, List, ◌++◌, length, drop, Some, None, Option, Ok, Err, Result}
use Rattle.definitions.specs.Lists.{at}
use Rattle.definitions.specs.Bits.{packed}
use Rattle.definitions.specs.Systems.{Quantifier, exists, forall, Equation, System}
use Rattle.definitions.specs.Truth.{Instance}
use Rattle.definitions.specs.Boolean.{Form, forms, vars, vars_all, renamed, renamed_all, form_bits, forms_bits, come, number_in}
use Rattle.definitions.specs.Fits.{Every}
use Rattle.bits.specs.declared.writer.BitWriter.{BitWriter}
use Rattle.bits.specs.Back.{Bytes, are_bits}
use Rattle.bits.specs.Writes.{Wrote}
use Rattle.system.specs.declared.instance.Instance.{Instance as Kept}
use Rattle.system.specs.Bodies.{padded}
use Rattle.system.specs.Walks.{Pairs}
use Rattle.firstcome.specs.Coming.{listed}
use Rattle.expansion.specs.declared.draft.Draft.{Draft}
use Rattle.expansion.specs.declared.draft.Token.{Token}
use Rattle.expansion.specs.declared.draft.Token.TheVariants.{False, True, All, Any, Variable}
use Rattle.expansion.specs.declared.draft.Unfinished.{Unfinished}

-- an instance of the system, by its equation and a value for each parameter
pub record Fine (s : System) (x : Instance) : Type 0 where
  pub equation : Equation
  pub there : at s.equations x.0 ≡ Some equation
  pub values : length x.1 ≡ length equation.sorts

-- a kept instance stands for it: its values, with zeros behind them
pub record StandsFor (k : Kept) (x : Instance) : Type 0 where
  pub equation : k.equation ≡ x.0
  pub values : k.values ≡ padded x.1

-- the numbers of the tokens
abbrev pub token_number : Token → ℕ
token_number False = 0
token_number True = 1
token_number All = 2
token_number Any = 3
token_number Variable = 4

abbrev pub over_number : Quantifier → ℕ
over_number exists = 3
over_number forall = 2

-- the bits are written from the first writer's place on, or they are too many for its bytes
abbrev pub WroteOn : List ℕ → BitWriter → BitWriter → Bool → Type 0
WroteOn bs first w true = 8 * length first.bytes.now < first.at + length bs
WroteOn bs first w false = Wrote bs first w

-- the list has the instances, and the writer has written the bits into the bytes that the first writer had
pub record Drafted (s : System) (first : BitWriter) (places : ℕ) (ns : List Instance) (bs : List ℕ) (d : Draft) : Type 0 where
  pub short : length first.bytes.now ≤ 65536
  pub bytes : Bytes first.bytes.now
  pub slice : length d.list.items.now ≡ places
  pub few : places ≤ 4096
  pub count : d.list.len ≡ length ns
  pub lists : Pairs StandsFor (listed d.list) ns
  pub fine : Every (Fine s) ns
  pub are : are_bits bs ≡ true
  pub written : WroteOn bs first d.writer d.too_long

-- the bits are written behind, and no instance comes
abbrev pub Puts : List ℕ → Draft → Draft → Type 0
Puts cs old new =
    (s : System) (first : BitWriter) (places : ℕ) (ns : List Instance) (bs : List ℕ) → Drafted s first places ns bs old → Drafted s first places ns (bs ++ cs) new

-- the instances xs come and bits that name them by number are written behind, or there are too few places for those that came
abbrev pub Drafts : {T : Type 0} → System → List Instance → ((Instance → ℕ) → List ℕ) → Draft → Draft → Result T Unfinished → Type 0
Drafts s xs b old new (Ok x) =
    (first : BitWriter) (places : ℕ) (ns : List Instance) (bs : List ℕ) → Drafted s first places ns bs old →
    Drafted s first places (come ns xs) (bs ++ b (number_in (come ns xs))) new
Drafts s xs b old new (Err e) =
    (first : BitWriter) (places : ℕ) (ns : List Instance) (bs : List ℕ) → Drafted s first places ns bs old → places < length (come ns xs)

-- the bits stand packed in front of the bytes that the first writer had, or they are too many for them
pub record Shut (first : BitWriter) (bs : List ℕ) (w : BitWriter) (len : ℕ) : Type 0 where
  pub long : len ≡ length (packed bs)
  pub within : len ≤ length first.bytes.now
  pub file : w.bytes.now ≡ packed bs ++ drop len first.bytes.now

abbrev pub Closes : BitWriter → List ℕ → Draft → Option ℕ → Type 0
Closes first bs new (Some len) = Shut first bs new.writer len
Closes first bs new None = length first.bytes.now < length (packed bs)

-- a form, and forms one behind the other
abbrev pub DraftsForm : {T : Type 0} → System → Form Instance → Draft → Draft → Result T Unfinished → Type 0
DraftsForm s p = Drafts s (vars p) (λ f. form_bits (renamed p f))

abbrev pub DraftsForms : {T : Type 0} → System → List (Form Instance) → Draft → Draft → Result T Unfinished → Type 0
DraftsForms s ps = Drafts s (vars_all (forms ps)) (λ f. forms_bits (renamed_all (forms ps) f))
