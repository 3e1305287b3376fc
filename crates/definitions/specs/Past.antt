-- Histories of a bench: the calls since it was made, with what each answered and left.
use Rattle.std.specs.Prelude.{◌≡◌, ℕ, ◌⊎◌, List, [], ◌∷◌, length, take, Ok, Err, Result}
use Rattle.faults.specs.declared.ReadFault.{ReadFault}
use Rattle.faults.specs.declared.PassFault.{PassFault}
use Rattle.faults.specs.declared.SettleFault.{SettleFault}
use Rattle.faults.specs.declared.ExpandFault.{ExpandFault}
use Rattle.definitions.specs.Alg.{Alg}
use Rattle.definitions.specs.Settle.{Pass}
use Rattle.definitions.specs.Rules.{Rules}
use Rattle.definitions.specs.Boolean.{expand_on}
use Rattle.definitions.specs.Calls.{Bytes, Loads, Answers, run_on, run_by, Settling, Expanding}

-- a call with its answer: the algebra by its meaning, the pass by its meaning, a letter as its number
pub data Event : Type 0 where
  loads : Alg → List ℕ → Result (Unit {0}) ReadFault → Event
  runs : Alg → Pass → Result (Unit {0}) PassFault → Event
  letters : Alg → ℕ → Result (Unit {0}) PassFault → Event
  settles : Alg → Result ℕ SettleFault → Event
  -- the places of the work memory, and the buffer before and after
  expands : Alg → ℕ → List ℕ → List ℕ → Result (ℕ × ℕ) ExpandFault → Event

-- the call, so answered, takes a bench that holds h to one that holds k; a pass that is run keeps the rules
abbrev pub Step : Event → List ℕ → List ℕ → Type 0
Step (loads a f r) h k = Bytes f × Loads a f h k r
Step (runs a m r) h k = Rules m × Answers (run_on m a h) h k r
Step (letters a l r) h k = Answers (run_by l a h) h k r
Step (settles a r) h k = Settling a h k r
Step (expands a places before after r) h k = Expanding (expand_on a places (length before) h) before after r × (k ≡ h)

-- the calls since a bench was made, the latest first, leave it holding the file
pub data Past : List Event → List ℕ → Type 0 where
  fresh : Past [] []
  call : {e : Event} {es : List Event} {h k : List ℕ} → Past es h → Step e h k → Past (e ∷ es) k

-- no load was obeyed
abbrev pub NoLoad : List Event → Type 0
NoLoad [] = Unit {0}
NoLoad (loads a f (Ok _) ∷ es) = ⊥
NoLoad (loads a f (Err _) ∷ es) = NoLoad es
NoLoad (runs a m r ∷ es) = NoLoad es
NoLoad (letters a l r ∷ es) = NoLoad es
NoLoad (settles a r ∷ es) = NoLoad es
NoLoad (expands a places before after r ∷ es) = NoLoad es

-- the last obeyed load was of the file f, and a alone served in the obeyed calls from then on
abbrev pub Served : Alg → List ℕ → List Event → Type 0
Served a f [] = ⊥
Served a f (loads b g (Ok _) ∷ es) = (b ≡ a) × (g ≡ f)
Served a f (loads b g (Err _) ∷ es) = Served a f es
Served a f (runs b m (Ok _) ∷ es) = (b ≡ a) × Served a f es
Served a f (runs b m (Err _) ∷ es) = Served a f es
Served a f (letters b l (Ok _) ∷ es) = (b ≡ a) × Served a f es
Served a f (letters b l (Err _) ∷ es) = Served a f es
Served a f (settles b (Ok _) ∷ es) = (b ≡ a) × Served a f es
Served a f (settles b (Err _) ∷ es) = Served a f es
Served a f (expands b places before after (Ok _) ∷ es) = (b ≡ a) × Served a f es
Served a f (expands b places before after (Err _) ∷ es) = Served a f es

-- an expand since the last obeyed load wrote the file g, in front of its buffer
abbrev pub Wrote : List ℕ → List Event → Type 0
Wrote g [] = ⊥
Wrote g (loads a f (Ok _) ∷ es) = ⊥
Wrote g (loads a f (Err _) ∷ es) = Wrote g es
Wrote g (runs a m r ∷ es) = Wrote g es
Wrote g (letters a l r ∷ es) = Wrote g es
Wrote g (settles a r ∷ es) = Wrote g es
Wrote g (expands a places before after (Ok x) ∷ es) = (take x.0 after ≡ g) ⊎ Wrote g es
Wrote g (expands a places before after (Err _) ∷ es) = Wrote g es
