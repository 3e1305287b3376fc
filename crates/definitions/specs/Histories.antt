-- The main theorem's two halves, as statements about every history of a bench.
use Rattle.std.specs.Prelude.{◌≡◌, ℕ, ◌≤◌, Bool, true, false, ◌⊎◌, List, [], ◌∷◌, length, Some, Ok, slice_index, slice_index_or}
use Rattle.definitions.specs.Lists.{at}
use Rattle.definitions.specs.Alg.{Alg, Lawful}
use Rattle.definitions.specs.Algebras.{truth}
use Rattle.definitions.specs.Systems.{System}
use Rattle.definitions.specs.Reading.{got}
use Rattle.definitions.specs.ReadSystem.{reading}
use Rattle.definitions.specs.Truth.{verdict}
use Rattle.definitions.specs.Passes.{needed}
use Rattle.definitions.specs.Calls.{Bytes, Solving}
use Rattle.definitions.specs.Past.{Event, Past, NoLoad, Served, Wrote}

-- every obeyed solve of g gives variable 0 the byte b, and a solve is obeyed wherever the buffer has a byte for each variable
pub record FirstByte (g : List ℕ) (b : ℕ) : Type 0 where
  pub byte : (before after : List ℕ) (n : ℕ) → Solving g before after (Ok n) → at after 0 ≡ Some b
  pub variables : ℕ
  pub obeyed : (before : List ℕ) → variables ≤ length before → (after : List ℕ) × Solving g before after (Ok variables)

-- the file f was loaded and h is held: it reads as a system with the loaded system's verdict, which every obeyed solve of an expansion gives
pub record Kept (a : Alg) (f h : List ℕ) (es : List Event) : Type 0 where
  pub first : System
  pub last : System
  pub loaded : reading a f ≡ got first
  pub holds : reading a h ≡ got last
  pub same_verdict : verdict a last ≡ verdict a first
  pub solved : (g : List ℕ) → Wrote g es → FirstByte g (truth (verdict a first))

-- with no load obeyed nothing is held; else, where one algebra served from the last obeyed load on, the verdict is kept
pub record Sound (es : List Event) (h : List ℕ) : Type 0 where
  pub short : length h ≤ 8192
  pub bytes : Bytes h
  pub empty : NoLoad es → h ≡ []
  pub kept : (a : Alg) → Lawful a → (f : List ℕ) → Served a f es → Kept a f h es

-- a call that takes h to k adds itself to every history of what was held, and the longer history is sound
abbrev pub Follows : Event → List ℕ → List ℕ → Type 0
Follows e h k = (es : List Event) → Past es h → Past (e ∷ es) k × Sound (e ∷ es) k

abbrev pub HistoriesSound : Type 0
HistoriesSound = (es : List Event) (h : List ℕ) → Past es h → Sound es h

-- R keeps the parameter numbered k of the start's equation
abbrev pub stays : System → ℕ → Bool
stays s k = slice_index_or (slice_index_or (needed s) s.start []) k false

-- the systems differ at most in starting values of parameters that R removes
pub record Alike (s t : System) : Type 0 where
  pub equations : t.equations ≡ s.equations
  pub start : t.start ≡ s.start
  pub values : (k : ℕ) → stays s k ≡ true → slice_index s.values k ≡ slice_index t.values k

-- what either history wrote since its load
abbrev pub EitherWrote : List Event → List Event → List ℕ → Type 0
EitherWrote es ds g = Wrote g es ⊎ Wrote g ds

pub record Together (a : Alg) (s t : System) (es ds : List Event) : Type 0 where
  pub verdicts : verdict a t ≡ verdict a s
  pub solved : (g : List ℕ) → EitherWrote es ds g → FirstByte g (truth (verdict a s))
  pub alike : (g k : List ℕ) → EitherWrote es ds g → EitherWrote es ds k → (before after before' after' : List ℕ) (n n' : ℕ) →
      Solving g before after (Ok n) → Solving k before' after' (Ok n') → at after 0 ≡ at after' 0

-- two benches over one unchanged algebra, whose loaded systems differ only in starting values that R removes
abbrev pub HistoriesAlike : Type 0
HistoriesAlike = (a : Alg) → Lawful a → (es ds : List Event) (h k : List ℕ) → Past es h → Past ds k → (f g : List ℕ) → Served a f es → Served a g ds →
    (s t : System) → reading a f ≡ got s → reading a g ≡ got t → Alike s t → Together a s t es ds

-- both halves
pub record VerdictKept : Type 0 where
  pub one_history : HistoriesSound
  pub two_histories : HistoriesAlike
