-- What has come to a list, and what one more record makes of it.
use Rattle.std.specs.Prelude.{◌≡◌, ℕ, suc, Bool, true, false, List, [], ◌∷◌, ◌++◌, length, take, drop, Some, None, Option}
use Rattle.definitions.specs.Lists.{some}
use Rattle.firstcome.specs.declared.FirstCome.{FirstCome}

-- the records that came
abbrev pub listed : {T : Type 0} → FirstCome T → List T
listed l = take l.len l.items.now

-- the place of the first that is as told, the first place being k
abbrev pub place_from : {T : Type 0} → ℕ → (T → Bool) → List T → Option ℕ
place_from k p [] = None
place_from k p (y ∷ ys) = elim (p y) [ true ↦ Some k | false ↦ place_from (suc k) p ys ]

abbrev pub place_of : {T : Type 0} → (T → Bool) → List T → Option ℕ
place_of = place_from 0

-- a record that is new stands behind the others
pub record Came {T : Type 0} (same : T → Bool) (x : T) (old new : FirstCome T) (i : ℕ) : Type 0 where
  pub lists : listed new ≡ elim (some same (listed old)) [ true ↦ listed old | false ↦ listed old ++ (x ∷ []) ]
  pub place : i ≡ elim (place_of same (listed old)) [ Some k ↦ k | None ↦ old.len ]
  pub places : length new.items.now ≡ length old.items.now
  pub behind : drop new.len new.items.now ≡ drop new.len old.items.now
  pub named : new.items.ghost_name ≡ old.items.ghost_name

-- it is new, and the slice is full
pub record NoPlace {T : Type 0} (same : T → Bool) (old new : FirstCome T) : Type 0 where
  pub is_new : some same (listed old) ≡ false
  pub full : old.len ≡ length old.items.now
  pub len : new.len ≡ old.len
  pub items : new.items.now ≡ old.items.now
  pub named : new.items.ghost_name ≡ old.items.ghost_name

abbrev pub Comes : {T : Type 0} → (T → Bool) → T → FirstCome T → FirstCome T → Option ℕ → Type 0
Comes same x old new (Some i) = Came same x old new i
Comes same x old new None = NoPlace same old new
