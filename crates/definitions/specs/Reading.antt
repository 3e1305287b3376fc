-- Reading: a value and the place behind it, or a reason and its place.
use Rattle.std.specs.Prelude.{ℕ, zero, suc, ◌+◌, ◌-◌, ◌*◌, Bool, true, false, ◌||◌, List, [], ◌∷◌, length, Some, None, Option, ◌==◌, nat_le, nat_lt}
use Rattle.faults.specs.declared.Reason.{Reason}
use Rattle.faults.specs.declared.Reason.TheVariants.{BadLength, EndsInField, NotEnded}
use Rattle.definitions.specs.Bits.{field}

pub data Step (A : Type 0) : Type 0 where
  next : A → ℕ → Step A
  stop : Reason → ℕ → Step A

-- a reader of a file from a place on
abbrev pub Reader : Type 0 → Type 0
Reader A = List ℕ → ℕ → Step A

abbrev pub follow : {A B : Type 0} → Step A → (A → ℕ → Step B) → Step B
follow (next x q) k = k x q
follow (stop r q) k = stop r q

-- what a file comes to
pub data Reading (A : Type 0) : Type 0 where
  got : A → Reading A
  bad : Reason → ℕ → Reading A

abbrev pub ended : {A : Type 0} → Step A → Reading A
ended (next x q) = got x
ended (stop r q) = bad r q

infixl 20 ◌>>=◌
abbrev pub ◌>>=◌ : {A B : Type 0} → Reader A → (A → Reader B) → Reader B
◌>>=◌ m k f p = follow (m f p) (λ x q. k x f q)

infixl 20 ◌>>◌
abbrev pub ◌>>◌ : {A B : Type 0} → Reader A → Reader B → Reader B
◌>>◌ m k f p = follow (m f p) (λ _ q. k f q)

abbrev pub give : {A : Type 0} → A → Reader A
give x f p = next x p

abbrev pub fail : {A : Type 0} → Reason → ℕ → Reader A
fail r q f p = stop r q

abbrev pub here : Reader ℕ
here f p = next p p

-- what must be, else the reason r at the place q
abbrev pub must : Bool → Reason → ℕ → Reader (Unit {0})
must true r q f p = next tt p
must false r q f p = stop r q

abbrev pub given : {A : Type 0} → Option A → Reason → ℕ → Reader A
given (Some x) r q f p = next x p
given None r q f p = stop r q

-- a field of w bits
abbrev pub take : ℕ → Reader ℕ
take w f p = elim (nat_le (p + w) (8 * length f)) [ true ↦ next (field f p w) (p + w) | false ↦ stop EndsInField p ]

-- a field whose number must stand for something, else the reason r at its place
abbrev pub take_for : {A : Type 0} → ℕ → (ℕ → Option A) → Reason → Reader A
take_for w what r = do
  p ← here
  n ← take w
  given (what n) r p

abbrev pub below : ℕ → ℕ → Option ℕ
below n v = elim (nat_lt v n) [ true ↦ Some v | false ↦ None ]

-- one after the other
abbrev pub one_by_one : {A B : Type 0} → (A → Reader B) → List A → Reader (List B)
one_by_one r [] = give []
one_by_one r (x ∷ xs) = do
  y ← r x
  ys ← one_by_one r xs
  give (y ∷ ys)

abbrev pub repeated : {B : Type 0} → Reader B → ℕ → Reader (List B)
repeated r zero = give []
repeated r (suc n) = do
  y ← r
  ys ← repeated r n
  give (y ∷ ys)

-- nothing is left but zero padding within the last byte
abbrev pub ending : Reader (Unit {0})
ending f p = elim (nat_le (8 * length f - p) 7) [ true ↦ must (field f p (8 * length f - p) == 0) NotEnded p f p | false ↦ stop NotEnded p ]

-- a whole file of at most n bytes
abbrev pub complete : {A : Type 0} → Reader A → Reader A
complete r = do
  x ← r
  ending
  give x

abbrev pub file : {A : Type 0} → ℕ → Reader A → List ℕ → Reading A
file n r f = elim (length f == 0 || nat_lt n (length f)) [ true ↦ bad BadLength 0 | false ↦ ended (complete r f 0) ]
