-- What the answers on Boolean files say.
use Rattle.std.specs.Prelude.{◌≡◌, ℕ, suc, ◌+◌, ◌<◌, ⊤, List, [], ◌∷◌, ◌++◌, length, Some, None, Ok, Err, Option, Result, nat_eq, slice_index_or}
use Rattle.faults.specs.declared.SolveFault.{SolveFault}
use Rattle.faults.specs.declared.Stop.{Stop}
use Rattle.rows.specs.Listed.{listed}
use Rattle.definitions.specs.Lists.{some, is_some}
use Rattle.definitions.specs.Fits.{Every}
use Rattle.definitions.specs.Reading.{next, stop, got, bad}
use Rattle.definitions.specs.Boolean.{Variable, read_token, read_variables, boolean_reading}
use Rattle.bits.specs.declared.file.Cursor.{Cursor}
use Rattle.system.specs.declared.header.Sign.{Sign as KeptSign}
use Rattle.system.specs.Files.{kept_sign}
use Rattle.boolean.specs.declared.entries.Entry.{Entry}
use Rattle.boolean.specs.declared.entries.Variables.{Variables}

-- the entry is that of the variable v, of n, in the file f: it has its rank, and its body is read at its place
pub record Kept (f : List ℕ) (n : ℕ) (v : Variable) (e : Entry) : Type 0 where
  pub rank : e.rank ≡ v.rank
  pub body : (q : ℕ) × (read_token n 8 f e.body ≡ next v.body q)

-- the entries are those of the variables, one by one
abbrev pub AllKept : List ℕ → ℕ → List Variable → List Entry → Type 0
AllKept f n [] [] = ⊤
AllKept f n [] (e ∷ es) = ⊥
AllKept f n (v ∷ vs) [] = ⊥
AllKept f n (v ∷ vs) (e ∷ es) = Kept f n v e × AllKept f n vs es

-- the sign of the variable is kept with its rank
abbrev pub SignKept : List (Option KeptSign) → Variable → Type 0
SignKept ss v = (s : KeptSign) × (slice_index_or ss v.rank None ≡ Some s) × (kept_sign s ≡ v.sign)

-- the variables vs, of n, in the file f are kept
pub record Entered (f : List ℕ) (n : ℕ) (vs : List Variable) (x : Variables) : Type 0 where
  pub entries : AllKept f n vs (listed x.entries)
  pub signs : Every (SignKept x.signs) vs
  pub used : (r : ℕ) → r < 32 → is_some (slice_index_or x.signs r None) ≡ some (λ (v : Variable). nat_eq v.rank r) vs

-- the variable at p, behind vs, is read and entered
pub record Another (f : List ℕ) (n : ℕ) (vs : List Variable) (p q : ℕ) (x : Variables) : Type 0 where
  pub variable : Variable
  pub reads : (m : ℕ) → read_variables n (suc m) vs f p ≡ read_variables n m (vs ++ (variable ∷ [])) f q
  pub entered : Entered f n (vs ++ (variable ∷ [])) x

abbrev pub EntryTold : ℕ → List Variable → Cursor → Cursor → Variables → Result (Unit {0}) Stop → Type 0
EntryTold n vs old new x (Ok _) = Another old.bytes.now n vs old.at new.at x
EntryTold n vs old new x (Err e) = (m : ℕ) → read_variables n (suc m) vs old.bytes.now old.at ≡ stop e.reason e.place

-- n variables are read from p on, all but m of them and up to q, and entered
pub record Listing (f : List ℕ) (n p m q : ℕ) (x : Variables) : Type 0 where
  pub variables : List Variable
  pub long : length variables + m ≡ n
  pub reads : read_variables n n [] f p ≡ read_variables n m variables f q
  pub entered : Entered f n variables x

abbrev pub ListTold : ℕ → Cursor → Cursor → Result Variables Stop → Type 0
ListTold n old new (Ok x) = Listing old.bytes.now n old.at 0 new.at x
ListTold n old new (Err e) = read_variables n n [] old.bytes.now old.at ≡ stop e.reason e.place

-- all the variables vs of the file f are kept
abbrev pub Described : List ℕ → List Variable → Variables → Type 0
Described f vs x = Entered f (length vs) vs x

-- the file is that of variables, as described, or it is not, for the reason and at the place told
abbrev pub BooleanTold : List ℕ → Result Variables SolveFault → Type 0
BooleanTold f (Ok x) = (vs : List Variable) × ((boolean_reading f ≡ got vs) × Described f vs x)
BooleanTold f (Err e) = boolean_reading f ≡ bad e.reason e.place
