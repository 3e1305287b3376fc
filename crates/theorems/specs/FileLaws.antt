-- Each system, Boolean system and table has exactly one file: it is read back from what is written, and what is read is what is written.
use Rattle.std.specs.Prelude.{◌≡◌, ℕ, ◌+◌, ◌≤◌, List, length, Option}
use Rattle.definitions.specs.Bits.{Stands}
use Rattle.definitions.specs.Alg.{Alg, Lawful}
use Rattle.definitions.specs.Systems.{Term, System}
use Rattle.definitions.specs.Reading.{next, got}
use Rattle.definitions.specs.ReadSystem.{Scope, Sorted, read_term, reading}
use Rattle.definitions.specs.Written.{term_bits, written}
use Rattle.definitions.specs.Fits.{Fits, Needs, SystemFits}
use Rattle.definitions.specs.FileFits.{BooleanFits, TableFits}
use Rattle.definitions.specs.Boolean.{Variable, boolean_written, boolean_reading}
use Rattle.definitions.specs.Tables.{Table, table_written, table_reading}
use Rattle.definitions.specs.Calls.{Bytes}

-- a term that fits is read where its bits stand
abbrev pub TermsReadBack : Type 0
TermsReadBack = (a : Alg) (c : Scope) (f : List ℕ) (d s : ℕ) (t : Term) → Fits a c d s t → (need : Option ℕ) → Needs need s → (p : ℕ) → Stands f p (term_bits t) →
    read_term a c d need f p ≡ next (record { the_term = t; the_sort = s }) (p + length (term_bits t))

-- a term that is read fits, has the sort needed, and its bits stand there
pub record TermRead (a : Alg) (c : Scope) (f : List ℕ) (d : ℕ) (need : Option ℕ) (p : ℕ) (x : Sorted) (q : ℕ) : Type 0 where
  pub fits : Fits a c d x.the_sort x.the_term
  pub needs : Needs need x.the_sort
  pub stands : Stands f p (term_bits x.the_term)
  pub behind : q ≡ p + length (term_bits x.the_term)

abbrev pub TermsReadFit : Type 0
TermsReadFit = (a : Alg) → Lawful a → (c : Scope) (f : List ℕ) (d : ℕ) (need : Option ℕ) (p : ℕ) (x : Sorted) (q : ℕ) →
    read_term a c d need f p ≡ next x q → TermRead a c f d need p x q

-- systems
abbrev pub SystemsReadBack : Type 0
SystemsReadBack = (a : Alg) (s : System) → SystemFits a s → length (written s) ≤ 8192 → reading a (written s) ≡ got s

abbrev pub SystemsWrittenBack : Type 0
SystemsWrittenBack = (a : Alg) → Lawful a → (f : List ℕ) → Bytes f → (s : System) → reading a f ≡ got s → (written s ≡ f) × SystemFits a s

-- Boolean systems
abbrev pub BooleansReadBack : Type 0
BooleansReadBack = (vs : List Variable) → BooleanFits vs → length (boolean_written vs) ≤ 65535 → boolean_reading (boolean_written vs) ≡ got vs

abbrev pub BooleansWrittenBack : Type 0
BooleansWrittenBack = (f : List ℕ) → Bytes f → (vs : List Variable) → boolean_reading f ≡ got vs → (boolean_written vs ≡ f) × BooleanFits vs

-- tables
abbrev pub TablesReadBack : Type 0
TablesReadBack = (t : Table) → TableFits t → length (table_written t) ≤ 16384 → table_reading (table_written t) ≡ got t

abbrev pub TablesWrittenBack : Type 0
TablesWrittenBack = (f : List ℕ) → Bytes f → (t : Table) → table_reading f ≡ got t → (table_written t ≡ f) × TableFits t

-- so no two files are read alike, of each kind
pub record UniqueFiles : Type 0 where
  pub systems : (a : Alg) → Lawful a → (f g : List ℕ) → Bytes f → Bytes g → (s : System) → reading a f ≡ got s → reading a g ≡ got s → f ≡ g
  pub booleans : (f g : List ℕ) → Bytes f → Bytes g → (vs : List Variable) → boolean_reading f ≡ got vs → boolean_reading g ≡ got vs → f ≡ g
  pub tables : (f g : List ℕ) → Bytes f → Bytes g → (t : Table) → table_reading f ≡ got t → table_reading g ≡ got t → f ≡ g
