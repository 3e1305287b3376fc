-- The algebras that exist are lawful, so that what is said of every lawful algebra is said of them.
use Rattle.std.specs.Prelude.{◌≡◌, ℕ, ◌≤◌, List, length}
use Rattle.definitions.specs.Alg.{Lawful}
use Rattle.definitions.specs.Algebras.{level, counting}
use Rattle.definitions.specs.Fits.{Every}
use Rattle.definitions.specs.FileFits.{TableFits}
use Rattle.definitions.specs.Tables.{Table, table}
use Rattle.definitions.specs.Calls.{Bytes, filled, counting_fill, table_fill}

pub record AlgebrasLawful : Type 0 where
  pub level_algebra : Lawful level
  pub counting_algebra : (sizes : List ℕ) → length sizes ≤ 15 → Every (λ n. (1 ≤ n) × (n ≤ 256)) sizes → Lawful (counting sizes)
  pub counting_filled : (sizes : List ℕ) → counting_fill sizes ≡ filled sizes → Lawful (counting sizes)
  pub table_algebra : (t : Table) → TableFits t → Lawful (table t)
  pub table_filled : (f : List ℕ) → Bytes f → (t : Table) → table_fill f ≡ filled t → Lawful (table t)
