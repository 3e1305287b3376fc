-- What a table algebra means.
use Rattle.rows.specs.Listed.{listed}
use Rattle.definitions.specs.Alg.{Alg}
use Rattle.definitions.specs.Tables.{Table, table}
use Rattle.algebra.specs.Kept.{kept}
use Rattle.algebra.specs.declared.table.Table.{Table as Stored}

abbrev pub stored : Stored → Table
stored t = kept (listed t.sizes) (listed t.operations) (listed t.values)

abbrev pub tabled : Stored → Alg
tabled t = table (stored t)
