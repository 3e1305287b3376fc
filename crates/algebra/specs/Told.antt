-- What reading a whole table file comes to.
use Rattle.std.specs.Prelude.{Ok, Err, Result}
use Rattle.faults.specs.declared.TableFault.{TableFault}
use Rattle.definitions.specs.Reading.{Reading, got, bad}
use Rattle.definitions.specs.Tables.{Table}
use Rattle.algebra.specs.Tabled.{stored}
use Rattle.algebra.specs.declared.table.Table.{Table as Stored}

abbrev pub judged : Result Stored TableFault → Reading Table
judged (Ok t) = got (stored t)
judged (Err e) = bad e.reason e.place
