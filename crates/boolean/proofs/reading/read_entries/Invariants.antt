use Rattle.std.proofs.Common.{◌≡◌, ◌-◌}
use Rattle.boolean.specs.Files.{Listing}
use Rattle.boolean.proofs.reading.read_entries.Given as goal

abbrev pub invariant-loop : goal.invariant-loop
invariant-loop l =
    Listing l.fn.cursor.bytes.now l.count l.fn.cursor.at (l.count - l.counter) l.cursor.at l.variables × (l.cursor.bytes.now ≡ l.fn.cursor.bytes.now)
