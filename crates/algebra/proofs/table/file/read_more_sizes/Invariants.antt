use Rattle.std.proofs.Common.{◌≡◌, ℕ, List, ◌∷◌}
use Rattle.rows.specs.Listed.{listed}
use Rattle.bits.specs.InRow.{Begun}
use Rattle.definitions.specs.Tables.{read_size}
use Rattle.algebra.proofs.table.file.read_more_sizes.Given as goal

abbrev pub invariant-loop : goal.invariant-loop
invariant-loop l = (xs : List ℕ) × (listed l.sizes ≡ 2 ∷ xs) × Begun read_size l.more l.counter xs l.fn.cursor l.cursor
