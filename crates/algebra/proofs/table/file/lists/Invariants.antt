use Rattle.std.proofs.Common.{◌≡◌, ◌*◌, ◌^◌, ◌≤◌, drop}
use Rattle.definitions.specs.Alg.{sized}
use Rattle.definitions.specs.Lists.{product}
use Rattle.algebra.proofs.table.file.lists.Given as goal

abbrev pub invariant-loop-sort : goal.invariant-loop-sort
invariant-loop-sort l = (l.total ≤ 65536 ^ l.sort-index) × (product (sized l.sizes l.sorts) ≡ l.total * product (drop l.sort-index (sized l.sizes l.sorts)))
