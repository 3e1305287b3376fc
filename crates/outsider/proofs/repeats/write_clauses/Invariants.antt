use Rattle.std.proofs.Common.{◌≤◌, List, length, drop}
use Rattle.definitions.specs.Systems.{Clause}
use Rattle.definitions.specs.Written.{clause_bits}
use Rattle.system.specs.Walks.{Pairs}
use Rattle.outsider.specs.Pieces.{Holds}
use Rattle.outsider.proofs.Along.{Going}
use Rattle.outsider.proofs.repeats.write_clauses.Given as goal

abbrev pub invariant-loop-clause : goal.invariant-loop-clause
invariant-loop-clause l =
    (ks : List Clause) → length l.file ≤ 65536 → Pairs (Holds l.file) l.clauses ks → Going (Holds l.file) clause_bits ks (drop l.clause-index l.clauses) l.fn.writer l.writer
