use Rattle.std.proofs.Common.{◌≤◌, List, length, drop}
use Rattle.definitions.specs.Systems.{Clause}
use Rattle.system.specs.Walks.{Pairs}
use Rattle.outsider.specs.Repeats.{repeats}
use Rattle.outsider.specs.Pieces.{Holds}
use Rattle.outsider.proofs.Along.{Seeking}
use Rattle.outsider.proofs.repeats.repeats_one.Given as goal

abbrev pub invariant-loop-other : goal.invariant-loop-other
invariant-loop-other l =
    (k : Clause) (ls : List Clause) → length l.file ≤ 65536 → Holds l.file l.clause k → Pairs (Holds l.file) l.others ls → Seeking (Holds l.file) (repeats k) ls (drop l.other-index l.others)
