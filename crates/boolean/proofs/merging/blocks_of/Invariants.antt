use Rattle.std.proofs.Common.{◌-◌, length}
use Rattle.boolean.specs.Ranked.{Merged}
use Rattle.boolean.proofs.Backwards.{rest, Front}
use Rattle.boolean.proofs.merging.blocks_of.Given as goal

abbrev pub invariant-loop-rank : goal.invariant-loop-rank
invariant-loop-rank l = Front l.signs l.rank-iterator × Merged l.signs (32 - length (rest l.rank-iterator)) l.all
