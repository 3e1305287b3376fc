use Rattle.std.proofs.Common.{◌≤◌, length}
use Rattle.definitions.specs.Systems.{System}
use Rattle.theorems.specs.KnowledgeLaws.{Shaped}
use Rattle.system.specs.Whole.{Outlined}
use Rattle.passes.specs.Learned.{ranks, Learnt}
use Rattle.passes.proofs.constants.least_knowledge.Given as goal

abbrev pub invariant-loop-pending : goal.invariant-loop-pending
invariant-loop-pending g l =
    let a = g.G.Algebra.meaning l.accepted.alg.now in
    (s : System) → length l.accepted.file.now ≤ 65536 → Outlined a l.accepted.file.now s l.accepted.outline.now → Shaped s → Learnt a s l.knowledge

abbrev pub decreases-loop-pending : goal.decreases-loop-pending
decreases-loop-pending g l = ranks l.knowledge
