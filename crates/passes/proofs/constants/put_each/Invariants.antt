use Rattle.std.proofs.Common.{replicate}
use Rattle.passes.specs.declared.plan.ParameterChange.TheVariants.{Stays}
use Rattle.passes.specs.Learned.{put}
use Rattle.passes.proofs.Learning.{Filling}
use Rattle.passes.proofs.constants.put_each.Given as goal

abbrev pub invariant-loop-i : goal.invariant-loop-i
invariant-loop-i l = Filling put l.values (replicate 15 Stays) l.i l.changes
