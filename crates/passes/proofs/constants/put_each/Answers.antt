use Rattle.std.proofs.Common.{replicate, None, refl, arith}
use Rattle.passes.specs.declared.plan.ParameterChange.TheVariants.{Stays}
use Rattle.passes.specs.Learned.{put}
use Rattle.passes.proofs.Learning.{filling_next, filling_end}
use Rattle.passes.proofs.constants.put_each.Goals as goal

pub loop-i-init : goal.loop-i-init
loop-i-init c = refl

pub loop-i-preserved : goal.loop-i-preserved
loop-i-preserved c = filling_next put c.args.values.now (replicate 15 Stays) c.loop-i.changes c.loop-i.i None c.put.result (omega (arith, c.told-values)) (omega arith) c.put.ensures c.loop-i.invariant

pub returns : goal.returns
returns c = filling_end put c.args.values.now (replicate 15 Stays) c.loop-i.changes c.loop-i.i (omega (arith, c.told-values)) (omega arith) c.loop-i.invariant
