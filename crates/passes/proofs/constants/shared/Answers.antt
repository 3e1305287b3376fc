use Rattle.passes.proofs.Learning.{sharing_first, sharing_next, sharing_end}
use Rattle.passes.proofs.constants.shared.Goals as goal

pub loop-i-init : goal.loop-i-init
loop-i-init c = sharing_first c.args.x.now c.args.y.now

pub loop-i-preserved : goal.loop-i-preserved
loop-i-preserved c = sharing_next c.args.x.now c.args.y.now c.loop-i.values c.loop-i.i c.agreed.result c.told-x c.told-y c.loop-i-test.true c.agreed.ensures c.loop-i.invariant

pub returns : goal.returns
returns c = sharing_end c.args.x.now c.args.y.now c.loop-i.values c.loop-i.i c.told-x c.told-y c.loop-i-test.false c.loop-i.invariant
