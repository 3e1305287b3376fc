use Rattle.std.proofs.Common.{replicate, ap, arith}
use Rattle.passes.specs.Plans.{change_none}
use Rattle.passes.specs.Learned.{changing}
use Rattle.passes.specs.declared.constants.Known.TheVariants.{Unreached}
use Rattle.passes.proofs.Learning.{filling_next, filling_end}
use Rattle.passes.proofs.constants.changes.Goals as goal

pub loop-i-init : goal.loop-i-init
loop-i-init c = ap (replicate 31) c.none-changes.ensures

pub loop-i-preserved : goal.loop-i-preserved
loop-i-preserved c = filling_next changing c.args.knowledge.now (replicate 31 change_none) c.loop-i.changes c.loop-i.i Unreached c.change.result (omega (arith, c.told-knowledge)) (omega arith) c.change.ensures c.loop-i.invariant

pub returns : goal.returns
returns c = filling_end changing c.args.knowledge.now (replicate 31 change_none) c.loop-i.changes c.loop-i.i (omega (arith, c.told-knowledge)) (omega arith) c.loop-i.invariant
