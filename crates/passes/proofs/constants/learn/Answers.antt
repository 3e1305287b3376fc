use Rattle.std.proofs.Common.{arith}
use Rattle.passes.proofs.Learning.{learnt_less, learnt_brings}
use Rattle.passes.proofs.constants.learn.Goals as goal

pub returns-clause-less : goal.returns-clause-less
returns-clause-less c = learnt_less c.args.knowledge.now c.args.target c.args.values c.joined.result (omega (arith, c.told-knowledge, c.requires)) c.joined.ensures

pub returns-clause-brings : goal.returns-clause-brings
returns-clause-brings c = learnt_brings c.args.knowledge.now c.args.target c.args.values c.joined.result (omega (arith, c.told-knowledge, c.requires)) c.joined.ensures
