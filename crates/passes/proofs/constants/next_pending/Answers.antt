use Rattle.std.proofs.Common.{subst}
use Rattle.passes.specs.Learned.{PendingFrom}
use Rattle.passes.proofs.Learning.{pending_all}
use Rattle.passes.proofs.constants.next_pending.Goals as goal

pub returns-in-Some-clause-pending : goal.returns-in-Some-clause-pending
returns-in-Some-clause-pending c = subst (PendingFrom c.args.from c.args.knowledge.now) c.in-Some.is c.pending_from.ensures.pending

pub returns-clause-pending : goal.returns-clause-pending
returns-clause-pending c = pending_all c.args.knowledge.now c.pending_from-2.result c.pending_from-2.ensures.pending
