use Rattle.std.proofs.Common.{arith}
use Rattle.passes.specs.Learned.{kept_at}
use Rattle.passes.proofs.Learning.{not_fresh, none_next, none_left_fresh}
use Rattle.passes.proofs.constants.pending_from.Goals as goal

pub loop-number-init : goal.loop-number-init
loop-number-init c = λ j m l. absurd (omega arith)

pub returns-in-Fresh-clause-pending : goal.returns-in-Fresh-clause-pending
returns-in-Fresh-clause-pending c = c.in-Fresh.is

pub loop-number-preserved : goal.loop-number-preserved
loop-number-preserved c = none_next c.args.knowledge.now c.args.from c.loop-number.number c.loop-number.invariant (not_fresh (kept_at c.args.knowledge.now c.loop-number.number) c.in_default.not-Fresh)

pub returns-clause-pending : goal.returns-clause-pending
returns-clause-pending c = none_left_fresh c.args.knowledge.now c.args.from c.loop-number.number (omega (arith, c.told-knowledge)) c.loop-number.invariant
