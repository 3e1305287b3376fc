use Rattle.std.proofs.Common.{arith}
use Rattle.passes.proofs.Learns.{learnt_least}
use Rattle.passes.proofs.constants.least_knowledge.Goals as goal

pub loop-pending-init : goal.loop-pending-init
loop-pending-init g c = λ s short out shaped.
    c.know_start-knowledge.ensures (g.G.Algebra.meaning c.args.accepted.now.alg.now) c.args.accepted.now.file.now s out shaped

pub overflow_add-from : goal.overflow_add-from
overflow_add-from g c = omega (arith, c.in-Some.ensures.within)

pub loop-pending-smaller : goal.loop-pending-smaller
loop-pending-smaller g c = c.follow.ensures.less

pub loop-pending-preserved : goal.loop-pending-preserved
loop-pending-preserved g c = λ s short out shaped. c.in_ok-follow.ensures.learns s short out shaped (c.loop-pending.invariant s short out shaped)

pub returns-in_err-follow : goal.returns-in_err-follow
returns-in_err-follow g c = λ s short out shaped. absurd (c.in_err-follow.ensures.learns s short out shaped (c.loop-pending.invariant s short out shaped))

pub returns : goal.returns
returns g c = λ s short out shaped.
    learnt_least (g.G.Algebra.meaning c.args.accepted.now.alg.now) s shaped c.loop-pending.knowledge c.in_default.ensures.pending (c.loop-pending.invariant s short out shaped)
