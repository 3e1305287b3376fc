use Rattle.std.proofs.Common.{arith}
use Rattle.firstcome.specs.Coming.{listed as came}
use Rattle.passes.specs.Comes.{wanted}
use Rattle.passes.proofs.Coming.{brought_none}
use Rattle.passes.proofs.ComingR.{points_wanted, few_wanted, round_last, round_more}
use Rattle.passes.proofs.redundant.rounds_come.Goals as goal

pub loop-round-init : goal.loop-round-init
loop-round-init g c = λ s short out fit room. (brought_none (wanted s) c.args.list.now room (λ x w. w), omega arith)

pub returns-in_err-pointing_come : goal.returns-in_err-pointing_come
returns-in_err-pointing_come g c = λ s short out fit room.
    let l = c.loop-round.invariant s short out fit room in
    absurd (c.in_err-pointing_come.ensures s short out (wanted s) l.0.room (points_wanted s))

pub returns-then-list-before : goal.returns-then-list-before
returns-then-list-before g c = λ s short out fit room.
    let l = c.loop-round.invariant s short out fit room in
    round_last s (wanted s) c.args.list.now c.loop-round.list c.pointing_come.new.list l.0 (c.in_ok-pointing_come.ensures s short out (wanted s) l.0.room (points_wanted s)) (omega arith)

pub loop-round-preserved : goal.loop-round-preserved
loop-round-preserved g c = λ s short out fit room.
    let l = c.loop-round.invariant s short out fit room in
    round_more s (wanted s) c.loop-round._round c.args.list.now c.loop-round.list c.pointing_come.new.list l (c.in_ok-pointing_come.ensures s short out (wanted s) l.0.room (points_wanted s)) (λ q. omega arith)

pub returns : goal.returns
returns g c = λ s short out fit room.
    let a = g.G.Algebra.meaning c.args.accepted.now.alg.now in
    let l = c.loop-round.invariant s short out fit room in
    let few = few_wanted a s fit (came c.loop-round.list) l.0.room.once l.0.room.pass in
    let more = l.1 in
    absurd (omega arith)
