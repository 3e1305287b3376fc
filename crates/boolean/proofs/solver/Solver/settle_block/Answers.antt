use Rattle.std.proofs.Common.{true, length, refl, arith}
use Rattle.rows.specs.Listed.{listed}
use Rattle.boolean.specs.Steps.{assigned}
use Rattle.boolean.specs.Solvers.{variables, sign, body, inside}
use Rattle.boolean.proofs.Merges.{in_below}
use Rattle.boolean.proofs.Sweeping.{swept_start, swept_again, swept_also, swept_done, swept_less, swept_most}
use Rattle.boolean.proofs.solver.Solver.settle_block.Goals as goal

pub loop-changed-init : goal.loop-changed-init
loop-changed-init c =
    let s = c.args.self.now in
    let k = c.args.k in
    swept_start (sign s k) (body s) (inside s k) (assigned c.args.truths.now) (length (variables s)) (in_below (variables s) s.blocks.now.ranks k)

pub loop-changed-preserved : goal.loop-changed-preserved
loop-changed-preserved c =
    let s = c.args.self.now in
    let k = c.args.k in
    let down = swept_again (sign s k) (body s) (inside s k) (length (variables s)) (assigned c.args.truths.now) (assigned c.loop-changed.truths) (assigned c.sweep.new.truths) c.loop-changed.changed
    c.loop-changed.invariant c.loop-changed-test.ensures in
    swept_also (sign s k) (body s) (inside s k) (length (variables s)) (assigned c.args.truths.now) (assigned c.sweep.new.truths) (assigned c.sweep_up.new.truths) true down
    (length (listed s.variables.now.entries)) c.sweep_up.result refl c.sweep_up.ensures

pub loop-changed-smaller : goal.loop-changed-smaller
loop-changed-smaller c =
    let s = c.args.self.now in
    let k = c.args.k in
    let less = swept_less (sign s k) (variables s) s.blocks.now.ranks k 0 (body s) (assigned c.loop-changed.truths) (assigned c.sweep.new.truths) c.loop-changed-test.ensures in
    let most = swept_most (sign s k) (variables s) s.blocks.now.ranks k (length (listed s.variables.now.entries)) (body s) (assigned c.sweep.new.truths) (assigned c.sweep_up.new.truths) c.sweep_up.result
    c.sweep_up.ensures in
    omega (arith, less, most)

pub returns : goal.returns
returns c =
    let s = c.args.self.now in
    let k = c.args.k in
    swept_done (sign s k) (body s) (inside s k) (length (variables s)) (assigned c.args.truths.now) (assigned c.loop-changed.truths) (assigned c.sweep.new.truths) c.loop-changed.changed
    c.loop-changed.invariant c.loop-changed-test.ensures
