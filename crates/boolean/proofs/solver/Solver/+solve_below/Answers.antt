use Rattle.std.proofs.Common.{◌≡◌, suc, ◌-◌, ap, ◌∙◌, arith}
use Rattle.rows.specs.Listed.{listed}
use Rattle.definitions.specs.Order as order
use Rattle.definitions.specs.Nested.{solve}
use Rattle.boolean.specs.Steps.{assigned}
use Rattle.boolean.specs.Solvers.{variables, body, blocks_below}
use Rattle.boolean.proofs.Below.{below_start, below_next, below_end, below_less}
use Rattle.boolean.proofs.solver.Solver.+solve_below.Goals as goal

pub loop-k-init : goal.loop-k-init
loop-k-init t c =
    let s = c.args.self.now in
    below_start (variables s) s.blocks.now.ranks (listed s.blocks.now.signs) (c.args.k - 1) (assigned c.args.truths.now) (assigned c.begin.new.truths) c.begin.ensures

pub loop-k-preserved : goal.loop-k-preserved
loop-k-preserved t c =
    let s = c.args.self.now in
    below_next (variables s) s.blocks.now.ranks (listed s.blocks.now.signs) (c.args.k - 1) (assigned c.args.truths.now) (assigned c.begin.new.truths) c.begin.ensures
    (assigned c.loop-k.truths) (assigned c.solve_below.new.truths) (assigned c.settle_block.new.truths) c.loop-k.invariant c.solve_below.ensures c.settle_block.result c.settle_block.ensures

pub loop-k-smaller : goal.loop-k-smaller
loop-k-smaller t c =
    let s = c.args.self.now in
    below_less (variables s) s.blocks.now.ranks (listed s.blocks.now.signs) (c.args.k - 1) (assigned c.args.truths.now) (assigned c.begin.new.truths) c.begin.ensures
    (assigned c.loop-k.truths) (assigned c.solve_below.new.truths) (assigned c.settle_block.new.truths) c.loop-k.invariant c.solve_below.ensures c.if-not-settle_block.ensures

pub returns-then-not-settle_block : goal.returns-then-not-settle_block
returns-then-not-settle_block t c =
    let s = c.args.self.now in
    let n : suc (c.args.k - 1) ≡ c.args.k = omega arith in
    below_end (variables s) s.blocks.now.ranks (listed s.blocks.now.signs) (c.args.k - 1) (assigned c.args.truths.now) (assigned c.begin.new.truths) c.begin.ensures
    (assigned c.loop-k.truths) (assigned c.solve_below.new.truths) (assigned c.settle_block.new.truths) c.loop-k.invariant c.solve_below.ensures c.if-not-settle_block.ensures ∙
    ap (λ m. solve order.truths (body s) (blocks_below s m) (assigned c.args.truths.now)) n
