use Rattle.std.proofs.Common.{◌≤◌, ◌+◌, Ok, Err, ap, ◌∙◌, arith}
use Rattle.std.proofs.lemmas.Result.{err_from_is_err_and}
use Rattle.bench.specs.Holds.{holding}
use Rattle.bench.proofs.Rounding.{going_first, going_next, going_stop, going_end}
use Rattle.bench.proofs.Bench.run_round.Goals as goal

pub loop-letter-init : goal.loop-letter-init
loop-letter-init g c = going_first (g.G.Algebra.meaning c.args.alg.now) (holding c.args.self.now)

pub returns-in_err-run_within : goal.returns-in_err-run_within
returns-in_err-run_within g c =
    going_stop (g.G.Algebra.meaning c.args.alg.now) (holding c.args.self.now) (holding c.loop-letter.self) _ c.loop-letter.letter-index c.args.round c.from_residual.result _ c.loop-letter.invariant c.loop-letter-test.true c.in_err-run_within.ensures
    (let t = err_from_is_err_and c.from_residual.result c.from_residual.ensures.1 in t.1 ∙ ap Err t.2)

pub loop-letter-preserved : goal.loop-letter-preserved
loop-letter-preserved g c =
    going_next (g.G.Algebra.meaning c.args.alg.now) (holding c.args.self.now) (holding c.loop-letter.self) _ c.loop-letter.letter-index c.loop-letter.invariant c.loop-letter-test.true c.in_ok-run_within.ensures

pub returns : goal.returns
returns g c = going_end (g.G.Algebra.meaning c.args.alg.now) (holding c.args.self.now) (holding c.loop-letter.self) c.loop-letter.letter-index c.loop-letter.invariant c.loop-letter-test.false
