use Rattle.std.proofs.Common.{Ok, Err, ap, ◌∙◌}
use Rattle.std.proofs.lemmas.Result.{err_from_is_err_and}
use Rattle.bench.specs.Holds.{holding}
use Rattle.bench.proofs.Running.{settle_follows, declined_settle}
use Rattle.bench.proofs.Bench.settle.Goals as goal

pub returns-in_err-rounds-clause-answer : goal.returns-in_err-rounds-clause-answer
returns-in_err-rounds-clause-answer g c =
    declined_settle (g.G.Algebra.meaning c.args.alg.now) (holding c.args.self.now) _ c.from_residual.result c.in_err-rounds.ensures
    (let t = err_from_is_err_and c.from_residual.result c.from_residual.ensures.1 in t.1 ∙ ap Err t.2)

pub returns-in_err-rounds-clause-history : goal.returns-in_err-rounds-clause-history
returns-in_err-rounds-clause-history g c =
    settle_follows (g.G.Algebra.meaning c.args.alg.now) (holding c.args.self.now) (holding c.args.self.now) c.from_residual.result (returns-in_err-rounds-clause-answer g c)

pub returns-clause-history : goal.returns-clause-history
returns-clause-history g c =
    settle_follows (g.G.Algebra.meaning c.args.alg.now) (holding c.args.self.now) (holding c.run_rounds.new.self) (Ok c.in_ok-rounds.rounds) c.in_ok-rounds.ensures
