use Rattle.std.proofs.Common.{rules, ◌≤◌, length, take, ap, arith}
use Rattle.expansion.specs.Whole.{told}
use Rattle.bench.specs.Holds.{holding}
use Rattle.bench.proofs.Tails.{holds_some}
use Rattle.bench.proofs.Running.{expand_follows, empty_expand, held_expand}
use Rattle.bench.proofs.Bench.expand.Goals as goal

pub returns-then-self-eq0-clause-history : goal.returns-then-self-eq0-clause-history
returns-then-self-eq0-clause-history g c =
    let a = g.G.Algebra.meaning c.args.alg.now in
    let h = holding c.args.self.now in
    expand_follows a (length c.args.work.now) c.args.out.now c.args.out.now h _
    (empty_expand a (length c.args.work.now) c.args.out.now h (ap (λ n. take n c.args.self.now.bytes) c.if-self-eq0.true))

pub returns-clause-answer : goal.returns-clause-answer
returns-clause-answer g c =
    held_expand (g.G.Algebra.meaning c.args.alg.now) (length c.args.work.now) c.args.out.now c.expand.new.out c.held.result.now (holding c.args.self.now) (told c.expand.result) c.held.ensures
    (holds_some c.args.self.now (omega (arith, c.if-self-eq0.false)) (search rules)) c.expand.ensures

pub returns-clause-history : goal.returns-clause-history
returns-clause-history g c =
    expand_follows (g.G.Algebra.meaning c.args.alg.now) (length c.args.work.now) c.args.out.now c.expand.new.out (holding c.args.self.now) (told c.expand.result) (returns-clause-answer g c)
