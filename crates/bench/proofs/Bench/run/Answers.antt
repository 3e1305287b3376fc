use Rattle.std.proofs.Common.{rules, ◌≡◌, ℕ, ◌≤◌, length, replicate, Ok, Err, take, ap, ◌∙◌, arith}
use Rattle.std.proofs.lemmas.List.{length-replicate}
use Rattle.std.proofs.lemmas.Result.{err_from_is_err_and}
use Rattle.bench.specs.Holds.{holding}
use Rattle.bench.proofs.Tails.{zeros, tail_zero, delivered_rest, holds_some}
use Rattle.bench.proofs.Held.{each_byte}
use Rattle.bench.proofs.Running.{run_follows, empty_run, obeyed_run, run_bytes, declined_run}
use Rattle.bench.proofs.Bench.run.Goals as goal

pub returns-then-self-eq0-clause-history : goal.returns-then-self-eq0-clause-history
returns-then-self-eq0-clause-history g c =
    let a = g.G.Algebra.meaning c.args.alg.now in
    let m = g.P.Pass.meaning c.args.pass.now in
    let h = holding c.args.self.now in
    run_follows a m h h _ (g.met.P.Pass.lawful c.args.pass.now) (empty_run m a h (ap (λ n. take n c.args.self.now.bytes) c.if-self-eq0.true))

pub returns-in_err-len-clause-answer : goal.returns-in_err-len-clause-answer
returns-in_err-len-clause-answer g c =
    let a = g.G.Algebra.meaning c.args.alg.now in
    let m = g.P.Pass.meaning c.args.pass.now in
    let h = holding c.args.self.now in
    declined_run m a h _ (replicate 8192 0) _ _ c.from_residual.result c.held.ensures (holds_some c.args.self.now (omega (arith, c.if-self-eq0.false)) (search rules)) (omega (arith, length-replicate {A = ℕ} 8192 0)) c.in_err-len.ensures
    (let t = err_from_is_err_and c.from_residual.result c.from_residual.ensures.1 in t.1 ∙ ap Err t.2)

pub returns-in_err-len-clause-history : goal.returns-in_err-len-clause-history
returns-in_err-len-clause-history g c =
    let a = g.G.Algebra.meaning c.args.alg.now in
    let m = g.P.Pass.meaning c.args.pass.now in
    let h = holding c.args.self.now in
    run_follows a m h h _ (g.met.P.Pass.lawful c.args.pass.now) (returns-in_err-len-clause-answer g c)

pub invariant_of-self : goal.invariant_of-self
invariant_of-self g c =
    let d = c.in_ok-len.ensures in
    record {
      bound = omega (arith, d.put.room, length-replicate {A = ℕ} 8192 0);
      small = each_byte _ (run_bytes (g.P.Pass.meaning c.args.pass.now) (g.G.Algebra.meaning c.args.alg.now) c.held.result.now (replicate 8192 0) c.apply.new.out c.in_ok-len.len (omega (arith, length-replicate {A = ℕ} 8192 0)) c.in_ok-len.ensures);
      zeros = tail_zero c.in_ok-len.len c.apply.new.out _ (delivered_rest d.file _ _ _ d.put) (zeros 8192);
    }

pub returns-clause-answer : goal.returns-clause-answer
returns-clause-answer g c =
    let a = g.G.Algebra.meaning c.args.alg.now in
    let m = g.P.Pass.meaning c.args.pass.now in
    let h = holding c.args.self.now in
    obeyed_run m a h _ (replicate 8192 0) c.apply.new.out c.in_ok-len.len c.held.ensures (holds_some c.args.self.now (omega (arith, c.if-self-eq0.false)) (search rules)) (omega (arith, length-replicate {A = ℕ} 8192 0)) c.in_ok-len.ensures

pub returns-clause-history : goal.returns-clause-history
returns-clause-history g c =
    let a = g.G.Algebra.meaning c.args.alg.now in
    let m = g.P.Pass.meaning c.args.pass.now in
    let h = holding c.args.self.now in
    run_follows a m h _ _ (g.met.P.Pass.lawful c.args.pass.now) (returns-clause-answer g c)
