use Rattle.std.proofs.Common.{rules, ◌≡◌, ◌≤◌, length, take, Ok, Err, ap, ◌∙◌, arith}
use Rattle.std.proofs.lemmas.Result.{err_from_is_err_and}
use Rattle.bench.specs.Holds.{holding}
use Rattle.bench.proofs.Tails.{holds_some}
use Rattle.bench.proofs.Running.{letter_follows, empty_letter, letter_run, declined_letter}
use Rattle.bench.proofs.Bench.run_letter.Goals as goal

pub returns-then-self-eq0-clause-history : goal.returns-then-self-eq0-clause-history
returns-then-self-eq0-clause-history g c =
    let a = g.G.Algebra.meaning c.args.alg.now in
    let h = holding c.args.self.now in
    letter_follows a c.args.letter h h _ (empty_letter c.args.letter a h (ap (λ n. take n c.args.self.now.bytes) c.if-self-eq0.true))

pub returns-in_err-pass-clause-answer : goal.returns-in_err-pass-clause-answer
returns-in_err-pass-clause-answer g c =
    let a = g.G.Algebra.meaning c.args.alg.now in
    let h = holding c.args.self.now in
    declined_letter c.args.letter a h c.from_residual.result (holds_some c.args.self.now (omega (arith, c.if-self-eq0.false)) (search rules)) c.in_err-pass.ensures
    (let t = err_from_is_err_and c.from_residual.result c.from_residual.ensures.1 in t.1 ∙ ap Err t.2)

pub returns-in_err-pass-clause-history : goal.returns-in_err-pass-clause-history
returns-in_err-pass-clause-history g c =
    let a = g.G.Algebra.meaning c.args.alg.now in
    let h = holding c.args.self.now in
    letter_follows a c.args.letter h h _ (returns-in_err-pass-clause-answer g c)

pub returns-clause-answer : goal.returns-clause-answer
returns-clause-answer g c =
    let a = g.G.Algebra.meaning c.args.alg.now in
    let h = holding c.args.self.now in
    letter_run c.in_ok-pass.pass c.args.letter a h _ _ c.in_ok-pass.ensures c.run.ensures.answer

pub returns-clause-history : goal.returns-clause-history
returns-clause-history g c =
    let a = g.G.Algebra.meaning c.args.alg.now in
    let h = holding c.args.self.now in
    letter_follows a c.args.letter h _ _ (returns-clause-answer g c)
