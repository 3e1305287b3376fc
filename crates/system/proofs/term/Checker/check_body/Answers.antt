use Rattle.std.proofs.Common.{ℕ, map, ap, ◌∙◌, arith}
use Rattle.definitions.specs.Lists.{up_to}
use Rattle.definitions.specs.Reading.{next, stop, take}
use Rattle.definitions.specs.ReadSystem.{read_clause, scope}
use Rattle.system.specs.Files.{kept_header}
use Rattle.system.proofs.Chains.{body_done}
use Rattle.system.proofs.Rows.{stopped, skipped_next, skipped_stop, skipped_end, at_up_to, length_from}
use Rattle.system.proofs.term.Checker.check_body.Goals as goal

pub returns-in_err-check_clause : goal.returns-in_err-check_clause
returns-in_err-check_clause g c =
    let a = g.G.Algebra.meaning c.args.self.now.alg.now in
    let hs = map kept_header c.args.self.now.headers.now in
    let s = scope (kept_header c.args.self.now.header.now) in
    let f = c.args.cursor.now.bytes.now in
    let p = c.args.cursor.now.at in
    let m = c.check_of.new.cursor in
    let n = c.in_ok-count.count in
    let k = c.in_ok-count.ensures.reads.0 ∙ ap (λ g. take 4 g m.at) c.in_ok-check_of.ensures.1 in
    let r = λ (_ : ℕ). read_clause a hs s in
    let l = c.loop in
    let e = c.in_err-check_clause.field-0.0 in
    let x = c.in_err-check_clause.ensures in
    let w = skipped_stop r (up_to n) e l.counter (at_up_to n l.counter (omega arith)) l.invariant x.0 in
    (stopped (λ x. x) c.check_clause.new.cursor.at c.from_residual-in_err-check_clause.result e _ c.from_residual-in_err-check_clause.ensures.1 (body_done a hs (kept_header c.args.self.now.header.now) f p m.at n c.field.new.self.at c.in_ok-check_of.ensures.0 k (stop e.reason e.place) w), x.1 ∙ l.invariant.same)

pub loop-preserved : goal.loop-preserved
loop-preserved g c =
    let r = λ (_ : ℕ). read_clause (g.G.Algebra.meaning c.args.self.now.alg.now) (map kept_header c.args.self.now.headers.now) (scope (kept_header c.args.self.now.header.now)) in
    let n = c.in_ok-count.count in
    let l = c.loop in
    skipped_next r (up_to n) c.check_clause.new.cursor l.counter (at_up_to n l.counter (omega arith)) l.invariant c.in_ok-check_clause.ensures

pub returns : goal.returns
returns g c =
    let a = g.G.Algebra.meaning c.args.self.now.alg.now in
    let hs = map kept_header c.args.self.now.headers.now in
    let s = scope (kept_header c.args.self.now.header.now) in
    let f = c.args.cursor.now.bytes.now in
    let p = c.args.cursor.now.at in
    let m = c.check_of.new.cursor in
    let n = c.in_ok-count.count in
    let k = c.in_ok-count.ensures.reads.0 ∙ ap (λ g. take 4 g m.at) c.in_ok-check_of.ensures.1 in
    let r = λ (_ : ℕ). read_clause a hs s in
    let l = c.loop in
    (body_done a hs (kept_header c.args.self.now.header.now) f p m.at n c.field.new.self.at c.in_ok-check_of.ensures.0 k (next tt l.cursor.at) (skipped_end r (up_to n) (omega (arith, length_from 0 n)) l.invariant), l.invariant.same)
