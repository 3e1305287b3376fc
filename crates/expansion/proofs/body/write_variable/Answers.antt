use Rattle.std.proofs.Common.{◌≤◌, [], length, refl, ap, subst, arith}
use Rattle.std.proofs.lemmas.Option.{MatchOption-at_none}
use Rattle.definitions.specs.Fits.{header_of}
use Rattle.rows.specs.Listed.{listed}
use Rattle.system.specs.Whole.{kept_headers}
use Rattle.system.specs.Walks.{Found, BodyOf}
use Rattle.expansion.proofs.Variables.{sign_small, got_at, equation_there, equation_small, body_fits, body_read, quantified_fit, quantified_kept, bound_none, variable_drafts}
use Rattle.expansion.proofs.body.write_variable.Goals as goal

pub returns-in_err-equation : goal.returns-in_err-equation
returns-in_err-equation g c = λ s x short out fits f h.
    let a = g.G.Algebra.meaning c.args.accepted.now.alg.now in
    let l = equation_there a c.args.accepted.now.file.now s c.args.accepted.now.outline.now out fits x f in
    let none : length c.as_slice-equations.result.now ≤ c.args.instance.now.equation = MatchOption-at_none _ _ c.in_err-equation.ensures.ok_part c.get.ensures.lookup.3 in
    let e = h.equation in
    let n = ap length c.as_slice-equations.ensures in
    absurd (omega arith)

pub returns-in_err-body : goal.returns-in_err-body
returns-in_err-body g c = λ s x short out fits f h.
    let a = g.G.Algebra.meaning c.args.accepted.now.alg.now in
    let file = c.args.accepted.now.file.now in
    let o = c.args.accepted.now.outline.now in
    let k = c.args.instance.now in
    let t = c.in_ok-equation.equation.now in
    let is = got_at c.as_slice-equations.result.now (listed o.equations) k.equation x.0 c.get.result c.in_ok-equation.equation c.get.ensures.lookup.1 c.in_ok-equation.ensures.ok_part c.as_slice-equations.ensures h.equation (equation_there a file s o out fits x f) in
    let r = body_read a file s o out fits x f t is in
    absurd (subst (λ b. Found b (BodyOf a (kept_headers o) (header_of f.equation) file f.equation r.0)) c.in_err-body.ensures.ok_part (c.open_body.ensures.found (kept_headers o) (header_of f.equation) f.equation r.0 short r.1))

pub returns : goal.returns
returns g c = λ s x short out fits f h.
    let a = g.G.Algebra.meaning c.args.accepted.now.alg.now in
    let file = c.args.accepted.now.file.now in
    let o = c.args.accepted.now.outline.now in
    let k = c.args.instance.now in
    let t = c.in_ok-equation.equation.now in
    let is = got_at c.as_slice-equations.result.now (listed o.equations) k.equation x.0 c.get.result c.in_ok-equation.equation c.get.ensures.lookup.1 c.in_ok-equation.ensures.ok_part c.as_slice-equations.ensures h.equation (equation_there a file s o out fits x f) in
    let r = body_read a file s o out fits x f t is in
    let b = subst (λ b. Found b (BodyOf a (kept_headers o) (header_of f.equation) file f.equation r.0)) c.in_ok-body.ensures.ok_part (c.open_body.ensures.found (kept_headers o) (header_of f.equation) f.equation r.0 short r.1) in
    let bound = bound_none a file s o out fits x f t is k c.len.result c.known.result _ h c.len.ensures.count c.known.ensures refl in
    let w = c.write_quantified.ensures s f.equation r.0 x.1 [] short out.headers (quantified_kept a file s o out fits x f t is) (quantified_fit a file s o out fits x f) refl bound b (body_fits a file s o out fits x f) in
    variable_drafts a file s o out fits x f t is k c.args.draft.now c.put.new.self c.put-2.new.self c.write_quantified.new.draft c.write_quantified.result h (c.put.ensures (omega arith) (sign_small t.header.sign)) (c.put-2.ensures (omega arith) (let l = equation_small a file s o out fits x f in let e = h.equation in omega arith)) w
