use Rattle.std.proofs.Common.{◌≡◌, ◌⊎◌, inl, inr, List, length, sym, ap, subst₂, ◌∙◌, rules}
use Rattle.rows.specs.Listed.{listed}
use Rattle.system.specs.declared.outline.Equation.{Equation as Told}
use Rattle.system.specs.Whole.{kept_headers}
use Rattle.passes.specs.declared.plan.Change.{Change}
use Rattle.passes.specs.Planned.{body_left}
use Rattle.passes.specs.Rewrites.{EquationThere}
use Rattle.passes.proofs.Masks.{wrote_same, writes_same}
use Rattle.passes.proofs.Along.{Along, along_bodies, along_first, along_next, along_stop, along_end}
use Rattle.passes.proofs.rewrite.write_bodies.Goals as goal

pub loop-equation-init : goal.loop-equation-init
loop-equation-init g c = λ es short p.
    let a = g.G.Algebra.meaning c.args.accepted.now.alg.now in
    let P = c.args.plan.now in
    let R = EquationThere a (kept_headers c.args.accepted.now.outline.now) c.args.accepted.now.file.now in
    let k = body_left a P in
    let w = c.args.writer.now in
    let r = c.into_iter-equation-iterator.result in
    let ts = listed c.args.accepted.now.outline.now.equations in
    let xs : r.a.rest.now ≡ ts = ap (λ z. z.a.rest.now) c.into_iter-equation-iterator.ensures.into_iter_gives ∙ ap (λ z. z.rest.now) c.zip-equation-items.ensures.first ∙ c.iter.ensures.rest ∙ c.as_slice-equations.ensures in
    let cs : r.b.rest.now ≡ P.equations = search rules in
    subst₂ (λ (xs : List Told) (cs : List Change). Along R k P.equations es xs cs w w) (sym xs) (sym cs) (along_first R k P.equations ts es w p)

pub loop-equation-preserved : goal.loop-equation-preserved
loop-equation-preserved g c = λ es short p.
    let a = g.G.Algebra.meaning c.args.accepted.now.alg.now in
    let P = c.args.plan.now in
    let R = EquationThere a (kept_headers c.args.accepted.now.outline.now) c.args.accepted.now.file.now in
    let k = body_left a P in
    let d = c.in-Some.ensures.steps in
    let x = c.in-Some.equation.now in
    let ch = c.in-Some.change.now in
    along_next R k x ch c.write_changed.new.writer d.0 d.1 (c.loop-equation.invariant es short p) (λ e h. c.in_ok-write_changed.ensures e h.end short h.header.kept h.header.fits h.fits h.read)

pub returns-in_err-write_changed : goal.returns-in_err-write_changed
returns-in_err-write_changed g c = λ es short p.
    let a = g.G.Algebra.meaning c.args.accepted.now.alg.now in
    let P = c.args.plan.now in
    let R = EquationThere a (kept_headers c.args.accepted.now.outline.now) c.args.accepted.now.file.now in
    let k = body_left a P in
    let d = c.in-Some.ensures.steps in
    let x = c.in-Some.equation.now in
    let ch = c.in-Some.change.now in
    let r = c.from_residual in
    writes_same c.args.writer.now c.write_changed.new.writer r.result (along_bodies a P P.equations es)
    (along_stop R k x ch c.write_changed.new.writer r.result r.ensures.0 d.0 d.1 (c.loop-equation.invariant es short p) (λ e h. c.in_err-write_changed.ensures e h.end short h.header.kept h.header.fits h.fits h.read))

pub returns : goal.returns
returns g c = λ es short p.
    let a = g.G.Algebra.meaning c.args.accepted.now.alg.now in
    let P = c.args.plan.now in
    let R = EquationThere a (kept_headers c.args.accepted.now.outline.now) c.args.accepted.now.file.now in
    let k = body_left a P in
    let xs = c.loop-equation.equation-iterator.a.rest.now in
    let cs = c.loop-equation.equation-iterator.b.rest.now in
    let over : (length xs ≡ 0) ⊎ (length cs ≡ 0) = elim c.in-None.ensures.steps [ inl u ↦ inl u.1.0 | inr u ↦ inr u.1.0 ] in
    wrote_same (along_bodies a P P.equations es) (along_end R k over (c.loop-equation.invariant es short p))
