use Rattle.std.proofs.Common.{◌≡◌, ℕ, true, false, ◌⊎◌, inl, inr, List, length, sym, ap, subst, subst₂, ◌∙◌, rules, tests}
use Rattle.definitions.specs.Written.{header_bits}
use Rattle.definitions.specs.Fits.{HeaderFits}
use Rattle.bits.specs.Writes.{NoRoom}
use Rattle.system.specs.declared.outline.Equation.{Equation as Told}
use Rattle.passes.specs.declared.plan.Change.{Change}
use Rattle.passes.specs.Planned.{remains, equation_by}
use Rattle.passes.specs.Rewrites.{HeaderThere}
use Rattle.passes.proofs.Numbering.{remains_same}
use Rattle.passes.proofs.Masks.{wrote_same, writes_same}
use Rattle.passes.proofs.Along.{Along, piece, piece_yes, piece_no, along_changed, along_first, along_next, along_skip, along_stop, along_end}
use Rattle.passes.proofs.rewrite.write_headers.Goals as goal

pub loop-equation-init : goal.loop-equation-init
loop-equation-init c = λ a P es p.
    let R = HeaderThere a in
    let k = λ (c : Change). piece header_bits (equation_by a P c) (remains c.equation) in
    let w = c.args.writer.now in
    let r = c.into_iter-equation-iterator.result in
    let xs : r.a.rest.now ≡ c.args.equations.now = ap (λ z. z.a.rest.now) c.into_iter-equation-iterator.ensures.into_iter_gives ∙ ap (λ z. z.rest.now) c.zip-equation-items.ensures.first ∙ c.iter.ensures.rest in
    let cs : r.b.rest.now ≡ c.args.changes.now = search rules in
    subst₂ (λ (xs : List Told) (cs : List Change). Along R k c.args.changes.now es xs cs w w) (sym xs) (sym cs) (along_first R k c.args.changes.now c.args.equations.now es w p)

pub loop-equation-preserved-in-Continue-1 : goal.loop-equation-preserved-in-Continue-1
loop-equation-preserved-in-Continue-1 c = λ a P es p.
    let R = HeaderThere a in
    let k = λ (c : Change). piece header_bits (equation_by a P c) (remains c.equation) in
    let d = c.in-Some.ensures.steps in
    let x = c.in-Some.equation.now in
    let ch = c.in-Some.change.now in
    let yes : remains ch.equation ≡ true = sym (remains_same c.ne.result ch.equation (search (rules, tests))) ∙ c.if-ne.true in
    along_next R k x ch c.write_header.new.writer d.0 d.1 (c.loop-equation.invariant a P es p)
    (λ e h. wrote_same (sym (piece_yes header_bits (equation_by a P ch) (remains ch.equation) e yes)) (c.in_ok-write_header.ensures a P e h.kept (subst (HeaderFits a) h.kept h.fits)))

pub returns-in_err-write_header : goal.returns-in_err-write_header
returns-in_err-write_header c = λ a P es p.
    let R = HeaderThere a in
    let k = λ (c : Change). piece header_bits (equation_by a P c) (remains c.equation) in
    let d = c.in-Some.ensures.steps in
    let x = c.in-Some.equation.now in
    let ch = c.in-Some.change.now in
    let yes : remains ch.equation ≡ true = sym (remains_same c.ne.result ch.equation (search (rules, tests))) ∙ c.if-ne.true in
    let r = c.from_residual in
    writes_same c.args.writer.now c.write_header.new.writer r.result (along_changed header_bits (equation_by a P) c.args.changes.now es)
    (along_stop R k x ch c.write_header.new.writer r.result r.ensures.0 d.0 d.1 (c.loop-equation.invariant a P es p)
    (λ e h. subst (λ (bs : List ℕ). NoRoom bs c.loop-equation.writer) (sym (piece_yes header_bits (equation_by a P ch) (remains ch.equation) e yes)) (c.in_err-write_header.ensures a P e h.kept (subst (HeaderFits a) h.kept h.fits))))

pub loop-equation-preserved : goal.loop-equation-preserved
loop-equation-preserved c = λ a P es p.
    let R = HeaderThere a in
    let k = λ (c : Change). piece header_bits (equation_by a P c) (remains c.equation) in
    let d = c.in-Some.ensures.steps in
    let x = c.in-Some.equation.now in
    let ch = c.in-Some.change.now in
    let no : remains ch.equation ≡ false = sym (remains_same c.ne.result ch.equation (search (rules, tests))) ∙ c.if-ne.false in
    along_skip R k x ch d.0 d.1 (c.loop-equation.invariant a P es p) (λ e h. piece_no header_bits (equation_by a P ch) (remains ch.equation) e no)

pub returns : goal.returns
returns c = λ a P es p.
    let R = HeaderThere a in
    let k = λ (c : Change). piece header_bits (equation_by a P c) (remains c.equation) in
    let xs = c.loop-equation.equation-iterator.a.rest.now in
    let cs = c.loop-equation.equation-iterator.b.rest.now in
    let over : (length xs ≡ 0) ⊎ (length cs ≡ 0) = elim c.in-None.ensures.steps [ inl u ↦ inl u.1.0 | inr u ↦ inr u.1.0 ] in
    wrote_same (along_changed header_bits (equation_by a P) c.args.changes.now es) (along_end R k over (c.loop-equation.invariant a P es p))
