use Rattle.std.proofs.Common.{◌≡◌, ℕ, true, false, ◌⊎◌, inl, inr, List, length, sym, ap, subst, subst₂, ◌∙◌, rules, tests}
use Rattle.definitions.specs.Written.{term_bits}
use Rattle.bits.specs.Writes.{NoRoom}
use Rattle.passes.specs.declared.plan.ParameterChange.{ParameterChange}
use Rattle.passes.specs.Planned.{stays, term_by}
use Rattle.passes.specs.Rewrites.{TermAt}
use Rattle.passes.proofs.Numbering.{stays_same}
use Rattle.passes.proofs.Masks.{wrote_same, writes_same}
use Rattle.passes.proofs.Along.{Along, piece, piece_yes, piece_no, along_struck, along_first, along_next, along_skip, along_stop, along_end}
use Rattle.passes.proofs.written.Edit.write_arguments.Goals as goal

pub loop-argument-init : goal.loop-argument-init
loop-argument-init g c = λ ts vs n p.
    let a = g.G.Algebra.meaning c.args.self.now.accepted.now.alg.now in
    let R = TermAt a (record { parameters = c.args.self.now.sorts.now; variables = vs }) c.args.self.now.accepted.now.file.now in
    let f = term_by a c.args.self.now.plan.now c.args.self.now.sorts.now c.args.self.now.change.now in
    let k = λ (c : ParameterChange). piece term_bits f (stays c) in
    let w = c.args.writer.now in
    let r = c.into_iter-argument-iterator.result in
    let xs : r.a.rest.now ≡ c.args.arguments.now = ap (λ z. z.a.rest.now) c.into_iter-argument-iterator.ensures.into_iter_gives ∙ ap (λ z. z.rest.now) c.zip-argument-items.ensures.first ∙ c.iter.ensures.rest in
    let cs : r.b.rest.now ≡ c.args.changes.now = search rules in
    subst₂ (λ (xs : List ℕ) (cs : List ParameterChange). Along R k c.args.changes.now ts xs cs w w) (sym xs) (sym cs) (along_first R k c.args.changes.now c.args.arguments.now ts w p)

pub loop-argument-preserved-in-Continue-1 : goal.loop-argument-preserved-in-Continue-1
loop-argument-preserved-in-Continue-1 g c = λ ts vs n p.
    let a = g.G.Algebra.meaning c.args.self.now.accepted.now.alg.now in
    let R = TermAt a (record { parameters = c.args.self.now.sorts.now; variables = vs }) c.args.self.now.accepted.now.file.now in
    let f = term_by a c.args.self.now.plan.now c.args.self.now.sorts.now c.args.self.now.change.now in
    let k = λ (c : ParameterChange). piece term_bits f (stays c) in
    let d = c.in-Some.ensures.steps in
    let x = c.in-Some.argument.now in
    let ch = c.in-Some.change.now in
    let yes : stays ch ≡ true = sym (stays_same c.eq.result ch (search (rules, tests))) ∙ c.if-eq.true in
    along_next R k x ch c.write_term.new.writer d.0 d.1 (c.loop-argument.invariant ts vs n p) (λ t h. wrote_same (sym (piece_yes term_bits f (stays ch) t yes)) (c.in_ok-write_term.ensures t vs h.sort n h.fits h.stands))

pub returns-in_err-write_term : goal.returns-in_err-write_term
returns-in_err-write_term g c = λ ts vs n p.
    let a = g.G.Algebra.meaning c.args.self.now.accepted.now.alg.now in
    let R = TermAt a (record { parameters = c.args.self.now.sorts.now; variables = vs }) c.args.self.now.accepted.now.file.now in
    let f = term_by a c.args.self.now.plan.now c.args.self.now.sorts.now c.args.self.now.change.now in
    let k = λ (c : ParameterChange). piece term_bits f (stays c) in
    let d = c.in-Some.ensures.steps in
    let x = c.in-Some.argument.now in
    let ch = c.in-Some.change.now in
    let yes : stays ch ≡ true = sym (stays_same c.eq.result ch (search (rules, tests))) ∙ c.if-eq.true in
    let r = c.from_residual in
    writes_same c.args.writer.now c.write_term.new.writer r.result (along_struck term_bits f stays c.args.changes.now ts)
    (along_stop R k x ch c.write_term.new.writer r.result r.ensures.0 d.0 d.1 (c.loop-argument.invariant ts vs n p) (λ t h. subst (λ (bs : List ℕ). NoRoom bs c.loop-argument.writer) (sym (piece_yes term_bits f (stays ch) t yes)) (c.in_err-write_term.ensures t vs h.sort n h.fits h.stands)))

pub loop-argument-preserved : goal.loop-argument-preserved
loop-argument-preserved g c = λ ts vs n p.
    let a = g.G.Algebra.meaning c.args.self.now.accepted.now.alg.now in
    let R = TermAt a (record { parameters = c.args.self.now.sorts.now; variables = vs }) c.args.self.now.accepted.now.file.now in
    let f = term_by a c.args.self.now.plan.now c.args.self.now.sorts.now c.args.self.now.change.now in
    let k = λ (c : ParameterChange). piece term_bits f (stays c) in
    let d = c.in-Some.ensures.steps in
    let ch = c.in-Some.change.now in
    let no : stays ch ≡ false = sym (stays_same c.eq.result ch (search (rules, tests))) ∙ c.if-eq.false in
    along_skip R k c.in-Some.argument.now ch d.0 d.1 (c.loop-argument.invariant ts vs n p) (λ t h. piece_no term_bits f (stays ch) t no)

pub returns : goal.returns
returns g c = λ ts vs n p.
    let a = g.G.Algebra.meaning c.args.self.now.accepted.now.alg.now in
    let R = TermAt a (record { parameters = c.args.self.now.sorts.now; variables = vs }) c.args.self.now.accepted.now.file.now in
    let f = term_by a c.args.self.now.plan.now c.args.self.now.sorts.now c.args.self.now.change.now in
    let k = λ (c : ParameterChange). piece term_bits f (stays c) in
    let xs = c.loop-argument.argument-iterator.a.rest.now in
    let cs = c.loop-argument.argument-iterator.b.rest.now in
    let over : (length xs ≡ 0) ⊎ (length cs ≡ 0) = elim c.in-None.ensures.steps [ inl u ↦ inl u.1.0 | inr u ↦ inr u.1.0 ] in
    wrote_same (along_struck term_bits f stays c.args.changes.now ts) (along_end R k over (c.loop-argument.invariant ts vs n p))
