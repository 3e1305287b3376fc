use Rattle.std.proofs.Common.{sym, ◌∙◌, subst, add-one}
use Rattle.std.proofs.lemmas.Result.{err_from_is_err_and}
use Rattle.expansion.proofs.Numbering.{Walks, start_fine, start_stands, start_short, walks_begin, walks_next, walks_short, walks_end, walks_full}
use Rattle.expansion.proofs.whole.write_variables.Goals as goal

pub returns-in_err-begin : goal.returns-in_err-begin
returns-in_err-begin g c = λ s short out fit.
    let a = g.G.Algebra.meaning c.args.accepted.now.alg.now in
    let t = err_from_is_err_and c.from_residual.result c.from_residual.ensures.1 in
    let h = c.begin.ensures s (s.start, s.values) (start_fine a s fit) (start_stands a c.args.accepted.now.file.now s c.args.accepted.now.outline.now out) in
    rw t.1 (λ first places d. start_short a s first places c.args.draft.now c.begin.new.self c.begin.result c.in_err-begin.field-0.0 c.in_err-begin.was d h)

pub loop-k-init : goal.loop-k-init
loop-k-init g c = λ s first places short out fit d.
    let a = g.G.Algebra.meaning c.args.accepted.now.alg.now in
    let h = c.begin.ensures s (s.start, s.values) (start_fine a s fit) (start_stands a c.args.accepted.now.file.now s c.args.accepted.now.outline.now out) in
    walks_begin a s first places c.args.draft.now c.begin.new.self c.begin.result c.in_ok-begin.field-0 c.in_ok-begin.was d h

pub loop-k-preserved : goal.loop-k-preserved
loop-k-preserved g c = λ s first places short out fit d.
    let a = g.G.Algebra.meaning c.args.accepted.now.alg.now in
    let w = c.loop-k.invariant s first places short out fit d in
    subst (λ k. Walks a s first places k c.write_variable.new.draft) (sym (add-one c.loop-k.k))
    (walks_next a s first places c.loop-k.k c.in-Some.instance c.loop-k.draft c.write_variable.new.draft c.write_variable.result c.in_ok-write_variable.field-0 c.loop-k-test.true w
    (sym c.get.ensures ∙ c.in-Some.is) c.in_ok-write_variable.was (λ x fine stands. c.write_variable.ensures s x short out fit fine stands))

pub returns-in_default : goal.returns-in_default
returns-in_default g c = λ s short out fit first places d.
    let a = g.G.Algebra.meaning c.args.accepted.now.alg.now in
    walks_end a s first places c.loop-k.k c.loop-k.draft (c.loop-k.invariant s first places short out fit d) (sym c.get.ensures ∙ c.in_default.is)

pub returns-in_err-write_variable : goal.returns-in_err-write_variable
returns-in_err-write_variable g c = λ s short out fit.
    let a = g.G.Algebra.meaning c.args.accepted.now.alg.now in
    let r = c.from_residual-in_err-write_variable in
    let t = err_from_is_err_and r.result r.ensures.1 in
    rw t.1 (λ first places d.
    walks_short a s first places c.loop-k.k c.in-Some.instance c.loop-k.draft c.write_variable.new.draft c.write_variable.result c.in_err-write_variable.field-0.0 c.loop-k-test.true (c.loop-k.invariant s first places short out fit d)
    (sym c.get.ensures ∙ c.in-Some.is) c.in_err-write_variable.was (λ x fine stands. c.write_variable.ensures s x short out fit fine stands))

pub returns : goal.returns
returns g c = λ s short out fit first places d.
    let a = g.G.Algebra.meaning c.args.accepted.now.alg.now in
    walks_full a s first places c.loop-k.k c.loop-k.draft (c.loop-k.invariant s first places short out fit d) c.loop-k-test.false
