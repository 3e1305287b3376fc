use Rattle.std.proofs.Common.{Bor, ◌≡◌, ◌<◌, List, length, get_or, sym, subst, arith}
use Rattle.rows.specs.Listed.{listed}
use Rattle.system.specs.declared.outline.Equation.{Equation}
use Rattle.passes.proofs.Learning.{followed_less}
use Rattle.passes.proofs.Learns.{at_told, got, not_got, follow_there, follow_learns}
use Rattle.passes.proofs.constants.follow.Goals as goal

pub returns-in_err-equation-clause-less : goal.returns-in_err-equation-clause-less
returns-in_err-equation-clause-less g c = followed_less c.args.knowledge.now _ c.args.pending.now.number c.args.pending.now.values c.requires (omega arith)

pub returns-in_err-equation-clause-learns : goal.returns-in_err-equation-clause-learns
returns-in_err-equation-clause-learns g c = λ s short out shaped l.
    let a = g.G.Algebra.meaning c.args.accepted.now.alg.now in
    let there = follow_there a s shaped c.args.accepted.now.file.now c.args.accepted.now.outline.now out c.args.knowledge.now c.args.pending.now.number c.args.pending.now.values c.requires l in
    let here = subst (λ (xs : List Equation). c.args.pending.now.number < length xs) (sym c.as_slice-equations.ensures) there in
    absurd (not_got c.get.result c.in_err-equation.ensures.ok_part (c.get.ensures.lookup.2 here))

pub returns-clause-less : goal.returns-clause-less
returns-clause-less g c = followed_less c.args.knowledge.now c.follow_equation.new.knowledge c.args.pending.now.number c.args.pending.now.values c.requires c.follow_equation.ensures.less

pub returns-clause-learns : goal.returns-clause-learns
returns-clause-learns g c = λ s short out shaped l.
    let a = g.G.Algebra.meaning c.args.accepted.now.alg.now in
    let file = c.args.accepted.now.file.now in
    let o = c.args.accepted.now.outline.now in
    let n = c.args.pending.now.number in
    let t = c.in_ok-equation.equation.now in
    let xs = c.as_slice-equations.result.now in
    let there = follow_there a s shaped file o out c.args.knowledge.now n c.args.pending.now.values c.requires l in
    let is = got (λ (x : Bor Equation). x.now ≡ get_or xs n x.now) c.get.result c.in_ok-equation.equation c.in_ok-equation.ensures.ok_part c.get.ensures.lookup.1 in
    let here = at_told (listed o.equations) n t there (subst (λ (ys : List Equation). t ≡ get_or ys n t) c.as_slice-equations.ensures is) in
    follow_learns a s shaped file o out c.args.knowledge.now n c.args.pending.now.values c.requires l c.follow_equation.new.knowledge t c.follow_equation.result here
    (λ ks h e q p read. c.follow_equation.ensures.brings ks h e q short p read)
