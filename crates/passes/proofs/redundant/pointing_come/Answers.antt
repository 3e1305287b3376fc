use Rattle.std.proofs.Common.{◌≡◌, true, List, length, Some, sym, ap, subst, arith}
use Rattle.definitions.specs.Lists.{at}
use Rattle.definitions.specs.Systems.{Equation}
use Rattle.definitions.specs.Fits.{header_of}
use Rattle.definitions.specs.Passes.{occurrences}
use Rattle.rows.specs.Listed.{listed}
use Rattle.firstcome.specs.Coming.{listed as came}
use Rattle.system.specs.declared.outline.Equation.{Equation as Told}
use Rattle.passes.specs.declared.redundant.Parameter.{Parameter}
use Rattle.passes.specs.Comes.{Has, Pointing}
use Rattle.passes.proofs.Coming.{item_at, brought_as, front_first, front_next, front_end}
use Rattle.passes.proofs.ComingR.{told_equation, pointing_up}
use Rattle.passes.proofs.redundant.pointing_come.Goals as goal

pub loop-number-init : goal.loop-number-init
loop-number-init g c = λ s short out p room pass. front_first p (λ i (e : Equation). Pointing i (length e.sorts) (occurrences e) (Has (came c.args.list.now))) s.equations c.args.list.now room

pub returns-in_err-equation_feeds : goal.returns-in_err-equation_feeds
returns-in_err-equation_feeds g c = λ s short out p room pass.
    let a = g.G.Algebra.meaning c.args.accepted.now.alg.now in
    let f = c.args.accepted.now.file.now in
    let o = c.args.accepted.now.outline.now in
    let i = c.loop-number.number in
    let t = c.index-equations-number.result in
    let there : at (listed o.equations) i ≡ Some t = subst (λ (ts : List Told). at ts i ≡ Some t) c.as_slice-equations.ensures (item_at c.as_slice-equations.result.now i t c.loop-number-test.true c.index-equations-number.is) in
    let d = told_equation a f s o out i t there in
    let e = d.0 in
    let l = c.loop-number.invariant s short out p room pass in
    let sorts = λ (x : Parameter) (w : Pointing i (length (listed t.header.sorts)) (occurrences e) (λ y. p y ≡ true) x). subst (λ n. Pointing i n (occurrences e) (λ y. p y ≡ true) x) d.4 w in
    absurd (c.in_err-equation_feeds.ensures (header_of e) e d.1 short d.3 p l.room (λ x w. pass x (i, e, d.2, sorts x w)))

pub loop-number-preserved : goal.loop-number-preserved
loop-number-preserved g c = λ s short out p room pass.
    let a = g.G.Algebra.meaning c.args.accepted.now.alg.now in
    let f = c.args.accepted.now.file.now in
    let o = c.args.accepted.now.outline.now in
    let i = c.loop-number.number in
    let t = c.index-equations-number.result in
    let there : at (listed o.equations) i ≡ Some t = subst (λ (ts : List Told). at ts i ≡ Some t) c.as_slice-equations.ensures (item_at c.as_slice-equations.result.now i t c.loop-number-test.true c.index-equations-number.is) in
    let d = told_equation a f s o out i t there in
    let e = d.0 in
    let l = c.loop-number.invariant s short out p room pass in
    let sorts = λ (x : Parameter) (w : Pointing i (length (listed t.header.sorts)) (occurrences e) (λ y. p y ≡ true) x). subst (λ n. Pointing i n (occurrences e) (λ y. p y ≡ true) x) d.4 w in
    let H = Has (came c.args.list.now) in
    let b = c.in_ok-equation_feeds.ensures (header_of e) e d.1 short d.3 p l.room (λ x w. pass x (i, e, d.2, sorts x w)) in
    front_next p (λ i (e : Equation). Pointing i (length e.sorts) (occurrences e) H) s.equations i e d.2 l
    (brought_as p (λ x w. pointing_up H (Has (came c.loop-number.list)) i (length (listed t.header.sorts)) (occurrences e) (λ y h. (h.0, l.kept h.0 y h.1)) x (subst (λ n. Pointing i n (occurrences e) H x) (sym d.4) w)) b)

pub returns : goal.returns
returns g c = λ s short out p room pass.
    let few = ap length c.as_slice-equations.ensures in
    front_end p (λ i (e : Equation). Pointing i (length e.sorts) (occurrences e) (Has (came c.args.list.now))) s.equations c.loop-number.number (omega (arith, out.count)) (λ x w. w) (c.loop-number.invariant s short out p room pass)
