use Rattle.std.proofs.Common.{◌≡◌, ◌+◌, drop, length, sym, ap, ◌∙◌, subst, arith, drop_of_length-le}
use Rattle.definitions.specs.Systems.{Clause}
use Rattle.definitions.specs.Values.{holds}
use Rattle.system.specs.Whole.{kept_headers}
use Rattle.expansion.specs.Bodies.{ClauseThere}
use Rattle.expansion.proofs.Walking.{Counting, item, counting_first, counting_next, counting_skip, counting_end}
use Rattle.expansion.proofs.body.count_holding.Goals as goal
use Rattle.expansion.proofs.body.count_holding.Goals.{then-holds, else-holds}

pub loop-clause-init : goal.loop-clause-init
loop-clause-init g c =
    let a = g.G.Algebra.meaning c.args.accepted.now.alg.now in (
      omega arith,
      λ k ks ps vs b p. counting_first (ClauseThere a (kept_headers c.args.accepted.now.outline.now) k c.args.accepted.now.file.now) (λ (k : Clause). holds a ps vs k.guard) c.args.clauses.now ks p,
    )

pub loop-clause-preserved : goal.loop-clause-preserved
loop-clause-preserved g c =
    let a = g.G.Algebra.meaning c.args.accepted.now.alg.now in
    let xs = c.args.clauses.now in
    let i = c.loop-clause.clause-index in
    let n = c.loop-clause.count in
    let x = c.clause-item.result in
    let e = item xs i x (omega arith) c.clause-item.is in
    let up = c.loop-clause.invariant.0 in
    elim c.if-holds.branch [
      | then-holds w ↦ (
        omega (arith, w.count-is),
        λ k ks ps vs b p.
            let R = ClauseThere a (kept_headers c.args.accepted.now.outline.now) k c.args.accepted.now.file.now in
            let t = λ (k : Clause). holds a ps vs k.guard in
            subst (Counting R t ks (drop (i + 1) xs)) (sym w.count-is)
            (counting_next R t x n e (c.loop-clause.invariant.1 k ks ps vs b p) (λ y h. sym (c.holds.ensures y.guard ps vs b h.found.guard) ∙ w.if-holds.true)),
      )
      | else-holds w ↦ (
        omega (arith, w.count-is),
        λ k ks ps vs b p.
            let R = ClauseThere a (kept_headers c.args.accepted.now.outline.now) k c.args.accepted.now.file.now in
            let t = λ (k : Clause). holds a ps vs k.guard in
            subst (Counting R t ks (drop (i + 1) xs)) (sym w.count-is)
            (counting_skip R t x n e (c.loop-clause.invariant.1 k ks ps vs b p) (λ y h. sym (c.holds.ensures y.guard ps vs b h.found.guard) ∙ w.if-holds.false)),
      )
    ]

pub returns : goal.returns
returns g c =
    let a = g.G.Algebra.meaning c.args.accepted.now.alg.now in
    let xs = c.args.clauses.now in
    let i = c.loop-clause.clause-index in
    let up = c.loop-clause.invariant.0 in
    let none : length (drop i xs) ≡ 0 = ap length (drop_of_length-le xs {i = i} (omega arith)) in
    record {
      few = omega arith;
      holding = λ k ks ps vs b p.
          counting_end (ClauseThere a (kept_headers c.args.accepted.now.outline.now) k c.args.accepted.now.file.now) (λ (k : Clause). holds a ps vs k.guard) c.loop-clause.count none (c.loop-clause.invariant.1 k ks ps vs b p);
    }
