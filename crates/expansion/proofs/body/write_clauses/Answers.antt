use Rattle.std.proofs.Common.{◌≡◌, ◌+◌, drop, length, sym, ap, ◌∙◌, subst, arith, drop_of_length-le}
use Rattle.definitions.specs.Systems.{Clause}
use Rattle.definitions.specs.Values.{holds}
use Rattle.definitions.specs.Boolean.{clause_form}
use Rattle.system.specs.Whole.{kept_headers}
use Rattle.expansion.specs.Bodies.{ClauseThere}
use Rattle.expansion.specs.declared.draft.Draft.{Draft}
use Rattle.expansion.proofs.Walking.{Parts, item, parts_first, parts_next, parts_skip, parts_stop, parts_end}
use Rattle.expansion.proofs.body.write_clauses.Goals as goal
use Rattle.expansion.proofs.body.write_clauses.Goals.{then-holds+in_ok-write_clause, else-holds}

pub loop-clause-init : goal.loop-clause-init
loop-clause-init g c = λ s k ks ps vs short hs b p.
    let a = g.G.Algebra.meaning c.args.accepted.now.alg.now in
    parts_first (ClauseThere a (kept_headers c.args.accepted.now.outline.now) k c.args.accepted.now.file.now) (λ (k : Clause). holds a ps vs k.guard) (clause_form a ps vs) s c.args.clauses.now ks c.args.draft.now p

pub returns-in_err-write_clause : goal.returns-in_err-write_clause
returns-in_err-write_clause g c = λ s k ks ps vs short hs b p.
    let a = g.G.Algebra.meaning c.args.accepted.now.alg.now in
    let R = ClauseThere a (kept_headers c.args.accepted.now.outline.now) k c.args.accepted.now.file.now in
    let x = c.clause-item.result in
    let e = item c.args.clauses.now c.loop-clause.clause-index x (omega arith) c.clause-item.is in
    parts_stop R (λ (k : Clause). holds a ps vs k.guard) (clause_form a ps vs) s x c.args.draft.now c.loop-clause.draft c.write_clause.new.draft c.write_clause.new.draft c.in_err-write_clause.field-0.0 c.from_residual.result c.from_residual.ensures.0 e
    (c.loop-clause.invariant s k ks ps vs short hs b p)
    (λ y h. (sym (c.holds.ensures y.guard ps vs b h.found.guard) ∙ c.if-holds.true, c.in_err-write_clause.ensures s k y ps vs short hs b h))

pub loop-clause-preserved : goal.loop-clause-preserved
loop-clause-preserved g c = λ s k ks ps vs short hs b p.
    let a = g.G.Algebra.meaning c.args.accepted.now.alg.now in
    let R = ClauseThere a (kept_headers c.args.accepted.now.outline.now) k c.args.accepted.now.file.now in
    let t = λ (k : Clause). holds a ps vs k.guard in
    let f = clause_form a ps vs in
    let xs = c.args.clauses.now in
    let i = c.loop-clause.clause-index in
    let x = c.clause-item.result in
    let e = item xs i x (omega arith) c.clause-item.is in
    let old = c.args.draft.now in
    let l = c.loop-clause.invariant s k ks ps vs short hs b p in
    elim c.if-holds.branch [
      | then-holds+in_ok-write_clause w ↦
          subst (λ (now : Draft). Parts R t f s ks (drop (i + 1) xs) old now) (sym w.draft-is)
          (parts_next R t f s x old c.loop-clause.draft w.write_clause.new.draft e l (λ y h. (sym (c.holds.ensures y.guard ps vs b h.found.guard) ∙ w.if-holds.true, w.in_ok-write_clause.ensures s k y ps vs short hs b h)))
      | else-holds w ↦
          subst (λ (now : Draft). Parts R t f s ks (drop (i + 1) xs) old now) (sym w.draft-is)
          (parts_skip R t f s x old c.loop-clause.draft e l (λ y h. sym (c.holds.ensures y.guard ps vs b h.found.guard) ∙ w.if-holds.false))
    ]

pub returns : goal.returns
returns g c = λ s k ks ps vs short hs b p.
    let a = g.G.Algebra.meaning c.args.accepted.now.alg.now in
    let xs = c.args.clauses.now in
    let i = c.loop-clause.clause-index in
    let none : length (drop i xs) ≡ 0 = ap length (drop_of_length-le xs {i = i} (omega arith)) in
    parts_end (ClauseThere a (kept_headers c.args.accepted.now.outline.now) k c.args.accepted.now.file.now) (λ (k : Clause). holds a ps vs k.guard) (clause_form a ps vs) s c.args.draft.now c.loop-clause.draft (tt {0}) none
    (c.loop-clause.invariant s k ks ps vs short hs b p)
