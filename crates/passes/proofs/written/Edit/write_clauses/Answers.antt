use Rattle.std.proofs.Common.{◌≡◌, ℕ, ◌+◌, List, drop, length, sym, ap, ◌∙◌, subst, arith, drop_of_length-le}
use Rattle.definitions.specs.Systems.{Clause}
use Rattle.definitions.specs.Written.{clause_bits}
use Rattle.bits.specs.declared.writer.BitWriter.{BitWriter}
use Rattle.bits.specs.Writes.{NoRoom}
use Rattle.system.specs.Whole.{kept_headers}
use Rattle.passes.specs.Planned.{term_by, clause_by, clause_stays}
use Rattle.passes.specs.Rewrites.{ClauseThere}
use Rattle.passes.proofs.Masks.{wrote_same, writes_same}
use Rattle.passes.proofs.Along.{Going, item, piece, piece_yes, piece_no, flat_kept, going_first, going_next, going_skip, going_stop, going_end}
use Rattle.passes.proofs.written.Edit.write_clauses.Goals as goal
use Rattle.passes.proofs.written.Edit.write_clauses.Goals.{then-stays+in_ok-write_clause, else-stays}

pub loop-clause-init : goal.loop-clause-init
loop-clause-init g c = λ ks vs short n p.
    let a = g.G.Algebra.meaning c.args.self.now.accepted.now.alg.now in
    let P = c.args.self.now.plan.now in
    let R = ClauseThere a (kept_headers c.args.self.now.accepted.now.outline.now) (record { parameters = c.args.self.now.sorts.now; variables = vs }) c.args.self.now.accepted.now.file.now in
    let F = clause_by P (term_by a P c.args.self.now.sorts.now c.args.self.now.change.now) in
    let f = λ (k : Clause). piece clause_bits F (clause_stays a P k) k in
    let xs = c.args.clauses.now in
    going_first R f xs ks c.args.writer.now p

pub returns-in_err-write_clause : goal.returns-in_err-write_clause
returns-in_err-write_clause g c = λ ks vs short n p.
    let a = g.G.Algebra.meaning c.args.self.now.accepted.now.alg.now in
    let P = c.args.self.now.plan.now in
    let R = ClauseThere a (kept_headers c.args.self.now.accepted.now.outline.now) (record { parameters = c.args.self.now.sorts.now; variables = vs }) c.args.self.now.accepted.now.file.now in
    let F = clause_by P (term_by a P c.args.self.now.sorts.now c.args.self.now.change.now) in
    let f = λ (k : Clause). piece clause_bits F (clause_stays a P k) k in
    let xs = c.args.clauses.now in
    let i = c.loop-clause.clause-index in
    let x = c.clause-item.result in
    let e = item xs i x (omega arith) c.clause-item.is in
    let l = c.loop-clause.invariant ks vs short n p in
    let r = c.from_residual in
    writes_same c.args.writer.now c.write_clause.new.writer r.result (flat_kept clause_bits F (clause_stays a P) ks)
    (going_stop R f x c.write_clause.new.writer r.result r.ensures.0 e l (λ k h. subst (λ (bs : List ℕ). NoRoom bs c.loop-clause.writer) (sym (piece_yes clause_bits F (clause_stays a P k) k (sym (c.stays.ensures.read k h.found.guard) ∙ c.if-stays.true))) (c.in_err-write_clause.ensures k vs h.end short n h.fits h.found)))

pub loop-clause-preserved : goal.loop-clause-preserved
loop-clause-preserved g c = λ ks vs short n p.
    let a = g.G.Algebra.meaning c.args.self.now.accepted.now.alg.now in
    let P = c.args.self.now.plan.now in
    let R = ClauseThere a (kept_headers c.args.self.now.accepted.now.outline.now) (record { parameters = c.args.self.now.sorts.now; variables = vs }) c.args.self.now.accepted.now.file.now in
    let F = clause_by P (term_by a P c.args.self.now.sorts.now c.args.self.now.change.now) in
    let f = λ (k : Clause). piece clause_bits F (clause_stays a P k) k in
    let xs = c.args.clauses.now in
    let i = c.loop-clause.clause-index in
    let x = c.clause-item.result in
    let e = item xs i x (omega arith) c.clause-item.is in
    let l = c.loop-clause.invariant ks vs short n p in
    let more = drop (i + 1) xs in
    elim c.if-stays.branch [
      | then-stays+in_ok-write_clause w ↦
          subst (λ (now : BitWriter). Going R f ks more c.args.writer.now now) (sym w.writer-is)
          (going_next R f x w.write_clause.new.writer e l (λ k h. wrote_same (sym (piece_yes clause_bits F (clause_stays a P k) k (sym (c.stays.ensures.read k h.found.guard) ∙ w.if-stays.true))) (w.in_ok-write_clause.ensures k vs h.end short n h.fits h.found)))
      | else-stays w ↦
          subst (λ (now : BitWriter). Going R f ks more c.args.writer.now now) (sym w.writer-is)
          (going_skip R f x e l (λ k h. piece_no clause_bits F (clause_stays a P k) k (sym (c.stays.ensures.read k h.found.guard) ∙ w.if-stays.false)))
    ]

pub returns : goal.returns
returns g c = λ ks vs short n p.
    let a = g.G.Algebra.meaning c.args.self.now.accepted.now.alg.now in
    let P = c.args.self.now.plan.now in
    let R = ClauseThere a (kept_headers c.args.self.now.accepted.now.outline.now) (record { parameters = c.args.self.now.sorts.now; variables = vs }) c.args.self.now.accepted.now.file.now in
    let F = clause_by P (term_by a P c.args.self.now.sorts.now c.args.self.now.change.now) in
    let f = λ (k : Clause). piece clause_bits F (clause_stays a P k) k in
    let xs = c.args.clauses.now in
    let i = c.loop-clause.clause-index in
    let none : length (drop i xs) ≡ 0 = ap length (drop_of_length-le xs {i = i} (omega arith)) in
    wrote_same (flat_kept clause_bits F (clause_stays a P) ks) (going_end R f none (c.loop-clause.invariant ks vs short n p))
