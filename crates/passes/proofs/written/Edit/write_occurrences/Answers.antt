use Rattle.std.proofs.Common.{◌≡◌, drop, length, ap, arith, drop_of_length-le}
use Rattle.definitions.specs.Systems.{Occurrence}
use Rattle.definitions.specs.Written.{occurrence_bits}
use Rattle.system.specs.Whole.{kept_headers}
use Rattle.passes.specs.Planned.{term_by, occurrence_by}
use Rattle.passes.specs.Rewrites.{OccurrenceThere}
use Rattle.passes.proofs.Masks.{wrote_same, writes_same}
use Rattle.passes.proofs.Along.{item, flat_all, going_first, going_next, going_stop, going_end}
use Rattle.passes.proofs.written.Edit.write_occurrences.Goals as goal

pub loop-occurrence-init : goal.loop-occurrence-init
loop-occurrence-init g c = λ os vs n p.
    let a = g.G.Algebra.meaning c.args.self.now.accepted.now.alg.now in
    let R = OccurrenceThere a (kept_headers c.args.self.now.accepted.now.outline.now) (record { parameters = c.args.self.now.sorts.now; variables = vs }) c.args.self.now.accepted.now.file.now in
    let F = occurrence_by c.args.self.now.plan.now (term_by a c.args.self.now.plan.now c.args.self.now.sorts.now c.args.self.now.change.now) in
    let f = λ (o : Occurrence). occurrence_bits (F o) in
    let xs = c.args.occurrences.now in
    going_first R f xs os c.args.writer.now p

pub returns-in_err-write_occurrence : goal.returns-in_err-write_occurrence
returns-in_err-write_occurrence g c = λ os vs n p.
    let a = g.G.Algebra.meaning c.args.self.now.accepted.now.alg.now in
    let R = OccurrenceThere a (kept_headers c.args.self.now.accepted.now.outline.now) (record { parameters = c.args.self.now.sorts.now; variables = vs }) c.args.self.now.accepted.now.file.now in
    let F = occurrence_by c.args.self.now.plan.now (term_by a c.args.self.now.plan.now c.args.self.now.sorts.now c.args.self.now.change.now) in
    let f = λ (o : Occurrence). occurrence_bits (F o) in
    let xs = c.args.occurrences.now in
    let i = c.loop-occurrence.occurrence-index in
    let x = c.occurrence-item.result in
    let e = item xs i x (omega arith) c.occurrence-item.is in
    let r = c.from_residual in
    writes_same c.args.writer.now c.write_occurrence.new.writer r.result (flat_all occurrence_bits F os)
    (going_stop R f x c.write_occurrence.new.writer r.result r.ensures.0 e (c.loop-occurrence.invariant os vs n p) (λ o h. c.in_err-write_occurrence.ensures o vs h.end n h.fits h.found))

pub loop-occurrence-preserved : goal.loop-occurrence-preserved
loop-occurrence-preserved g c = λ os vs n p.
    let a = g.G.Algebra.meaning c.args.self.now.accepted.now.alg.now in
    let R = OccurrenceThere a (kept_headers c.args.self.now.accepted.now.outline.now) (record { parameters = c.args.self.now.sorts.now; variables = vs }) c.args.self.now.accepted.now.file.now in
    let F = occurrence_by c.args.self.now.plan.now (term_by a c.args.self.now.plan.now c.args.self.now.sorts.now c.args.self.now.change.now) in
    let f = λ (o : Occurrence). occurrence_bits (F o) in
    let xs = c.args.occurrences.now in
    let i = c.loop-occurrence.occurrence-index in
    let x = c.occurrence-item.result in
    let e = item xs i x (omega arith) c.occurrence-item.is in
    going_next R f x c.write_occurrence.new.writer e (c.loop-occurrence.invariant os vs n p) (λ o h. c.in_ok-write_occurrence.ensures o vs h.end n h.fits h.found)

pub returns : goal.returns
returns g c = λ os vs n p.
    let a = g.G.Algebra.meaning c.args.self.now.accepted.now.alg.now in
    let R = OccurrenceThere a (kept_headers c.args.self.now.accepted.now.outline.now) (record { parameters = c.args.self.now.sorts.now; variables = vs }) c.args.self.now.accepted.now.file.now in
    let F = occurrence_by c.args.self.now.plan.now (term_by a c.args.self.now.plan.now c.args.self.now.sorts.now c.args.self.now.change.now) in
    let f = λ (o : Occurrence). occurrence_bits (F o) in
    let xs = c.args.occurrences.now in
    let i = c.loop-occurrence.occurrence-index in
    let none : length (drop i xs) ≡ 0 = ap length (drop_of_length-le xs {i = i} (omega arith)) in
    wrote_same (flat_all occurrence_bits F os) (going_end R f none (c.loop-occurrence.invariant os vs n p))
