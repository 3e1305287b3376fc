use Rattle.std.proofs.Common.{ℕ, List, drop}
use Rattle.definitions.specs.Systems.{Occurrence}
use Rattle.definitions.specs.Written.{occurrence_bits}
use Rattle.system.specs.Whole.{kept_headers}
use Rattle.system.specs.Walks.{Pairs}
use Rattle.passes.specs.Planned.{term_by, occurrence_by, Narrow}
use Rattle.passes.specs.Rewrites.{OccurrenceThere}
use Rattle.passes.proofs.Along.{Going}
use Rattle.passes.proofs.written.Edit.write_occurrences.Given as goal

abbrev pub invariant-loop-occurrence : goal.invariant-loop-occurrence
invariant-loop-occurrence g l =
    let a = g.G.Algebra.meaning l.self.accepted.now.alg.now in
    (os : List Occurrence) (vs : List ℕ) → Narrow l.self.sorts.now →
    let R = OccurrenceThere a (kept_headers l.self.accepted.now.outline.now) (record { parameters = l.self.sorts.now; variables = vs }) l.self.accepted.now.file.now in
    let f = term_by a l.self.plan.now l.self.sorts.now l.self.change.now in
    Pairs R l.occurrences os → Going R (λ (o : Occurrence). occurrence_bits (occurrence_by l.self.plan.now f o)) os (drop l.occurrence-index l.occurrences) l.fn.writer l.writer
