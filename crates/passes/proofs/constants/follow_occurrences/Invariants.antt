use Rattle.std.proofs.Common.{ℕ, ◌≤◌, List, [], ◌∷◌, drop}
use Rattle.definitions.specs.Systems.{Occurrence}
use Rattle.definitions.specs.Constants.{Known}
use Rattle.terms.specs.Known.{Alike}
use Rattle.system.specs.declared.places.OccurrenceAt.{OccurrenceAt}
use Rattle.system.specs.Walks.{OccurrenceOf, Pairs}
use Rattle.passes.specs.Learned.{ranks, occurrence_brings}
use Rattle.passes.proofs.Learning.{Bringing}
use Rattle.passes.proofs.constants.follow_occurrences.Given as goal

abbrev pub invariant-loop-occurrence : goal.invariant-loop-occurrence
invariant-loop-occurrence g l =
    let a = g.G.Algebra.meaning l.accepted.alg.now in
    let R = λ (x : OccurrenceAt) (o : Occurrence). (u : ℕ) × OccurrenceOf a l.accepted.file.now o u x in
    (ranks l.knowledge ≤ ranks l.fn.knowledge) ×
    ((ks : Known) (os : List Occurrence) → Alike l.env.parameters ks → Alike l.env.variables [] → Pairs R l.occurrences os →
    Bringing R (λ o. occurrence_brings a ks o ∷ []) os (drop l.occurrence-index l.occurrences) l.fn.knowledge l.knowledge)
