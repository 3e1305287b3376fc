use Rattle.std.proofs.Common.{◌≡◌, ℕ, [], ◌∷◌, drop, length, ap, subst, arith, drop_of_length-le}
use Rattle.definitions.specs.Systems.{Occurrence}
use Rattle.terms.specs.Known.{Alike}
use Rattle.rows.specs.Listed.{listed}
use Rattle.system.specs.declared.places.OccurrenceAt.{OccurrenceAt}
use Rattle.system.specs.Walks.{OccurrenceOf}
use Rattle.passes.specs.Learned.{occurrence_brings}
use Rattle.passes.proofs.Along.{item}
use Rattle.passes.proofs.Learning.{bringing_first, bringing_next, bringing_end, brings_same, one_each, arguments_known}
use Rattle.passes.proofs.constants.follow_occurrences.Goals as goal

pub learn-requires : goal.learn-requires
learn-requires g c = c.occurrence-item.result.present

pub loop-occurrence-init : goal.loop-occurrence-init
loop-occurrence-init g c = (
  omega arith,
  λ ks os p v t.
      let a = g.G.Algebra.meaning c.args.accepted.now.alg.now in
      let R = λ (x : OccurrenceAt) (o : Occurrence). (u : ℕ) × OccurrenceOf a c.args.accepted.now.file.now o u x in
      bringing_first R (λ o. occurrence_brings a ks o ∷ []) c.args.occurrences.now os c.args.knowledge.now t,
)

pub loop-occurrence-preserved : goal.loop-occurrence-preserved
loop-occurrence-preserved g c = (
  omega (arith, c.learn.ensures.less, c.loop-occurrence.invariant.0),
  λ ks os p v t.
      let a = g.G.Algebra.meaning c.args.accepted.now.alg.now in
      let f = c.args.accepted.now.file.now in
      let R = λ (x : OccurrenceAt) (o : Occurrence). (u : ℕ) × OccurrenceOf a f o u x in
      let xs = c.args.occurrences.now in
      let x = c.occurrence-item.result in
      let e = item xs c.loop-occurrence.occurrence-index x (omega arith) c.occurrence-item.is in
      let vs = c.argument_values-values.result in
      bringing_next R (λ o. occurrence_brings a ks o ∷ []) x c.learn.new.knowledge e (c.loop-occurrence.invariant.1 ks os p v t)
      (λ o h.
      let known = subst (Alike vs) (arguments_known a f ks (listed x.arguments) o.arguments h.1.count h.1.arguments) (c.argument_values-values.ensures ks [] p v) in
      brings_same (ap (λ (j : ℕ). (j, (occurrence_brings a ks o).1) ∷ []) h.1.target) (c.learn.ensures.brings (occurrence_brings a ks o).1 known)),
)

pub returns-clause-less : goal.returns-clause-less
returns-clause-less g c = c.loop-occurrence.invariant.0

pub returns-clause-brings : goal.returns-clause-brings
returns-clause-brings g c = λ ks os p v t.
    let a = g.G.Algebra.meaning c.args.accepted.now.alg.now in
    let R = λ (x : OccurrenceAt) (o : Occurrence). (u : ℕ) × OccurrenceOf a c.args.accepted.now.file.now o u x in
    let xs = c.args.occurrences.now in
    let i = c.loop-occurrence.occurrence-index in
    let none : length (drop i xs) ≡ 0 = ap length (drop_of_length-le xs {i = i} (omega arith)) in
    brings_same (one_each (occurrence_brings a ks) os) (bringing_end R (λ o. occurrence_brings a ks o ∷ []) c.loop-occurrence.knowledge none (c.loop-occurrence.invariant.1 ks os p v t))
