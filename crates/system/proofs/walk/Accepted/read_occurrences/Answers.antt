use Rattle.std.proofs.Common.{ℕ, ◌+◌, ◌∷◌, [], map, length, List, Some, Option, sym, refl, ap, ◌∙◌, arith, length-append}
use Rattle.std.proofs.lemmas.List.{map-append}
use Rattle.definitions.specs.Lists.{bind}
use Rattle.rows.specs.Listed.{listed}
use Rattle.system.specs.Whole.{kept_headers}
use Rattle.system.specs.Walks.{occurrence_next, occurrence_told, filled, occurrences_of}
use Rattle.system.proofs.Found.{row_begin, row_next, row_none, row_end, row_filled}
use Rattle.system.proofs.walk.Accepted.read_occurrences.Goals as goal

abbrev with_end : Option (ℕ × (List ℕ × ℕ)) → Option ((ℕ × (List ℕ × ℕ)) × ℕ)
with_end o = bind o (λ x. Some (x, x.1.1))

pub loop-init : goal.loop-init
loop-init g c =
    let s = occurrence_next (g.G.Algebra.meaning c.args.self.now.alg.now) (kept_headers c.args.self.now.outline.now) c.args.self.now.file.now in
    rw c.clear.ensures (refl, row_begin s c.args.clause.now.count c.args.clause.now.next)

pub unwrap-requires : goal.unwrap-requires
unwrap-requires g c = c.push.ensures.room.1 (omega (arith, c.loop.invariant.0))

pub returns-in_err-occurrence : goal.returns-in_err-occurrence
returns-in_err-occurrence g c =
    let a = g.G.Algebra.meaning c.args.self.now.alg.now in
    let f = c.args.self.now.file.now in
    let hs = kept_headers c.args.self.now.outline.now in
    let k = c.args.clause.now in
    let l = c.loop in
    let xs = l.occurrences in
    let p = ap (λ r. occurrences_of (filled xs r)) c.from_residual.ensures ∙
    sym (l.invariant.1 ∙ row_none (occurrence_next a hs f) (map occurrence_told (listed xs)) k.count l.counter l.next (omega arith) (ap with_end c.in_err-occurrence.ensures.places)) in
    record { places = p; found = row_filled a hs f k xs c.from_residual.result p }

pub loop-preserved : goal.loop-preserved
loop-preserved g c =
    let s = occurrence_next (g.G.Algebra.meaning c.args.self.now.alg.now) (kept_headers c.args.self.now.outline.now) c.args.self.now.file.now in
    let l = c.loop in
    let xs = listed l.occurrences in
    let x = c.in_ok-occurrence.occurrence in
    let added = c.push.ensures.added (omega (arith, l.invariant.0)) in (
      ap length added ∙ length-append xs (x ∷ []) ∙ ap (λ k. k + 1) l.invariant.0,
      l.invariant.1 ∙ row_next s (map occurrence_told xs) (map occurrence_told (listed c.push.new.self)) c.args.clause.now.count l.counter l.next (occurrence_told x) x.next (omega arith) (ap with_end c.in_ok-occurrence.ensures.places) (ap (map occurrence_told) added ∙ map-append occurrence_told xs (x ∷ [])),
    )

pub returns : goal.returns
returns g c =
    let a = g.G.Algebra.meaning c.args.self.now.alg.now in
    let f = c.args.self.now.file.now in
    let hs = kept_headers c.args.self.now.outline.now in
    let k = c.args.clause.now in
    let l = c.loop in
    let xs = l.occurrences in
    let p = sym (l.invariant.1 ∙ row_end (occurrence_next a hs f) (map occurrence_told (listed xs)) k.count l.counter l.next (omega arith)) in
    record { places = p; found = row_filled a hs f k xs (Some l.next) p }
