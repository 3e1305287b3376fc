use Rattle.std.proofs.Common.{◌≡◌, ℕ, ◌-◌, List, ◌++◌, map, length, sym, ap, ◌∙◌, subst, arith}
use Rattle.std.proofs.lemmas.List.{length-map}
use Rattle.definitions.specs.Lists.{flat}
use Rattle.definitions.specs.Bits.{bits}
use Rattle.definitions.specs.Systems.{Occurrence}
use Rattle.definitions.specs.ReadSystem.{Scope}
use Rattle.definitions.specs.Written.{term_bits, occurrence_bits, clause_bits}
use Rattle.definitions.specs.Fits.{OccurrenceFits}
use Rattle.theorems.proofs.Listing.{none_some}
use Rattle.bits.specs.Writes.{Wrote, NoRoom}
use Rattle.bits.proofs.Left.{left_first, left_next}
use Rattle.rows.specs.Listed.{listed}
use Rattle.system.specs.declared.places.OccurrenceAt.{OccurrenceAt}
use Rattle.system.specs.Whole.{kept_headers}
use Rattle.system.specs.Walks.{OccurrenceOf, Pairs}
use Rattle.passes.specs.Planned.{term_by, occurrence_by, clause_by}
use Rattle.passes.specs.Rewrites.{OccurrenceThere}
use Rattle.passes.proofs.TermBits.{left_last}
use Rattle.passes.proofs.Masks.{left_none}
use Rattle.passes.proofs.Places.{pairs_with}
use Rattle.passes.proofs.written.Edit.write_clause.Goals as goal

pub returns-in_err-put : goal.returns-in_err-put
returns-in_err-put g c = λ k vs q short n s f.
    let a = g.G.Algebra.meaning c.args.self.now.accepted.now.alg.now in
    let P = c.args.self.now.plan.now in
    let T = term_by a P c.args.self.now.sorts.now c.args.self.now.change.now in
    let F = occurrence_by P T in
    let file = c.args.self.now.accepted.now.file.now in
    let hs = kept_headers c.args.self.now.accepted.now.outline.now in
    let w = c.args.writer.now in
    let os = k.occurrences in
    let m = length (map F os) - 1 in
    let rest = flat (map occurrence_bits (map F os)) in
    let l1 = left_next {rest = bits 3 m ++ rest} (term_bits (T k.guard)) c.write_term.new.writer (left_first (clause_bits (clause_by P T k)) w) (c.in_ok-write_term.ensures k.guard vs 0 n s.guard f.guard) in
    let count : c.args.clause.now.count - 1 ≡ m = ap (λ j. j - 1) (f.count ∙ sym (length-map os F)) in
    let few = c.args.clause.now.few in
    let sc : Scope = record { parameters = c.args.self.now.sorts.now; variables = vs } in
    let r = c.from_residual-in_err-put in
    left_none (bits 3 m) rest c.put.new.self r.result r.ensures.0 l1 (subst (λ (j : ℕ). NoRoom (bits 3 j) c.write_term.new.writer) count (c.in_err-put.ensures.writes (omega arith) (omega arith)))

pub returns-in_err-ok_or : goal.returns-in_err-ok_or
returns-in_err-ok_or g c = λ k vs q short n s f.
    let sc : Scope = record { parameters = c.args.self.now.sorts.now; variables = vs } in
    none_some q (sym c.in_err-ok_or.ensures.ok_part ∙ (c.read_occurrences.ensures.found sc k.occurrences q short f.occurrences).0)

pub returns : goal.returns
returns g c = λ k vs q short n s f.
    let a = g.G.Algebra.meaning c.args.self.now.accepted.now.alg.now in
    let P = c.args.self.now.plan.now in
    let T = term_by a P c.args.self.now.sorts.now c.args.self.now.change.now in
    let F = occurrence_by P T in
    let file = c.args.self.now.accepted.now.file.now in
    let hs = kept_headers c.args.self.now.accepted.now.outline.now in
    let w = c.args.writer.now in
    let os = k.occurrences in
    let m = length (map F os) - 1 in
    let rest = flat (map occurrence_bits (map F os)) in
    let l1 = left_next {rest = bits 3 m ++ rest} (term_bits (T k.guard)) c.write_term.new.writer (left_first (clause_bits (clause_by P T k)) w) (c.in_ok-write_term.ensures k.guard vs 0 n s.guard f.guard) in
    let count : c.args.clause.now.count - 1 ≡ m = ap (λ j. j - 1) (f.count ∙ sym (length-map os F)) in
    let few = c.args.clause.now.few in
    let sc : Scope = record { parameters = c.args.self.now.sorts.now; variables = vs } in
    let l2 = left_next {rest = rest} (bits 3 m) c.put.new.self l1 (subst (λ (j : ℕ). Wrote (bits 3 j) c.write_term.new.writer c.put.new.self) count (c.in_ok-put.ensures.writes (omega arith) (omega arith))) in
    let here = (c.read_occurrences.ensures.found sc os q short f.occurrences).1 in
    let there = pairs_with (λ (x : OccurrenceAt) (o : Occurrence). (u : ℕ) × OccurrenceOf a file o u x) (OccurrenceFits a hs sc) (OccurrenceThere a hs sc file) (λ x o p h. record { end = p.0; found = p.1; fits = h }) (listed c.read_occurrences.new.occurrences) os here s.fit in
    let x = c.write_occurrences in
    left_last rest x.new.writer x.result l2 (x.ensures os vs n (subst (λ (xs : List OccurrenceAt). Pairs (OccurrenceThere a hs sc file) xs os) (sym c.as_slice.ensures) there))
