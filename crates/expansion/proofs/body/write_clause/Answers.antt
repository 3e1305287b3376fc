use Rattle.std.proofs.Common.{◌++◌, ◌-◌, List, map, sym, ◌∙◌, subst, arith}
use lib.ListN.{length-map}
use Rattle.definitions.specs.Bits.{bits}
use Rattle.definitions.specs.Systems.{exists, Occurrence}
use Rattle.definitions.specs.Truth.{meant}
use Rattle.definitions.specs.Boolean.{var}
use Rattle.theorems.proofs.Coming.{all_bits_by, vars_of}
use Rattle.rows.specs.Listed.{listed}
use Rattle.system.specs.declared.places.OccurrenceAt.{OccurrenceAt}
use Rattle.system.specs.Whole.{kept_headers}
use Rattle.system.specs.Walks.{Pairs}
use Rattle.expansion.specs.Bodies.{OccurrenceThere}
use Rattle.expansion.proofs.Drafting.{puts_then, over_drafts}
use Rattle.expansion.proofs.Inside.{not_some, occurrences_there}
use Rattle.expansion.proofs.body.write_clause.Goals as goal

pub returns-in_err-ok_or : goal.returns-in_err-ok_or
returns-in_err-ok_or g c = λ s k cl ps vs short hs b h.
    not_some c.read_occurrences.result h.end c.in_err-ok_or.ensures.variant (c.read_occurrences.ensures.found k cl.occurrences h.end short h.found.occurrences).0

pub returns : goal.returns
returns g c = λ s k cl ps vs short e b h.
    let f = c.args.accepted.now.file.now in
    let a = g.G.Algebra.meaning c.args.accepted.now.alg.now in
    let hs = kept_headers c.args.accepted.now.outline.now in
    let os = cl.occurrences in
    let n = c.args.clause.now.count in
    let few = c.args.clause.now.few in
    let forms = map (λ (o : Occurrence). var (meant a ps vs o)) os in
    let there = (c.read_occurrences.ensures.found k os h.end short h.found.occurrences).1 in
    let pairs = subst (λ (xs : List OccurrenceAt). Pairs (OccurrenceThere a hs k f) xs os) (sym c.as_slice.ensures) (occurrences_there a hs k f (listed c.read_occurrences.new.occurrences) os there h.fits.fit) in
    over_drafts s exists forms n c.args.draft.now c.write_occurrences.new.draft c.write_occurrences.result (h.found.count ∙ sym (length-map os (λ (o : Occurrence). var (meant a ps vs o))))
    (puts_then s (bits 3 3 ++ bits 8 (n - 1)) (vars_of forms) (all_bits_by forms) c.args.draft.now c.put_parts.new.self c.write_occurrences.new.draft c.write_occurrences.result (c.put_parts.ensures (omega arith))
    (c.write_occurrences.ensures s k os ps vs e b pairs))
