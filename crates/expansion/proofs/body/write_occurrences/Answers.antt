use Rattle.std.proofs.Common.{◌≡◌, ℕ, ◌+◌, ◌≤◌, true, List, drop, length, refl, ap, arith, drop_of_length-le}
use Rattle.definitions.specs.Systems.{Occurrence}
use Rattle.definitions.specs.Truth.{meant}
use Rattle.definitions.specs.Boolean.{var}
use Rattle.system.specs.Whole.{kept_headers}
use Rattle.expansion.specs.Bodies.{OccurrenceThere}
use Rattle.theorems.proofs.Coming.{keep_all}
use Rattle.expansion.proofs.Drafting.{forms_same}
use Rattle.expansion.proofs.Walking.{item, parts_first, parts_next, parts_stop, parts_end, occurrence_fine}
use Rattle.expansion.proofs.body.write_occurrences.Goals as goal

pub loop-occurrence-init : goal.loop-occurrence-init
loop-occurrence-init g c = λ s k os ps vs e b p.
    let a = g.G.Algebra.meaning c.args.accepted.now.alg.now in
    let R = OccurrenceThere a (kept_headers c.args.accepted.now.outline.now) k c.args.accepted.now.file.now in
    parts_first R (λ (_ : Occurrence). true) (λ o. var (meant a ps vs o)) s c.args.occurrences.now os c.args.draft.now p

pub returns-in_err-put_variable : goal.returns-in_err-put_variable
returns-in_err-put_variable g c = λ s k os ps vs e b p.
    let a = g.G.Algebra.meaning c.args.accepted.now.alg.now in
    let hs = kept_headers c.args.accepted.now.outline.now in
    let R = OccurrenceThere a hs k c.args.accepted.now.file.now in
    let f = λ (o : Occurrence). var (meant a ps vs o) in
    let x = c.occurrence-item.result in
    let i = item c.args.occurrences.now c.loop-occurrence.occurrence-index x (omega arith) c.occurrence-item.is in
    forms_same s (ap (Rattle.std.proofs.Common.map f) (keep_all os)) c.args.draft.now c.put_variable.new.self c.from_residual.result
    (parts_stop R (λ (_ : Occurrence). true) f s x c.args.draft.now c.loop-occurrence.draft c.put_variable.new.self c.put_variable.new.self c.in_err-put_variable.field-0.0 c.from_residual.result c.from_residual.ensures.0 i
    (c.loop-occurrence.invariant s k os ps vs e b p)
    (λ o h. (refl, c.in_err-put_variable.ensures s (meant a ps vs o) (occurrence_fine a s hs k ps vs o e h.fits) (c.meant.ensures o h.end ps vs b h.found))))

pub loop-occurrence-preserved : goal.loop-occurrence-preserved
loop-occurrence-preserved g c = λ s k os ps vs e b p.
    let a = g.G.Algebra.meaning c.args.accepted.now.alg.now in
    let hs = kept_headers c.args.accepted.now.outline.now in
    let R = OccurrenceThere a hs k c.args.accepted.now.file.now in
    let f = λ (o : Occurrence). var (meant a ps vs o) in
    let x = c.occurrence-item.result in
    let i = item c.args.occurrences.now c.loop-occurrence.occurrence-index x (omega arith) c.occurrence-item.is in
    parts_next R (λ (_ : Occurrence). true) f s x c.args.draft.now c.loop-occurrence.draft c.put_variable.new.self i
    (c.loop-occurrence.invariant s k os ps vs e b p)
    (λ o h. (refl, c.in_ok-put_variable.ensures s (meant a ps vs o) (occurrence_fine a s hs k ps vs o e h.fits) (c.meant.ensures o h.end ps vs b h.found)))

pub returns : goal.returns
returns g c = λ s k os ps vs e b p.
    let a = g.G.Algebra.meaning c.args.accepted.now.alg.now in
    let R = OccurrenceThere a (kept_headers c.args.accepted.now.outline.now) k c.args.accepted.now.file.now in
    let f = λ (o : Occurrence). var (meant a ps vs o) in
    let xs = c.args.occurrences.now in
    let i = c.loop-occurrence.occurrence-index in
    let none : length (drop i xs) ≡ 0 = ap length (drop_of_length-le xs {i = i} (omega arith)) in
    forms_same s (ap (Rattle.std.proofs.Common.map f) (keep_all os)) c.args.draft.now c.loop-occurrence.draft Rattle.expansion.proofs.Drafting.well
    (parts_end R (λ (_ : Occurrence). true) f s c.args.draft.now c.loop-occurrence.draft (tt {0}) none (c.loop-occurrence.invariant s k os ps vs e b p))
