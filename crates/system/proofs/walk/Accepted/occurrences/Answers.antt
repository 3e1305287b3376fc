use Rattle.std.proofs.Common.{map, Some, None, ap, ◌∙◌}
use Rattle.std.specs.Option.{option_map}
use Rattle.rows.specs.Listed.{listed}
use Rattle.system.specs.Whole.{kept_headers}
use Rattle.system.specs.Walks.{occurrence_told}
use Rattle.system.proofs.Found.{occurrences_told, occurrences_found}
use Rattle.system.proofs.walk.Accepted.occurrences.Goals as goal

pub returns-in_err-read_occurrences : goal.returns-in_err-read_occurrences
returns-in_err-read_occurrences g c =
    let a = g.G.Algebra.meaning c.args.self.now.alg.now in
    let f = c.args.self.now.file.now in
    let hs = kept_headers c.args.self.now.outline.now in
    let k = c.args.clause.now in
    let p = ap (option_map (λ os. map occurrence_told (listed os))) c.from_residual.ensures ∙ occurrences_told a hs f k None c.in_err-read_occurrences.ensures.places in
    record { places = p; found = occurrences_found a hs f k c.from_residual.result p }

pub returns : goal.returns
returns g c =
    let a = g.G.Algebra.meaning c.args.self.now.alg.now in
    let f = c.args.self.now.file.now in
    let hs = kept_headers c.args.self.now.outline.now in
    let k = c.args.clause.now in
    let p = occurrences_told a hs f k (Some (c.read_occurrences.new.occurrences, c.in_ok-read_occurrences.field-0)) c.in_ok-read_occurrences.ensures.places in
    record { places = p; found = occurrences_found a hs f k (Some c.read_occurrences.new.occurrences) p }
