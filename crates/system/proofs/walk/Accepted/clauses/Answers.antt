use Rattle.std.proofs.Common.{Option, sym, subst}
use Rattle.rows.specs.declared.row.Row.{Row}
use Rattle.system.specs.declared.places.ClauseAt.{ClauseAt}
use Rattle.system.specs.Whole.{kept_headers}
use Rattle.system.specs.Walks.{ClausesPlaces, ClausesFound}
use Rattle.system.proofs.walk.Accepted.clauses.Goals as goal

pub returns-in_err-read_clauses : goal.returns-in_err-read_clauses
returns-in_err-read_clauses g c =
    let a = g.G.Algebra.meaning c.args.self.now.alg.now in
    let f = c.args.self.now.file.now in
    let hs = kept_headers c.args.self.now.outline.now in
    let none = sym c.from_residual.ensures in
    record {
      places = subst (λ (r : Option (Row ClauseAt 15)). ClausesPlaces a hs f c.args.body.now r) none c.in_err-read_clauses.ensures.places;
      found = subst (λ (r : Option (Row ClauseAt 15)). ClausesFound a hs f c.args.body.now r) none c.in_err-read_clauses.ensures.found;
    }
