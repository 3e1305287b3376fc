use Rattle.std.proofs.Common.{Some, None, Option, sym, subst}
use Rattle.rows.specs.Listed.{listed}
use Rattle.system.specs.declared.places.OccurrenceAt.{OccurrenceAt}
use Rattle.system.specs.Whole.{kept_headers}
use Rattle.system.specs.Walks.{OccurrencePlaces, OccurrenceFound}
use Rattle.system.proofs.Found.{occurrence_none, occurrence_with, occurrence_found}
use Rattle.system.proofs.walk.Accepted.open_occurrence.Goals as goal

pub returns-in_err-target : goal.returns-in_err-target
returns-in_err-target g c =
    let a = g.G.Algebra.meaning c.args.self.now.alg.now in
    let f = c.args.self.now.file.now in
    let hs = kept_headers c.args.self.now.outline.now in
    let t = c.args.at in
    let p = occurrence_none a f hs t c.in_err-target.ensures.reads in
    record {
      places = subst (λ (r : Option OccurrenceAt). OccurrencePlaces a hs f t r) (sym c.from_residual.ensures) p;
      found = subst (λ (r : Option OccurrenceAt). OccurrenceFound a hs f t r) (sym c.from_residual.ensures) (occurrence_found a f t hs None p);
    }

pub returns-in_err-end : goal.returns-in_err-end
returns-in_err-end g c =
    let a = g.G.Algebra.meaning c.args.self.now.alg.now in
    let f = c.args.self.now.file.now in
    let hs = kept_headers c.args.self.now.outline.now in
    let t = c.args.at in
    let o = c.in_ok-target in
    let p = occurrence_with a f hs t o.target o.count o.first o.ensures.reads None c.in_err-end.ensures in
    record {
      places = subst (λ (r : Option OccurrenceAt). OccurrencePlaces a hs f t r) (sym c.from_residual-in_err-end.ensures) p;
      found = subst (λ (r : Option OccurrenceAt). OccurrenceFound a hs f t r) (sym c.from_residual-in_err-end.ensures) (occurrence_found a f t hs None p);
    }

pub returns : goal.returns
returns g c =
    let a = g.G.Algebra.meaning c.args.self.now.alg.now in
    let f = c.args.self.now.file.now in
    let hs = kept_headers c.args.self.now.outline.now in
    let t = c.args.at in
    let o = c.in_ok-target in
    let r = c.in_ok-end in
    let p = occurrence_with a f hs t o.target o.count o.first o.ensures.reads (Some (listed c.read_arguments.new.places, r.end)) r.ensures in
    record { places = p; found = occurrence_found a f t hs (Some _) p }
