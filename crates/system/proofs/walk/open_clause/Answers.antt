use Rattle.std.proofs.Common.{Some, None, Option, sym, refl, subst, add-one}
use Rattle.system.specs.Walks.{ClauseFound}
use Rattle.system.specs.declared.places.ClauseAt.{ClauseAt}
use Rattle.system.proofs.Found.{clause_found}
use Rattle.system.proofs.walk.open_clause.Goals as goal

pub returns-in_err-count-clause-found : goal.returns-in_err-count-clause-found
returns-in_err-count-clause-found g c =
    let a = g.G.Algebra.meaning c.args.alg.now in
    let f = c.args.bytes.now in
    subst (λ (r : Option ClauseAt). ClauseFound a f c.args.at r) (sym c.from_residual.ensures) (clause_found a f c.args.at None (sym c.in_err-count.ensures.reads))

pub returns-clause-found : goal.returns-clause-found
returns-clause-found g c = clause_found (g.G.Algebra.meaning c.args.alg.now) c.args.bytes.now c.args.at (Some _) (refl, (c.in_ok-count.count, (add-one c.in_ok-count.count, sym c.in_ok-count.ensures.reads)))
