use Rattle.std.proofs.Common.{Some, None, Option, sym, refl, subst}
use Rattle.system.specs.Walks.{BodyFound}
use Rattle.system.specs.declared.places.BodyAt.{BodyAt}
use Rattle.system.proofs.Found.{body_found}
use Rattle.system.proofs.walk.open_body.Goals as goal

pub returns-in_err-count-clause-found : goal.returns-in_err-count-clause-found
returns-in_err-count-clause-found g c =
    let a = g.G.Algebra.meaning c.args.alg.now in
    let f = c.args.bytes.now in
    subst (λ (r : Option BodyAt). BodyFound a f c.args.at r) (sym c.from_residual.ensures) (body_found a f c.args.at None (sym c.in_err-count.ensures.reads))

pub returns-clause-found : goal.returns-clause-found
returns-clause-found g c = body_found (g.G.Algebra.meaning c.args.alg.now) c.args.bytes.now c.args.at (Some _) (refl, sym c.in_ok-count.ensures.reads)
