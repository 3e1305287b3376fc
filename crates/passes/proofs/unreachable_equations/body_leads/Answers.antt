use Rattle.definitions.specs.ReadSystem.{scope}
use Rattle.system.specs.Whole.{kept_headers}
use Rattle.system.specs.Walks.{BodyOf}
use Rattle.passes.proofs.Learning.{there, not_missing}
use Rattle.passes.proofs.unreachable_equations.body_leads.Goals as goal

pub returns-in_err-body : goal.returns-in_err-body
returns-in_err-body g c = λ h e q short read p room pass.
    let a = g.G.Algebra.meaning c.args.accepted.now.alg.now in
    let f = c.args.accepted.now.file.now in
    let hs = kept_headers c.args.accepted.now.outline.now in
    absurd (not_missing (BodyOf a hs h f e q) c.open_body.result c.in_err-body.ensures.ok_part (c.open_body.ensures.found hs h e q short read))

pub returns : goal.returns
returns g c = λ h e q short read p room pass.
    let a = g.G.Algebra.meaning c.args.accepted.now.alg.now in
    let f = c.args.accepted.now.file.now in
    let hs = kept_headers c.args.accepted.now.outline.now in
    let here = there (BodyOf a hs h f e q) c.open_body.result c.in_ok-body.body c.in_ok-body.ensures.ok_part (c.open_body.ensures.found hs h e q short read) in
    c.called_come.ensures (scope h) e.clauses q short here.clauses p room pass
