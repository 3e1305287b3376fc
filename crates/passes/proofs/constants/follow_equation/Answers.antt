use Rattle.std.proofs.Common.{[], refl, sym, ◌∙◌}
use Rattle.definitions.specs.ReadSystem.{scope}
use Rattle.system.specs.Whole.{kept_headers}
use Rattle.system.specs.Walks.{BodyOf}
use Rattle.passes.proofs.TermBits.{none_alike}
use Rattle.passes.proofs.Learning.{brings_none, brings_same, follows_same, there, not_missing, equation_none, equation_all, known_there}
use Rattle.passes.proofs.constants.follow_equation.Goals as goal

pub returns-in_err-body-clause-brings : goal.returns-in_err-body-clause-brings
returns-in_err-body-clause-brings g c = λ ks h e q short p read.
    let a = g.G.Algebra.meaning c.args.accepted.now.alg.now in
    let file = c.args.accepted.now.file.now in
    let hs = kept_headers c.args.accepted.now.outline.now in
    absurd (not_missing (BodyOf a hs h file e q) c.open_body.result c.in_err-body.ensures.ok_part (c.open_body.ensures.found hs h e q short read))

pub returns-then-eq-clause-brings : goal.returns-then-eq-clause-brings
returns-then-eq-clause-brings g c = λ ks h e q short p read.
    let a = g.G.Algebra.meaning c.args.accepted.now.alg.now in
    let file = c.args.accepted.now.file.now in
    let hs = kept_headers c.args.accepted.now.outline.now in
    let body = there (BodyOf a hs h file e q) c.open_body.result c.in_ok-body.body c.in_ok-body.ensures.ok_part (c.open_body.ensures.found hs h e q short read) in
    let off = known_there a file ks c.in_ok-body.body.h e.h c.known.result c.eq.result body.h_stands (c.known.ensures.value ks [] p (none_alike 3 refl)) c.eq.ensures ∙ c.if-eq.true in
    brings_same (sym (equation_none a ks e off)) (brings_none c.args.knowledge.now)

pub returns-clause-brings : goal.returns-clause-brings
returns-clause-brings g c = λ ks h e q short p read.
    let a = g.G.Algebra.meaning c.args.accepted.now.alg.now in
    let file = c.args.accepted.now.file.now in
    let hs = kept_headers c.args.accepted.now.outline.now in
    let body = there (BodyOf a hs h file e q) c.open_body.result c.in_ok-body.body c.in_ok-body.ensures.ok_part (c.open_body.ensures.found hs h e q short read) in
    let on = known_there a file ks c.in_ok-body.body.h e.h c.known.result c.eq.result body.h_stands (c.known.ensures.value ks [] p (none_alike 3 refl)) c.eq.ensures ∙ c.if-eq.false in
    follows_same c.args.knowledge.now c.follow_clauses.new.knowledge c.follow_clauses.result (sym (equation_all a ks e on)) (c.follow_clauses.ensures.brings ks (scope h) e.clauses q short p (none_alike 3 refl) body.clauses)
