use Rattle.theorems.proofs.terms_read_fit.Goals as goal
use Rattle.std.proofs.Common.{arith}
use Rattle.theorems.proofs.Forth.{sound}

pub returns : goal.returns
returns _ a law c f d need' p x q e =
    let g = sound a c f (λ o n h j _ l. let w = law.arg o n h j (omega arith) in (w.0, w.1)) d need' p x q e in
    record { fits = g.fits; needs = g.needs; stands = g.stands; behind = g.behind }
