use Rattle.std.proofs.Common.{ℕ, List, map, get_or, Some, sym, refl, subst, arith}
use Rattle.terms.specs.Known.{Alike}
use Rattle.system.proofs.Lists.{at_some}
use Rattle.system.proofs.Knowns.{known_first, known_next, known_all}
use Rattle.system.proofs.instance.Instance.known.Goals as goal

pub loop-i-init : goal.loop-i-init
loop-i-init c = known_first Some c.first-value-items.result.now

pub loop-i-preserved : goal.loop-i-preserved
loop-i-preserved c =
    let xs = c.first-value-items.result.now in
    let i = c.loop-i.i in
    known_next Some (get_or xs i 0) (Some (get_or xs i 0)) (sym (at_some xs i (omega arith))) (omega (arith, c.first-value-items.ensures.few)) refl c.loop-i.invariant

pub returns : goal.returns
returns c = subst (λ (ys : List ℕ). Alike c.loop-i.known (map Some ys)) c.first-value-items.ensures.front (known_all Some {xs = c.first-value-items.result.now} (omega arith) c.loop-i.invariant)
