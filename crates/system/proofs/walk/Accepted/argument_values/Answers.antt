use Rattle.std.proofs.Common.{ℕ, ◌≤◌, List, Option, map, length, get_or, sym, refl, ◌∙◌, subst, arith, length-set}
use Rattle.definitions.specs.Lists.{bind}
use Rattle.definitions.specs.Systems.{fold}
use Rattle.definitions.specs.ReadSystem.{greatest_depth}
use Rattle.definitions.specs.Values.{kind_known}
use Rattle.terms.specs.Shapes.{standing}
use Rattle.terms.specs.Known.{Alike}
use Rattle.rows.specs.Listed.{listed_within}
use Rattle.system.proofs.Lists.{at_some}
use Rattle.system.proofs.Knowns.{known_first, known_next, known_all}
use Rattle.system.proofs.walk.Accepted.argument_values.Goals as goal

pub loop-i-init : goal.loop-i-init
loop-i-init g c =
    let a = g.G.Algebra.meaning c.args.self.now.alg.now in
    (refl, λ ps vs p v. known_first (λ q. bind (standing a greatest_depth c.args.self.now.file.now q) (λ t. fold t (kind_known a ps vs))) c.as_slice-at-items.result.now)

pub loop-i-preserved : goal.loop-i-preserved
loop-i-preserved g c =
    let a = g.G.Algebra.meaning c.args.self.now.alg.now in
    let l = c.loop-i in
    let xs = c.as_slice-at-items.result.now in
    let short : length xs ≤ 15 = subst (λ (ys : List ℕ). length ys ≤ 15) (sym c.as_slice-at-items.ensures) (listed_within c.args.occurrence.now.arguments) in (
      length-set l.values l.i c.known.result ∙ l.invariant.0,
      λ ps vs p v. known_next (λ q. bind (standing a greatest_depth c.args.self.now.file.now q) (λ t. fold t (kind_known a ps vs))) (get_or xs l.i 0) c.known.result (sym (at_some xs l.i (omega arith))) (omega arith) (c.known.ensures.value ps vs p v) (l.invariant.1 ps vs p v),
    )

pub returns : goal.returns
returns g c ps vs p v =
    let a = g.G.Algebra.meaning c.args.self.now.alg.now in
    let xs = c.as_slice-at-items.result.now in
    let f : ℕ → Option ℕ = λ q. bind (standing a greatest_depth c.args.self.now.file.now q) (λ t. fold t (kind_known a ps vs)) in
    subst (λ (ys : List ℕ). Alike c.loop-i.values (map f ys)) c.as_slice-at-items.ensures (known_all f {xs = xs} (omega arith) (c.loop-i.invariant.1 ps vs p v))
