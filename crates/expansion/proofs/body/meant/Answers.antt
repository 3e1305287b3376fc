use Rattle.std.proofs.Common.{ℕ, ◌≤◌, List, map, length, Some, Option, sym, refl, ap, ◌∙◌, subst, arith, length-set}
use Rattle.std.specs.Option.{unwrap_or}
use Rattle.rows.specs.Listed.{listed_within}
use Rattle.expansion.proofs.Meanings.{Filled, value_at, filled_first, filled_next, values_kept}
use Rattle.expansion.proofs.body.meant.Goals as goal

pub loop-i-init : goal.loop-i-init
loop-i-init g c =
    let a = g.G.Algebra.meaning c.args.accepted.now.alg.now in
    (refl, λ ps vs b. filled_first (value_at a c.args.accepted.now.file.now ps vs) c.as_slice-at-items.result.now)

pub loop-i-preserved : goal.loop-i-preserved
loop-i-preserved g c =
    let a = g.G.Algebra.meaning c.args.accepted.now.alg.now in
    let l = c.loop-i in
    let xs = c.as_slice-at-items.result.now in
    let short : length xs ≤ 15 = subst (λ (ys : List ℕ). length ys ≤ 15) (sym c.as_slice-at-items.ensures) (listed_within c.args.occurrence.now.arguments) in (
      length-set l.values l.i c.unwrap_or.result ∙ l.invariant.0,
      λ ps vs b.
          filled_next (value_at a c.args.accepted.now.file.now ps vs) c.unwrap_or.result (omega arith) (omega arith)
          (c.unwrap_or.ensures ∙ ap (λ (o : Option ℕ). unwrap_or o 0) (c.known.ensures.value (map Some ps) (map Some vs) b.parameters b.variables)) (l.invariant.1 ps vs b),
    )

pub returns : goal.returns
returns g c = λ o q ps vs b f.
    let a = g.G.Algebra.meaning c.args.accepted.now.alg.now in
    let l = c.loop-i in
    let v = value_at a c.args.accepted.now.file.now ps vs in
    let x = c.args.occurrence.now in
    let e = c.as_slice-at-items.ensures in
    let n = ap length e in
    record {
      equation = f.target;
      values = values_kept a c.args.accepted.now.file.now ps vs o q x l.i l.values f (omega arith) (subst (λ (xs : List ℕ). Filled v xs l.i l.values) e (l.invariant.1 ps vs b));
    }
