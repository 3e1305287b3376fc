use Rattle.std.proofs.Common.{◌≡◌, length, sym, ap, ◌∙◌, arith, rules}
use Rattle.definitions.specs.Lists.{bind}
use Rattle.terms.proofs.Wholes.{gathered_first, gathered_next, gathered_none, gathered_all}
use Rattle.terms.proofs.value.apply.Goals as goal

pub loop-arg-init : goal.loop-arg-init
loop-arg-init g c = rw c.new-values.ensures (gathered_first c.args.args)

pub returns-in_err-arg : goal.returns-in_err-arg
returns-in_err-arg g c =
    let n : length c.args.args ≡ g.row.N = search rules in
    let a = g.G.Algebra.meaning c.args.alg.now in
    c.from_residual.ensures ∙ ap (λ o. bind o (a.value c.args.op)) (sym (gathered_none (omega arith) c.loop-arg.invariant c.in_err-arg.was))

pub unwrap-requires : goal.unwrap-requires
unwrap-requires g c =
    let n = c.loop-arg.invariant.count in
    c.push.ensures.room.1 (omega arith)

pub loop-arg-preserved : goal.loop-arg-preserved
loop-arg-preserved g c =
    let n : length c.args.args ≡ g.row.N = search rules in
    let m = c.loop-arg.invariant.count in
    rw (c.push.ensures.added (omega arith)) (gathered_next (omega arith) c.loop-arg.invariant c.in_ok-arg.field-0 c.in_ok-arg.was)

pub returns : goal.returns
returns g c =
    let n : length c.args.args ≡ g.row.N = search rules in
    let a = g.G.Algebra.meaning c.args.alg.now in
    c.value.ensures ∙ ap (a.value c.args.op) c.as_slice.ensures ∙ ap (λ o. bind o (a.value c.args.op)) (sym (gathered_all (omega arith) c.loop-arg.invariant))
