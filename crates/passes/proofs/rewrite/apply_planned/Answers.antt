use Rattle.std.proofs.Common.{length, Ok, sym, subst, arith}
use Rattle.definitions.specs.Written.{written}
use Rattle.definitions.specs.Rules.{applied}
use Rattle.definitions.specs.Calls.{Applies}
use Rattle.system.specs.Whole.{Read}
use Rattle.passes.specs.declared.plan.Plan.{Plan}
use Rattle.passes.specs.Planned.{system_by, Fitted}
use Rattle.passes.proofs.Applying.{bytes_each, planned_applies}
use Rattle.passes.proofs.rewrite.apply_planned.Goals as goal

pub returns : goal.returns
returns g c = λ m h.
    let a = g.G.Algebra.meaning c.args.alg.now in
    let f = c.args.file.now in
    let o = c.in_ok-outline.outline in
    let w = c.write_planned.result in
    let before = c.args.out.now in
    let after = c.write_planned.new.out in
    let read : Read a f (Ok o) = subst (Read a f) c.in_ok-outline.was c.read.ensures in
    subst (λ v. Applies (applied m a (length before) f) before after v) (sym c.or.ensures)
    (planned_applies m a f before after o c.planned.result c.none.result w (g.met.G.Algebra.lawful c.args.alg.now) (bytes_each f (λ i. (let b = (c.type_inv.file i).fits in omega arith))) read (h _ _ c.planned.ensures)
    (λ s short out fit. subst (λ (P : Plan). Fitted (written (system_by a P s)) before after w) c.unwrap_or-plan.ensures (c.write_planned.ensures s short out fit)))
