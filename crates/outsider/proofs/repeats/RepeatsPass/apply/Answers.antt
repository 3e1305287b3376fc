use Rattle.std.proofs.Common.{length, Ok, sym, subst, arith}
use Rattle.definitions.specs.Rules.{applied}
use Rattle.definitions.specs.Calls.{Applies}
use Rattle.system.specs.Whole.{Read}
use Rattle.outsider.specs.Repeats.{without_repeats}
use Rattle.outsider.proofs.Files.{bytes_each, applies}
use Rattle.outsider.proofs.repeats.RepeatsPass.apply.Goals as goal

pub returns : goal.returns
returns g c =
    let a = g.G.Algebra.meaning c.args.alg.now in
    let f = c.args.file.now in
    let o = c.in_ok-outline.outline in
    let w = c.write.result in
    let before = c.args.out.now in
    let after = c.write.new.out in
    let read : Read a f (Ok o) = subst (Read a f) c.in_ok-outline.was c.read.ensures in
    subst (λ v. Applies (applied without_repeats a (length before) f) before after v) (sym c.or.ensures)
    (applies without_repeats a f before after o w (g.met.G.Algebra.lawful c.args.alg.now) (bytes_each f (λ i. (let b = (c.type_inv.file i).fits in omega arith))) read (λ s short out fit. c.write.ensures s short out fit))
