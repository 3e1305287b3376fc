use Rattle.std.proofs.Common.{length, Err, refl, subst, ap, ◌∙◌, arith}
use Rattle.std.proofs.lemmas.Result.{err_from_is_err_and}
use Rattle.system.specs.Whole.{Read}
use Rattle.expansion.proofs.Made.{unread, was_read, bytes_each}
use Rattle.expansion.proofs.expand.Goals as goal

pub returns-in_err-outline : goal.returns-in_err-outline
returns-in_err-outline g c =
    let a = g.G.Algebra.meaning c.args.alg.now in
    let b = c.args.out.now in
    let t = err_from_is_err_and c.from_residual.result c.from_residual.ensures.1 in
    rw (t.1 ∙ ap Err t.2) (unread a c.args.file.now b b (length c.args.work.now) (length b) c.in_err-outline.field-0.0 (subst (Read a c.args.file.now) c.in_err-outline.was c.read.ensures) refl)

pub returns : goal.returns
returns g c =
    let a = g.G.Algebra.meaning c.args.alg.now in
    let f = c.args.file.now in
    let before = c.args.out.now in
    let after = c.write_file.new.out in
    let work = length c.args.work.now in
    let r = c.write_file.result in
    was_read a f before after work c.in_ok-outline.outline r (g.met.G.Algebra.lawful c.args.alg.now) (bytes_each f (λ i. (let b = (c.type_inv.file i).fits in omega arith)))
    (subst (Read a f) c.in_ok-outline.was c.read.ensures) c.write_file.ensures
