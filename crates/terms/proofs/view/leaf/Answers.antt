use Rattle.std.proofs.Common.{ℕ, ◌+◌, ◌*◌, ◌<◌, length, Some, Option, sym, ap, arith}
use Rattle.definitions.specs.Lists.{bind}
use Rattle.terms.proofs.Fields.{field_within, field_outside, field_long}
use Rattle.terms.proofs.view.leaf.Goals.{then-reader-total-via-then-reader-total, then-reader-total-via-else-reader-total+then-width-total}
use Rattle.terms.proofs.view.leaf.Goals as goal

pub returns-then-reader-gt65536 : goal.returns-then-reader-gt65536
returns-then-reader-gt65536 c =
    let r = c.args.reader.now in
    ap (λ (o : Option (ℕ × ℕ)). bind {B = ℕ × ℕ} o (λ n. Some (0, n.1))) (sym (field_long c.args.width r.bytes.now r.at c.if-reader-gt65536.true))

pub returns-then-reader-total : goal.returns-then-reader-total
returns-then-reader-total c =
    let r = c.args.reader.now in
    let out : 8 * length r.bytes.now < r.at + c.args.width = elim c.then-reader-total.branch [ then-reader-total-via-then-reader-total w ↦ omega (arith, w.if-reader-total) | then-reader-total-via-else-reader-total+then-width-total w ↦ omega (arith, w.if-reader-total, w.if-width-total) ] in
    ap (λ (o : Option (ℕ × ℕ)). bind {B = ℕ × ℕ} o (λ n. Some (0, n.1))) (sym (field_outside c.args.width r.bytes.now r.at out))

pub returns : goal.returns
returns c =
    let r = c.args.reader.now in
    ap (λ (o : Option (ℕ × ℕ)). bind {B = ℕ × ℕ} o (λ n. Some (0, n.1))) (sym (field_within c.args.width r.bytes.now r.at (omega arith) (omega arith)))
