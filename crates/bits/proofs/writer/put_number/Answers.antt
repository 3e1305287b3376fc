use Rattle.std.proofs.Common.{◌≡◌, ℕ, ◌+◌, ◌-◌, ◌*◌, ◌/◌, ◌%◌, ◌^◌, ap, ap₂, ◌∙◌, arith, min}
use Rattle.definitions.specs.Bits.{bits}
use Rattle.bits.specs.Put.{overwritten}
use Rattle.bits.proofs.Fields.{weight}
use Rattle.bits.proofs.Puts.{put_more}
use Rattle.bits.proofs.writer.put_number.Goals as goal

pub loop-i-preserved : goal.loop-i-preserved
loop-i-preserved c =
    let f = c.args.bytes.now in
    let g = c.loop-i.bytes in
    let p = c.args.at in
    let v = c.args.value in
    let w = c.args.width in
    let i = c.loop-i.i in
    let d = min w (8 * i - p) in
    let from = c.max-from.result in
    let to = c.min-to.result in
    let k = to - from in
    let from_is : from ≡ p + d = omega arith in
    let rest_is : p + w - to ≡ w - d - k = omega arith in
    let done_is : d + k ≡ min w (8 * (i + 1) - p) = omega arith in
    c.put_part.ensures ∙
    ap (λ (m : ℕ). overwritten g from (bits k (v / 2 ^ (p + w - to) % m))) (weight k (omega arith)) ∙
    ap₂ (λ (q n : ℕ). overwritten g q (bits k (v / 2 ^ n % 2 ^ k))) from_is rest_is ∙
    put_more f g p d k v w (omega arith) c.loop-i.invariant ∙
    ap (λ (n : ℕ). overwritten f p (bits n (v / 2 ^ (w - n)))) done_is
