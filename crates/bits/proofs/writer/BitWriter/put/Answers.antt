use Rattle.std.proofs.Common.{◌+◌, sym, refl, ap, arith}
use Rattle.bits.proofs.Puts.{length_bits}
use Rattle.bits.proofs.writer.BitWriter.put.Goals.{then-self-total-via-then-self-total, then-self-total-via-else-self-total+then-width-total}
use Rattle.bits.proofs.writer.BitWriter.put.Goals as goal

pub returns-then-self-total-clause-writes : goal.returns-then-self-total-clause-writes
returns-then-self-total-clause-writes c narrow small short =
    let l = length_bits c.args.width c.args.value in
    elim c.then-self-total.branch [ then-self-total-via-then-self-total w ↦ omega (arith, w.if-self-total) | then-self-total-via-else-self-total+then-width-total w ↦ omega (arith, w.if-self-total, w.if-width-total) ]

pub returns-clause-writes : goal.returns-clause-writes
returns-clause-writes c narrow small = record {
  bytes = c.put_number.ensures;
  place = ap (λ n. c.args.self.now.at + n) (sym (length_bits c.args.width c.args.value));
  room = λ h. omega (arith, c.if-self-total.false, c.if-width-total.false);
  named = refl;
}
