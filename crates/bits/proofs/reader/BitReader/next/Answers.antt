use Rattle.std.proofs.Common.{arith, rules}
use Rattle.bits.proofs.Fields.{field_small, taken}
use Rattle.bits.proofs.reader.BitReader.next.Goals as goal

pub returns : goal.returns
returns c =
    let f = c.args.self.now.bytes.now in
    record {
      reads = λ _ _. taken f c.args.self.now.at c.args.width c.number-value.result (omega arith) c.number-value.ensures;
      refuses = λ h. absurd (h (omega arith) (omega arith));
      stays = λ e. absurd cc;
      small = rw c.number-value.ensures (field_small f c.args.self.now.at c.args.width);
      same = search rules;
    }
