use Rattle.std.proofs.Common.{ℕ, ◌-◌, ◌/◌, ◌%◌, ◌≤◌, List, length, replicate, sym, ap, ◌∙◌, arith}
use Rattle.bits.specs.declared.writer.BitWriter.{BitWriter}
use Rattle.bits.proofs.Puts.{closes, overwritten_out}
use Rattle.bits.proofs.writer.BitWriter.close.Goals as goal
use Rattle.bits.proofs.writer.BitWriter.close.Goals.{then-byte-self, else-byte-self}

pub returns : goal.returns
returns c =
    let f : List ℕ = c.args.self.now.bytes.now in
    let p = c.args.self.now.at in
    record {
      count = omega arith;
      padded = elim c.if-byte-self.branch [
        | then-byte-self w ↦ ap (λ (s : BitWriter). s.bytes.now) w.self-is ∙ w.put_part.ensures ∙ closes f p c.if-at-eq0.false
        | else-byte-self w ↦ ap (λ (s : BitWriter). s.bytes.now) w.self-is ∙ sym (overwritten_out f p (replicate ((8 - p % 8) % 8) 0) (let h : length f ≤ p / 8 = omega arith in h))
      ];
      stays = elim c.if-byte-self.branch [ then-byte-self w ↦ ap (λ (s : BitWriter). s.at) w.self-is | else-byte-self w ↦ ap (λ (s : BitWriter). s.at) w.self-is ];
      named = elim c.if-byte-self.branch [ then-byte-self w ↦ ap (λ (s : BitWriter). s.bytes.ghost_name) w.self-is | else-byte-self w ↦ ap (λ (s : BitWriter). s.bytes.ghost_name) w.self-is ];
    }
