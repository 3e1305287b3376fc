use Rattle.std.proofs.Common.{◌≡◌, ◌*◌, ◌/◌}
use Rattle.definitions.specs.Bits.{field}
use Rattle.bits.proofs.reader.number_of_bytes.Given as goal

abbrev pub invariant-loop-byte : goal.invariant-loop-byte
invariant-loop-byte l = l.all ≡ field l.bytes (8 * (l.at / 8)) (8 * l.byte-index)
