use Rattle.std.proofs.Common.{◌≡◌, ◌-◌, ◌*◌, ◌/◌, ◌^◌, min}
use Rattle.definitions.specs.Bits.{bits}
use Rattle.bits.specs.Put.{overwritten}
use Rattle.bits.proofs.writer.put_number.Given as goal

abbrev pub invariant-loop-i : goal.invariant-loop-i
invariant-loop-i l =
    let done = min l.width (8 * l.i - l.at) in
    l.bytes ≡ overwritten l.fn.bytes l.at (bits done (l.value / 2 ^ (l.width - done)))
