use Rattle.std.proofs.Common.{◌++◌, arith}
use Rattle.definitions.specs.Bits.{bits}
use Rattle.definitions.specs.Systems.{value as value_kind}
use Rattle.definitions.specs.Written.{kind_bits}
use Rattle.bits.proofs.Left.{left_first, left_next}
use Rattle.passes.proofs.TermBits.{left_last}
use Rattle.passes.proofs.written.write_value.Goals as goal

pub returns : goal.returns
returns c = λ small.
    let s = bits 4 c.args.sort in
    let v = bits 8 c.args.value in
    let a = left_next {rest = s ++ v} (bits 3 2) c.put.new.self (left_first (kind_bits (value_kind c.args.sort c.args.value)) c.args.writer.now) (c.in_ok-put.ensures.writes (omega arith) (omega arith)) in
    let b = left_next {rest = v} s c.put-2.new.self a (c.in_ok-put-2.ensures.writes (omega arith) (omega arith)) in
    left_last v c.put-3.new.self c.put-3.result b (c.put-3.ensures.writes (omega arith) (omega (arith, c.ranges.value.fits)))
