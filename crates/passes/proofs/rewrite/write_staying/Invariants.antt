use Rattle.std.proofs.Common.{◌≤◌, ◌<◌, ◌^◌}
use Rattle.definitions.specs.Bits.{bits}
use Rattle.definitions.specs.Fits.{Every}
use Rattle.bits.specs.Writes.{Left}
use Rattle.passes.specs.Planned.{stays}
use Rattle.passes.proofs.Masks.{beside}
use Rattle.passes.proofs.rewrite.write_staying.Given as goal

abbrev pub invariant-loop-number : goal.invariant-loop-number
invariant-loop-number l =
    let numbers = l.number-iterator.a.rest.now in
    let changes = l.number-iterator.b.rest.now in
    l.width ≤ 32 → Every (λ n. n < 2 ^ l.width) l.numbers → Every (λ n. n < 2 ^ l.width) numbers × Left (beside (bits l.width) stays l.changes l.numbers) (beside (bits l.width) stays changes numbers) l.fn.writer l.writer
