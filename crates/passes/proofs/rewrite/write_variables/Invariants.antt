use Rattle.std.proofs.Common.{◌<◌, map, drop}
use Rattle.definitions.specs.Lists.{flat}
use Rattle.definitions.specs.Systems.{Quantified as ReadQuantified}
use Rattle.definitions.specs.Fits.{Every}
use Rattle.bits.specs.Writes.{Left}
use Rattle.system.specs.Files.{kept_quantified}
use Rattle.passes.specs.Rewrites.{quantified_bits}
use Rattle.passes.proofs.rewrite.write_variables.Given as goal

abbrev pub invariant-loop-variable : goal.invariant-loop-variable
invariant-loop-variable l =
    let left = map kept_quantified (drop l.variable-index l.variables) in
    Every (λ (q : ReadQuantified). q.sort < 16) (map kept_quantified l.variables) → Every (λ (q : ReadQuantified). q.sort < 16) left × Left (flat (map quantified_bits (map kept_quantified l.variables))) (flat (map quantified_bits left)) l.fn.writer l.writer
