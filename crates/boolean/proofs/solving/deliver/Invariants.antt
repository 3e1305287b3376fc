use Rattle.std.proofs.Common.{◌≡◌, ◌++◌, map, take, drop}
use Rattle.definitions.specs.Algebras.{truth}
use Rattle.boolean.proofs.solving.deliver.Given as goal

abbrev pub invariant-loop-v : goal.invariant-loop-v
invariant-loop-v l = l.truths ≡ map truth (take l.v l.solution) ++ drop l.v l.initial.truths
