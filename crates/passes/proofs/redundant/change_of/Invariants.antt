use Rattle.std.proofs.Common.{◌≡◌}
use Rattle.definitions.specs.Lists.{some}
use Rattle.firstcome.specs.Coming.{listed}
use Rattle.passes.specs.declared.plan.ParameterChange.TheVariants.{Stays}
use Rattle.passes.specs.declared.plan.EquationChange.TheVariants as equation
use Rattle.passes.specs.Comes.{is_parameter}
use Rattle.passes.proofs.ComingPlans.{Making}
use Rattle.passes.proofs.ComingR.{stayed}
use Rattle.passes.proofs.redundant.change_of.Given as goal

abbrev pub invariant-loop-index : goal.invariant-loop-index
invariant-loop-index l =
    (l.change.equation ≡ equation.Stays) × Making (λ k. stayed (some (is_parameter l.equation k) (listed l.list))) Stays 15 l.index l.change.parameters
