use Rattle.std.proofs.Common.{◌≡◌, false}
use Rattle.definitions.specs.Lists.{some}
use Rattle.firstcome.specs.Coming.{listed}
use Rattle.passes.specs.Plans.{change_none}
use Rattle.passes.specs.Comes.{is_number}
use Rattle.passes.proofs.ComingPlans.{Making}
use Rattle.passes.proofs.ComingU.{kept}
use Rattle.passes.proofs.unreachable_equations.plan_keeping.Given as goal

abbrev pub invariant-loop-index : goal.invariant-loop-index
invariant-loop-index l = (l.plan.fold ≡ false) × Making (λ i. kept (some (is_number i) (listed l.list))) change_none 31 l.index l.plan.equations
