use Rattle.std.proofs.Common.{◌≡◌, false, length}
use Rattle.definitions.specs.Lists.{some}
use Rattle.firstcome.specs.Coming.{listed}
use Rattle.passes.specs.Comes.{is_parameter, Staying}
use Rattle.passes.proofs.ComingPlans.{Each}
use Rattle.passes.proofs.redundant.plan_needing.Given as goal

abbrev pub invariant-loop-equation : goal.invariant-loop-equation
invariant-loop-equation l =
    (l.plan.fold ≡ false) × (length l.plan.equations ≡ 31) × Each (λ i. Staying (λ k. some (is_parameter i k) (listed l.list))) l.equation l.plan.equations
