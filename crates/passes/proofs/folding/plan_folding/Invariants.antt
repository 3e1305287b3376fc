use Rattle.std.proofs.Common.{◌≡◌, true}
use Rattle.system.specs.declared.outline.Equation.{Equation as Told}
use Rattle.passes.specs.Rewrites.{false_at}
use Rattle.passes.proofs.Applying.{Filled, bared}
use Rattle.passes.proofs.folding.plan_folding.Given as goal

abbrev pub invariant-loop-i : goal.invariant-loop-i
invariant-loop-i g l =
    (l.plan.fold ≡ true) × Filled (λ (t : Told). bared (false_at (g.G.Algebra.meaning l.accepted.alg.now) l.accepted.file.now t.body)) l.equation-items l.i l.plan.equations
