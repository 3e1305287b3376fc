use Rattle.std.proofs.Common.{◌≡◌, ℕ, ◌<◌, ◌≤◌, length}
use Rattle.definitions.specs.Solution.{put}
use Rattle.boolean.specs.Steps.{assigned}
use Rattle.boolean.specs.Solvers.{block}
use Rattle.boolean.proofs.solver.Solver.begin.Given as goal

abbrev pub invariant-loop-v : goal.invariant-loop-v
invariant-loop-v l =
    (length l.truths ≡ 4096) ×
    ((x : ℕ) → x < l.v → assigned l.truths x ≡ put (block l.self l.k) (λ _. l.start) (assigned l.initial.truths) x) ×
    ((x : ℕ) → l.v ≤ x → assigned l.truths x ≡ assigned l.initial.truths x)
