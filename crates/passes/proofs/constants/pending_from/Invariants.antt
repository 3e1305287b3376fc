use Rattle.std.proofs.Common.{◌≡◌, ℕ, ◌<◌, ◌≤◌, false}
use Rattle.passes.specs.Learned.{fresh, kept_at}
use Rattle.passes.proofs.constants.pending_from.Given as goal

abbrev pub invariant-loop-number : goal.invariant-loop-number
invariant-loop-number l = (j : ℕ) → l.from ≤ j → j < l.number → fresh (kept_at l.knowledge j) ≡ false
