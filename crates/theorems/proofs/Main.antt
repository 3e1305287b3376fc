-- The main theorem, and how a call adds itself to a history: what a bench's contracts need.
use Rattle.std.proofs.Common.{◌∷◌}
use Rattle.definitions.specs.Histories.{VerdictKept}
use Rattle.definitions.specs.Past.{Past, call}
use Rattle.theorems.specs.CallLaws.{CallsExtendHistories}
use Rattle.theorems.proofs.PassRules.{passes_rule}
use Rattle.theorems.proofs.Histories.{sound}
use Rattle.theorems.proofs.Starts.{alike}

pub verdict_kept : VerdictKept
verdict_kept = record { one_history = sound passes_rule; two_histories = alike }

pub follows : CallsExtendHistories
follows e h k s es p = let q : Past (e ∷ es) k = call p s in (q, sound passes_rule (e ∷ es) k q)
