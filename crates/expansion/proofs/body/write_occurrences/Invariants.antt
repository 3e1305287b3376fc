use Rattle.std.proofs.Common.{◌≡◌, ℕ, true, List, map, drop}
use Rattle.definitions.specs.Systems.{Occurrence, System}
use Rattle.definitions.specs.ReadSystem.{Scope}
use Rattle.definitions.specs.Truth.{meant}
use Rattle.definitions.specs.Boolean.{var}
use Rattle.definitions.specs.Fits.{header_of}
use Rattle.system.specs.Whole.{kept_headers}
use Rattle.system.specs.Walks.{Pairs}
use Rattle.expansion.specs.Bodies.{Bound, OccurrenceThere}
use Rattle.expansion.proofs.Walking.{Parts}
use Rattle.expansion.proofs.body.write_occurrences.Given as goal

abbrev pub invariant-loop-occurrence : goal.invariant-loop-occurrence
invariant-loop-occurrence g l =
    let a = g.G.Algebra.meaning l.accepted.alg.now in
    let hs = kept_headers l.accepted.outline.now in
    (s : System) (c : Scope) (os : List Occurrence) (ps vs : List ℕ) → hs ≡ map header_of s.equations → Bound ps vs l.env →
    let R = OccurrenceThere a hs c l.accepted.file.now in
    Pairs R l.occurrences os → Parts R (λ (_ : Occurrence). true) (λ o. var (meant a ps vs o)) s os (drop l.occurrence-index l.occurrences) l.fn.draft l.draft
