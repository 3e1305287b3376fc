-- The knowledge that C uses is the least that is stable.
use Rattle.std.specs.Prelude.{◌≡◌, ℕ, true, List, map, length, Some}
use Rattle.definitions.specs.Lists.{at}
use Rattle.definitions.specs.Alg.{Alg}
use Rattle.definitions.specs.Systems.{System, Equation, Clause, Occurrence}
use Rattle.definitions.specs.Fits.{Every, SystemFits}
use Rattle.definitions.specs.Constants.{Knowledge, stable, below, least_knowledge}

abbrev pub arities : List Equation → List ℕ
arities es = map (λ (e : Equation). length e.sorts) es

-- every occurrence, and the start, has a target with as many parameters as it has arguments
abbrev pub Shaped : System → Type 0
Shaped s =
    (at (arities s.equations) s.start ≡ Some (length s.values)) ×
    Every (λ (e : Equation). Every (λ (c : Clause). Every (λ (o : Occurrence). at (arities s.equations) o.target ≡ Some (length o.arguments)) c.occurrences) e.clauses) s.equations

abbrev pub KnowledgeStable : Type 0
KnowledgeStable = (a : Alg) (s : System) → SystemFits a s → stable a s (least_knowledge a s) ≡ true

abbrev pub KnowledgeLeast : Type 0
KnowledgeLeast = (a : Alg) (s : System) (K : Knowledge) → length K ≡ length s.equations → stable a s K ≡ true →
    below (least_knowledge a s) K ≡ true
