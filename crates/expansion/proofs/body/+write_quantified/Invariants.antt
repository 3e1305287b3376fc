use Rattle.std.proofs.Common.{◌≡◌, ℕ, ◌+◌, ◌-◌, ◌≤◌, List, [], ◌∷◌, ◌++◌, map, length, drop}
use Rattle.definitions.specs.Lists.{from, up_to}
use Rattle.definitions.specs.Systems.{Quantified, Equation, System}
use Rattle.definitions.specs.Boolean.{inside_form, spread}
use Rattle.definitions.specs.Fits.{SortFits, BodyFits, Every, header_of}
use Rattle.rows.specs.Listed.{listed}
use Rattle.system.specs.Files.{kept_quantified}
use Rattle.system.specs.Whole.{kept_headers}
use Rattle.system.specs.Walks.{BodyOf}
use Rattle.expansion.specs.Bodies.{Bound}
use Rattle.expansion.proofs.Drafting.{Writing}
use Rattle.expansion.proofs.body.+write_quantified.Given as goal

abbrev pub decreases-write_quantified : goal.decreases-write_quantified
decreases-write_quantified g l = 3 - l.level

abbrev pub invariant-loop-value : goal.invariant-loop-value
invariant-loop-value g l =
    let a = g.G.Algebra.meaning l.accepted.alg.now in
    let f = l.accepted.file.now in
    let hs = kept_headers l.accepted.outline.now in
    (s : System) (e : Equation) (q : ℕ) (ps vs : List ℕ) → length f ≤ 65536 → hs ≡ map header_of s.equations → e.quantified ≡ map kept_quantified (listed l.variables) →
    Every (λ (k : Quantified). SortFits a k.sort) e.quantified → length vs ≡ l.level → Bound ps vs l.env → BodyOf a hs (header_of e) f e q l.body → BodyFits a hs e →
    let v = λ (n : ℕ). spread a (drop (l.level + 1) e.quantified) (vs ++ (n ∷ [])) (inside_form a e ps) in
    Writing s [] (map v (up_to l.size)) (map v (from l.value (l.size - l.value))) l.initial.draft l.draft
