use Rattle.std.proofs.Common.{◌≡◌, ◌≤◌, List, length, map}
use Rattle.definitions.specs.Lists.{flat}
use Rattle.definitions.specs.Bits.{Stands}
use Rattle.definitions.specs.Systems.{Clause}
use Rattle.definitions.specs.ReadSystem.{Scope}
use Rattle.definitions.specs.Written.{clause_bits}
use Rattle.definitions.specs.Fits.{Every, ClauseFits}
use Rattle.rows.specs.Listed.{listed}
use Rattle.system.specs.Whole.{kept_headers}
use Rattle.outsider.proofs.Walking.{Walking}
use Rattle.outsider.proofs.repeats.unrepeated_clauses.Given as goal

abbrev pub invariant-loop : goal.invariant-loop
invariant-loop g l =
    let a = g.G.Algebra.meaning l.accepted.alg.now in
    let hs = kept_headers l.accepted.outline.now in
    let f = l.accepted.file.now in
    (length (listed l.stay) ≤ l.counter) ×
    ((c : Scope) (ks : List Clause) → length f ≤ 65536 → Every (ClauseFits a hs c) ks → l.body.count ≡ length ks → Stands f l.body.next (flat (map clause_bits ks)) →
    Walking a hs c f ks l.body.count l.counter l.at (listed l.stay))
