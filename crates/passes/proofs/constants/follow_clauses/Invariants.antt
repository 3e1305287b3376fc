use Rattle.std.proofs.Common.{◌≡◌, ℕ, ◌≤◌, List, [], length}
use Rattle.definitions.specs.Systems.{Clause}
use Rattle.definitions.specs.Reading.{next, repeated}
use Rattle.definitions.specs.ReadSystem.{Scope, read_clause}
use Rattle.definitions.specs.Constants.{Known, clause_brings}
use Rattle.terms.specs.Known.{Alike}
use Rattle.system.specs.Whole.{kept_headers}
use Rattle.passes.specs.Learned.{ranks}
use Rattle.system.proofs.ByPlace.{Ahead}
use Rattle.passes.proofs.Walking.{Leaving}
use Rattle.passes.proofs.constants.follow_clauses.Given as goal

abbrev pub invariant-loop : goal.invariant-loop
invariant-loop g l =
    let a = g.G.Algebra.meaning l.accepted.alg.now in
    let r = read_clause a (kept_headers l.accepted.outline.now) in
    let f = l.accepted.file.now in
    (ranks l.knowledge ≤ ranks l.fn.knowledge) ×
    ((ks : Known) (s : Scope) (cs : List Clause) (q : ℕ) → length f ≤ 65536 → Alike l.env.parameters ks → Alike l.env.variables [] → repeated (r s) l.body.count f l.body.next ≡ next cs q →
    Ahead (r s) f l.body.count cs q l.counter l.next × Leaving (clause_brings a ks) cs l.counter l.fn.knowledge l.knowledge)
