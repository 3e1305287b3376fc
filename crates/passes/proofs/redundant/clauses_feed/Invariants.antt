use Rattle.std.proofs.Common.{◌≡◌, ℕ, ◌≤◌, Bool, true, List, map, length}
use Rattle.definitions.specs.Lists.{flat}
use Rattle.definitions.specs.Systems.{Clause}
use Rattle.definitions.specs.Reading.{next, repeated}
use Rattle.definitions.specs.ReadSystem.{Scope, read_clause}
use Rattle.rows.specs.Listed.{listed}
use Rattle.firstcome.specs.Coming.{listed as came}
use Rattle.system.specs.Whole.{kept_headers}
use Rattle.passes.specs.declared.redundant.Parameter.{Parameter}
use Rattle.passes.specs.Comes.{Has, Room, Brought, Pointing}
use Rattle.passes.proofs.Coming.{Front}
use Rattle.system.proofs.ByPlace.{Ahead}
use Rattle.passes.proofs.redundant.clauses_feed.Given as goal

abbrev pub invariant-loop : goal.invariant-loop
invariant-loop g l =
    let r = read_clause (g.G.Algebra.meaning l.accepted.alg.now) (kept_headers l.accepted.outline.now) in
    let f = l.accepted.file.now in
    let i = l.numbered.number in
    let n = length (listed l.numbered.equation.now.header.sorts) in
    (c : Scope) (ks : List Clause) (q : ℕ) → length f ≤ 65536 → repeated (r c) l.body.count f l.body.next ≡ next ks q →
    Ahead (r c) f l.body.count ks q l.counter l.next ×
    ((p : Parameter → Bool) → Room p l.fn.list → ((x : Parameter) → Pointing i n (flat (map (λ (k : Clause). k.occurrences) ks)) (λ y. p y ≡ true) x → p x ≡ true) →
    Brought p (Front (λ j (k : Clause). Pointing i n k.occurrences (Has (came l.fn.list))) ks l.counter) l.fn.list l.list)
