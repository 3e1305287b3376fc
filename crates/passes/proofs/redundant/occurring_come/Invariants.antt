use Rattle.std.proofs.Common.{◌≡◌, Bool, true, length, Some}
use Rattle.definitions.specs.Systems.{Term}
use Rattle.definitions.specs.ReadSystem.{greatest_depth}
use Rattle.terms.specs.Shapes.{standing}
use Rattle.rows.specs.Listed.{listed}
use Rattle.passes.specs.declared.redundant.Parameter.{Parameter}
use Rattle.passes.specs.Comes.{Room, Brought, Occurring}
use Rattle.passes.proofs.redundant.occurring_come.Given as goal

abbrev pub invariant-loop-index : goal.invariant-loop-index
invariant-loop-index g l =
    let a = g.G.Algebra.meaning l.accepted.alg.now in
    (t : Term) → standing a greatest_depth l.accepted.file.now l.at ≡ Some t →
    (p : Parameter → Bool) → Room p l.fn.list → ((x : Parameter) → Occurring l.numbered.number (length (listed l.numbered.equation.now.header.sorts)) t x → p x ≡ true) →
    Brought p (Occurring l.numbered.number l.index t) l.fn.list l.list
