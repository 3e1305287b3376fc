use Rattle.std.proofs.Common.{ℕ, List}
use Rattle.definitions.specs.Systems.{Term as Tree}
use Rattle.definitions.specs.Written.{term_bits}
use Rattle.system.specs.Walks.{Pairs}
use Rattle.passes.specs.declared.plan.ParameterChange.{ParameterChange}
use Rattle.passes.specs.Planned.{stays, term_by, Narrow}
use Rattle.passes.specs.Rewrites.{TermAt}
use Rattle.passes.proofs.Along.{Along, piece}
use Rattle.passes.proofs.written.Edit.write_arguments.Given as goal

abbrev pub invariant-loop-argument : goal.invariant-loop-argument
invariant-loop-argument g l =
    let a = g.G.Algebra.meaning l.self.accepted.now.alg.now in
    (ts : List Tree) (vs : List ℕ) → Narrow l.self.sorts.now →
    let R = TermAt a (record { parameters = l.self.sorts.now; variables = vs }) l.self.accepted.now.file.now in
    let f = term_by a l.self.plan.now l.self.sorts.now l.self.change.now in
    Pairs R l.arguments ts → Along R (λ (c : ParameterChange). piece term_bits f (stays c)) l.changes ts l.argument-iterator.a.rest.now l.argument-iterator.b.rest.now l.fn.writer l.writer
