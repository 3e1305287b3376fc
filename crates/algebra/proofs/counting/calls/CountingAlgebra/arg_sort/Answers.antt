use Rattle.std.proofs.Common.{◌≡◌, ◌+◌, ◌/◌, true, false, ltb, sym, refl, ◌∙◌, arith}
use Rattle.std.proofs.lemmas.Bool.{ltb-true, ltb-false}
use Rattle.std.specs.Bool.{then_some}
use Rattle.rows.specs.Listed.{listed}
use Rattle.definitions.specs.Algebras.{counting}
use Rattle.algebra.specs.Lists.{some_inj}
use Rattle.algebra.specs.Counted.{counted_lawful}
use Rattle.algebra.proofs.Counts.{arg_own, arity_in}
use Rattle.algebra.proofs.counting.calls.CountingAlgebra.arg_sort.Goals as goal

pub returns : goal.returns
returns c =
    let ns = listed c.args.self.now.sizes in
    let op = c.args.op in
    let k = c.args.k in
    let m = c.in_ok-arity.field-0 in
    let e = c.in_ok-arity.ensures in
    c.then_some.ensures ∙ elim (ltb k m) as (λ b. ltb k m ≡ b → then_some b (op / 4 + 1) ≡ (counting ns).arg_sort op k) [
      | true ↦ λ t. arg_own ns op (arity_in ns op m e) m k e (ltb-true k m t)
      | false ↦ λ t. sym ((counted_lawful c.args.self.now).no_arg op k (λ n i. let j = some_inj m n (e ∙ i) in omega (arith, ltb-false k m t)))
    ] refl
