use Rattle.std.proofs.Common.{rules, tests, ◌∙◌}
use Rattle.std.proofs.lemmas.Iterator.{YieldsList-from_slice, YieldsList-from_take}
use Rattle.std.proofs.lemmas.Iterator.Consumers.{YieldsList-from_filter, YieldsList-at, count_from_yields_List}
use Rattle.passes.specs.declared.plan.Change.{Change}
use Rattle.passes.specs.Planned.{remains}
use Rattle.passes.proofs.Numbering.{kept_of_first, remains_same}
use Rattle.passes.proofs.plan.Plan.number_of.Goals as goal

pub returns : goal.returns
returns c =
    let xs = c.args.self.now.equations in
    let n = c.args.n in
    count_from_yields_List c.filter.result _ c.count.ensures.ran (YieldsList-from_filter _ (λ (x : Change). remains x.equation) (YieldsList-at c.filter.ensures.source (YieldsList-from_take n (YieldsList-at c.take.ensures.source (YieldsList-from_slice xs (cc))) c.take.ensures.count)) c.filter.ensures.closure (λ x b q k. (search rules, remains_same b x.now.equation (search (rules, tests))))) ∙ kept_of_first (λ (x : Change). remains x.equation) xs n
