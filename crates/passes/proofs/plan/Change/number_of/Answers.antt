use Rattle.std.proofs.Common.{rules, tests, ◌∙◌}
use Rattle.std.proofs.lemmas.Iterator.{YieldsList-from_slice, YieldsList-from_take}
use Rattle.std.proofs.lemmas.Iterator.Consumers.{YieldsList-from_filter, YieldsList-at, count_from_yields_List}
use Rattle.passes.specs.Planned.{stays}
use Rattle.passes.proofs.Numbering.{kept_of_first, stays_same}
use Rattle.passes.proofs.plan.Change.number_of.Goals as goal

pub returns : goal.returns
returns c =
    let xs = c.args.self.now.parameters in
    let n = c.args.n in
    count_from_yields_List c.filter.result _ c.count.ensures.ran (YieldsList-from_filter _ stays (YieldsList-at c.filter.ensures.source (YieldsList-from_take n (YieldsList-at c.take.ensures.source (YieldsList-from_slice xs (cc))) c.take.ensures.count)) c.filter.ensures.closure (λ x b q k. (search rules, stays_same b x.now (search (rules, tests))))) ∙ kept_of_first stays xs n
