use Rattle.algebra.specs.Tables.{table_lawful}
use Rattle.algebra.specs.Tabled.{stored, tabled}
use Rattle.bench.specs.Holds.{holding}
use Rattle.possumgold.proofs.Verdicts.{verdict_is}
use Rattle.possumgold.proofs.decide.Goals as goal

pub returns : goal.returns
returns c = λ f s.
    verdict_is (tabled c.args.table.now) (table_lawful (stored c.args.table.now) c.args.table.now.sound) f (holding c.args.bench.now) _ _ _ c.in_ok-expansion.expansion.len c.in_ok-expansion.expansion.variables s c.in_ok-expansion.ensures.history _ _ _ c.in_ok-variables.ensures c.first.result c.first.ensures c.eq.result c.eq.ensures
