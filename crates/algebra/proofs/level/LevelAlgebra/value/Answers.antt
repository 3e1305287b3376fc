use Rattle.std.proofs.Common.{◌+◌, ◌-◌, min, get_or, rules, ◌∙◌}
use Rattle.algebra.proofs.Levels.{pair_at}
use Rattle.algebra.proofs.level.LevelAlgebra.value.Goals as goal

pub returns-in-0 : goal.returns-in-0
returns-in-0 c = search (rules, c.entry.ensures ∙ pair_at (λ a b. min (a + b) 15) (get_or c.args.args.now 0 0) (get_or c.args.args.now 1 0) c.if-a-ge16.false c.if-b-ge16.false)

pub returns-in-1 : goal.returns-in-1
returns-in-1 c = search (rules, c.entry-in-1.ensures ∙ pair_at (λ a b. (a - b) + (b - a)) (get_or c.args.args.now 0 0) (get_or c.args.args.now 1 0) c.if-a-ge16.false c.if-b-ge16.false)
