use Rattle.rows.specs.Listed.{listed}
use Rattle.terms.proofs.Wholes.{Gathered}
use Rattle.terms.proofs.value.apply.Given as goal

abbrev pub invariant-loop-arg : goal.invariant-loop-arg
invariant-loop-arg g l = Gathered l.fn.args l.arg-index (listed l.values)
