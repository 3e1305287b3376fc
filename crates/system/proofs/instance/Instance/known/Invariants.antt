use Rattle.std.proofs.Common.{Some}
use Rattle.system.proofs.Knowns.{Known}
use Rattle.system.proofs.instance.Instance.known.Given as goal

abbrev pub invariant-loop-i : goal.invariant-loop-i
invariant-loop-i l = Known Some l.value-items l.i l.known
