use Rattle.std.proofs.Common.{◌≡◌, ℕ, List, Option, length}
use Rattle.definitions.specs.Lists.{bind}
use Rattle.definitions.specs.Systems.{fold}
use Rattle.definitions.specs.ReadSystem.{greatest_depth}
use Rattle.definitions.specs.Values.{kind_known}
use Rattle.terms.specs.Shapes.{standing}
use Rattle.terms.specs.Known.{Alike}
use Rattle.system.proofs.Knowns.{Known}
use Rattle.system.proofs.walk.Accepted.argument_values.Given as goal

abbrev pub invariant-loop-i : goal.invariant-loop-i
invariant-loop-i g l =
    let a = g.G.Algebra.meaning l.self.alg.now in
    (length l.values ≡ 15) ×
    ((ps vs : List (Option ℕ)) → Alike l.env.parameters ps → Alike l.env.variables vs → Known (λ p. bind (standing a greatest_depth l.self.file.now p) (λ t. fold t (kind_known a ps vs))) l.at-items l.i l.values)
