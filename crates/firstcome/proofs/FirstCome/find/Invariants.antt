use Rattle.std.proofs.Common.{◌≡◌, drop}
use Rattle.firstcome.specs.Coming.{listed, place_of, place_from}
use Rattle.firstcome.proofs.FirstCome.find.Given as goal

abbrev pub invariant-loop-i : goal.invariant-loop-i
invariant-loop-i g l = place_of (λ y. g.T.PartialEq.eq y l.x) (listed l.self) ≡ place_from l.i (λ y. g.T.PartialEq.eq y l.x) (drop l.i (listed l.self))
