use Rattle.std.proofs.Common.{ℕ, ◌≤◌, List, length}
use Rattle.outsider.specs.Pieces.{Made}
use Rattle.outsider.proofs.Comparing.{Alike}
use Rattle.outsider.proofs.pieces.Piece.same.Given as goal

abbrev pub invariant-loop : goal.invariant-loop
invariant-loop l =
    (bs cs : List ℕ) → length l.file ≤ 65536 → Made l.file bs l.self → Made l.file cs l.other → Alike l.file bs cs l.self.count l.counter l.ours l.theirs
