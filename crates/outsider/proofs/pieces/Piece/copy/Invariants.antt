use Rattle.std.proofs.Common.{ℕ, ◌≤◌, List, length}
use Rattle.outsider.specs.Pieces.{Made}
use Rattle.outsider.proofs.Copying.{Copied}
use Rattle.outsider.proofs.pieces.Piece.copy.Given as goal

abbrev pub invariant-loop : goal.invariant-loop
invariant-loop l =
    (bs : List ℕ) → length l.file ≤ 65536 → Made l.file bs l.self → Copied l.file bs l.self.count l.counter l.reader l.fn.writer l.writer
