-- Writing piece by piece.
use Rattle.std.proofs.Common.{◌≡◌, ℕ, List, [], ◌++◌, Ok, Err, Result, IsErr, sym, subst}
use Rattle.std.proofs.lemmas.List.{append-nil}
use Rattle.bits.specs.declared.writer.BitWriter.{BitWriter}
use Rattle.bits.specs.declared.writer.Full.{Full}
use Rattle.bits.specs.Writes.{NoRoom, Writes, Left}
use Rattle.bits.proofs.Left.{left_next, left_stop, left_end}

-- where a piece has no room, nothing is written
pub left_none : {T : Type 0} {bs : List ℕ} {old now : BitWriter} (cs rest : List ℕ) (new : BitWriter) (r : Result T Full) → IsErr r → Left bs (cs ++ rest) old now → NoRoom cs now → Writes bs old new r
left_none cs rest new (Ok x) e l h = absurd cc
left_none cs rest new (Err x) e l h = left_stop cs rest l h

pub left_same : {bs rest more : List ℕ} {old now : BitWriter} → rest ≡ more → Left bs rest old now → Left bs more old now
left_same {bs = bs} {old = old} {now = now} e l = subst (λ (xs : List ℕ). Left bs xs old now) e l

pub left_last : {T : Type 0} {bs : List ℕ} {old now : BitWriter} (cs : List ℕ) (new : BitWriter) (r : Result T Full) → Left bs cs old now → Writes cs now new r → Writes bs old new r
left_last cs new (Ok x) l w = left_end (left_next {rest = []} cs new (left_same (sym (append-nil cs)) l) w)
left_last cs new (Err e) l w = left_stop cs [] (left_same (sym (append-nil cs)) l) w
