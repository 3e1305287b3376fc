-- Copying bit by bit.
use Rattle.std.proofs.Common.{◌≡◌, ℕ, ◌+◌, ◌<◌, ◌≤◌, List, [], ◌∷◌, ◌++◌, length, Option, Result, IsErr, sym, refl, ap, ◌∙◌, subst, arith}
use Rattle.definitions.specs.Bits.{bits, Stands}
use Rattle.bits.specs.declared.reader.BitReader.{BitReader}
use Rattle.bits.specs.declared.writer.BitWriter.{BitWriter}
use Rattle.bits.specs.declared.writer.Full.{Full}
use Rattle.bits.specs.Writes.{Wrote, NoRoom, Writes, Left}
use Rattle.bits.proofs.Left.{left_first, left_next, left_end}
use Rattle.outsider.specs.declared.pieces.Piece.{Piece}
use Rattle.outsider.specs.Pieces.{Made}
use Rattle.outsider.proofs.Writing.{left_none, left_same}
use Rattle.outsider.proofs.Reading.{one_bit}
use Rattle.outsider.proofs.Comparing.{Bitten, Bit, bitten}

-- of n bits the first i are copied, and the reader stands at the others
pub record Copied (f bs : List ℕ) (n i : ℕ) (reader : BitReader) (old now : BitWriter) : Type 0 where
  pub file : reader.bytes.now ≡ f
  pub left : List ℕ
  pub stand : Stands f reader.at left
  pub count : i + length left ≡ n
  pub wrote : Left bs left old now

pub copied_first : (f bs : List ℕ) (x : Piece) (reader : BitReader) (w : BitWriter) → reader.bytes.now ≡ f → reader.at ≡ x.at → Made f bs x → Copied f bs x.count 0 reader w w
copied_first f bs x reader w e p h = record { file = e; left = bs; stand = subst (λ n. Stands f n bs) (sym p) h.stands; count = omega (arith, h.count); wrote = left_first bs w }

module _ {f bs : List ℕ} {n i : ℕ} {reader : BitReader} {old now : BitWriter} (l : Copied f bs n i reader old now) where
  module _ (short : length f ≤ 65536) (lt : i < n) (new : BitReader) (r : Option ℕ) (p : Bitten reader new r) where
    pub the_bit : Bit f l.left reader new r
    the_bit = bitten f l.left reader new r short l.file l.stand (omega (arith, l.count)) p

    ahead : Left bs (bits 1 the_bit.bit ++ the_bit.rest) old now
    ahead = left_same (the_bit.is ∙ ap (λ xs. xs ++ the_bit.rest) (sym (one_bit the_bit.bit the_bit.small))) l.wrote

    pub copied_next : (writer : BitWriter) → Wrote (bits 1 the_bit.bit) now writer → Copied f bs n (i + 1) new old writer
    copied_next writer w = record {
      file = the_bit.file;
      left = the_bit.rest;
      stand = the_bit.stands;
      count = (let k = ap length the_bit.is in omega (arith, l.count));
      wrote = left_next (bits 1 the_bit.bit) writer ahead w;
    }

    pub copied_stop : {T : Type 0} (writer : BitWriter) (res : Result T Full) → IsErr res → NoRoom (bits 1 the_bit.bit) now → Writes bs old writer res
    copied_stop writer res e h = left_none (bits 1 the_bit.bit) the_bit.rest writer res e ahead h

  pub copied_end : n ≤ i → Wrote bs old now
  copied_end h = left_end (left_same (go l.left (omega (arith, l.count))) l.wrote)
    where
      go : (xs : List ℕ) → length xs ≡ 0 → xs ≡ []
      go [] e = refl
      go (x ∷ xs) e = absurd (omega arith)
