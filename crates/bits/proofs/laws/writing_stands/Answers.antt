use Rattle.bits.proofs.Puts.{in_a_row}
use Rattle.bits.proofs.Packs.{packs}
use Rattle.bits.proofs.Written.{written, field_back}
use Rattle.bits.proofs.laws.writing_stands.Goals as goal

pub returns : goal.returns
returns c = record { stands = written; back = field_back; row = in_a_row; packs = packs }
