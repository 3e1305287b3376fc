use Rattle.std.proofs.Common.{◌≡◌, ℕ, [], ◌++◌, List, map, Option, length, sym, ◌∙◌, subst, arith}
use Rattle.definitions.specs.Lists.{flat}
use Rattle.definitions.specs.Bits.{bits}
use Rattle.definitions.specs.Systems.{Equation}
use Rattle.definitions.specs.Written.{term_bits, clause_bits, body_bits}
use Rattle.rows.specs.declared.row.Row.{Row}
use Rattle.rows.specs.Listed.{listed}
use Rattle.bits.specs.Writes.{Wrote, NoRoom}
use Rattle.bits.proofs.Left.{left_first, left_next}
use Rattle.system.specs.Walks.{Pairs, Found}
use Rattle.outsider.specs.declared.pieces.Piece.{Piece}
use Rattle.outsider.specs.Repeats.{unrepeated, equation_without_repeats}
use Rattle.outsider.specs.Pieces.{Made, Holds}
use Rattle.outsider.proofs.Writing.{left_none, left_last}
use Rattle.outsider.proofs.Along.{pairs_long}
use Rattle.outsider.proofs.repeats.write_body.Goals as goal

-- what is found of a body
abbrev Pieces : List ℕ → Equation → Piece × Row Piece 15 → Type 0
Pieces f e x = Made f (term_bits e.h) x.0 × Pairs (Holds f) (listed x.1) (unrepeated [] e.clauses)

abbrev count : Equation → List ℕ
count e = bits 4 (length (unrepeated [] e.clauses))

abbrev clauses : Equation → List ℕ
clauses e = flat (map clause_bits (unrepeated [] e.clauses))

pub returns-in_err-h : goal.returns-in_err-h
returns-in_err-h g c = λ e short fit s.
    let f = c.args.accepted.now.file.now in
    absurd (subst (λ (r : Option (Piece × Row Piece 15)). Found r (Pieces f e)) c.in_err-h.ensures.ok_part (c.pieces_of_body.ensures e short fit s))

pub returns-in_err-copy : goal.returns-in_err-copy
returns-in_err-copy g c = λ e short fit s.
    let f = c.args.accepted.now.file.now in
    let found = subst (λ (r : Option (Piece × Row Piece 15)). Found r (Pieces f e)) c.in_ok-h.ensures.ok_part (c.pieces_of_body.ensures e short fit s) in
    let r = c.from_residual-in_err-copy in
    left_none (term_bits e.h) (count e ++ clauses e) c.copy.new.writer r.result r.ensures.0 (left_first (body_bits (equation_without_repeats e)) c.args.writer.now) (c.in_err-copy.ensures (term_bits e.h) short found.0)

pub returns-in_err-put : goal.returns-in_err-put
returns-in_err-put g c = λ e short fit s.
    let f = c.args.accepted.now.file.now in
    let found = subst (λ (r : Option (Piece × Row Piece 15)). Found r (Pieces f e)) c.in_ok-h.ensures.ok_part (c.pieces_of_body.ensures e short fit s) in
    let l = left_next {rest = count e ++ clauses e} (term_bits e.h) c.copy.new.writer (left_first (body_bits (equation_without_repeats e)) c.args.writer.now) (c.in_ok-copy.ensures (term_bits e.h) short found.0) in
    let long : c.len.result ≡ length (unrepeated [] e.clauses) = c.len.ensures.count ∙ pairs_long (Holds f) (listed c.in_ok-h.clauses) (unrepeated [] e.clauses) found.1 in
    let few = c.len.ensures.within in
    let r = c.from_residual-in_err-put in
    left_none (count e) (clauses e) c.put.new.self r.result r.ensures.0 l (subst (λ n. NoRoom (bits 4 n) c.copy.new.writer) long (c.in_err-put.ensures.writes (omega arith) (omega arith)))

pub returns : goal.returns
returns g c = λ e short fit s.
    let f = c.args.accepted.now.file.now in
    let found = subst (λ (r : Option (Piece × Row Piece 15)). Found r (Pieces f e)) c.in_ok-h.ensures.ok_part (c.pieces_of_body.ensures e short fit s) in
    let l = left_next {rest = count e ++ clauses e} (term_bits e.h) c.copy.new.writer (left_first (body_bits (equation_without_repeats e)) c.args.writer.now) (c.in_ok-copy.ensures (term_bits e.h) short found.0) in
    let long : c.len.result ≡ length (unrepeated [] e.clauses) = c.len.ensures.count ∙ pairs_long (Holds f) (listed c.in_ok-h.clauses) (unrepeated [] e.clauses) found.1 in
    let few = c.len.ensures.within in
    let l2 = left_next {rest = clauses e} (count e) c.put.new.self l (subst (λ n. Wrote (bits 4 n) c.copy.new.writer c.put.new.self) long (c.in_ok-put.ensures.writes (omega arith) (omega arith))) in
    let x = c.write_clauses in
    left_last (clauses e) x.new.writer x.result l2 (x.ensures (unrepeated [] e.clauses) short (subst (λ xs. Pairs (Holds f) xs (unrepeated [] e.clauses)) (sym c.as_slice.ensures) found.1))
