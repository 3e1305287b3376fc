use Rattle.std.proofs.Common.{length, get_or, ap, arith, drop_of_length-le}
use Rattle.definitions.specs.Written.{clause_bits}
use Rattle.outsider.specs.declared.pieces.Piece.{Piece}
use Rattle.outsider.specs.Pieces.{Holds}
use Rattle.outsider.proofs.Along.{dropped, going_first, going_next, going_stop, going_end}
use Rattle.outsider.proofs.repeats.write_clauses.Goals as goal

abbrev unused : Piece
unused = record { at = 0; count = 0 }

pub loop-clause-init : goal.loop-clause-init
loop-clause-init c = λ ks short p. going_first (Holds c.args.file.now) clause_bits c.args.clauses.now ks c.args.writer.now p

pub returns-in_err-copy : goal.returns-in_err-copy
returns-in_err-copy c = λ ks short p.
    let xs = c.args.clauses.now in
    let i = c.loop-clause.clause-index in
    let r = c.from_residual in
    going_stop (Holds c.args.file.now) clause_bits (get_or xs i unused) c.copy.new.writer r.result r.ensures.0 (dropped xs i unused (omega arith)) (c.loop-clause.invariant ks short p) (λ y h. c.in_err-copy.ensures (clause_bits y) short h)

pub loop-clause-preserved : goal.loop-clause-preserved
loop-clause-preserved c = λ ks short p.
    let xs = c.args.clauses.now in
    let i = c.loop-clause.clause-index in
    going_next (Holds c.args.file.now) clause_bits (get_or xs i unused) c.copy.new.writer (dropped xs i unused (omega arith)) (c.loop-clause.invariant ks short p) (λ y h. c.in_ok-copy.ensures (clause_bits y) short h)

pub returns : goal.returns
returns c = λ ks short p.
    let i = c.loop-clause.clause-index in
    going_end (Holds c.args.file.now) clause_bits (ap length (drop_of_length-le c.args.clauses.now {i = i} (omega arith))) (c.loop-clause.invariant ks short p)
