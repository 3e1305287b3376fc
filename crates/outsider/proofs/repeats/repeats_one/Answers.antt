use Rattle.std.proofs.Common.{length, get_or, sym, ap, ◌∙◌, arith, drop_of_length-le}
use Rattle.definitions.specs.Written.{clause_bits}
use Rattle.outsider.specs.declared.pieces.Piece.{Piece}
use Rattle.outsider.specs.Repeats.{repeats}
use Rattle.outsider.specs.Pieces.{Holds}
use Rattle.outsider.proofs.Along.{dropped, seeking_first, seeking_next, seeking_found, seeking_end}
use Rattle.outsider.proofs.repeats.repeats_one.Goals as goal

abbrev unused : Piece
unused = record { at = 0; count = 0 }

pub loop-other-init : goal.loop-other-init
loop-other-init c = λ k ls short h p. seeking_first (Holds c.args.file.now) (repeats k) c.args.others.now ls p

pub returns-then-same : goal.returns-then-same
returns-then-same c = λ k ls short h p.
    let xs = c.args.others.now in
    let i = c.loop-other.other-index in
    seeking_found (Holds c.args.file.now) (repeats k) (get_or xs i unused) (dropped xs i unused (omega arith)) (c.loop-other.invariant k ls short h p) (λ y m. sym c.if-same.true ∙ c.same.ensures (clause_bits k) (clause_bits y) short h m)

pub loop-other-preserved : goal.loop-other-preserved
loop-other-preserved c = λ k ls short h p.
    let xs = c.args.others.now in
    let i = c.loop-other.other-index in
    seeking_next (Holds c.args.file.now) (repeats k) (get_or xs i unused) (dropped xs i unused (omega arith)) (c.loop-other.invariant k ls short h p) (λ y m. sym c.if-same.false ∙ c.same.ensures (clause_bits k) (clause_bits y) short h m)

pub returns : goal.returns
returns c = λ k ls short h p.
    let i = c.loop-other.other-index in
    seeking_end (Holds c.args.file.now) (repeats k) (ap length (drop_of_length-le c.args.others.now {i = i} (omega arith))) (c.loop-other.invariant k ls short h p)
