use Rattle.std.proofs.Common.{[], map, Option, sym, subst}
use Rattle.definitions.specs.Lists.{flat}
use Rattle.definitions.specs.Bits.{Stands}
use Rattle.definitions.specs.ReadSystem.{scope}
use Rattle.definitions.specs.Written.{clause_bits}
use Rattle.definitions.specs.Fits.{header_of}
use Rattle.rows.specs.declared.row.Row.{Row}
use Rattle.rows.specs.Listed.{listed}
use Rattle.system.specs.Whole.{kept_headers}
use Rattle.system.specs.Walks.{Pairs, Found}
use Rattle.outsider.specs.declared.pieces.Piece.{Piece}
use Rattle.outsider.specs.Repeats.{unrepeated}
use Rattle.outsider.specs.Pieces.{Holds}
use Rattle.outsider.proofs.Bodies.{clauses_stand, not_unopened, opens, not_endless, ends, not_missing, h_there}
use Rattle.outsider.proofs.repeats.pieces_of_body.Goals as goal

pub returns-in_err-body : goal.returns-in_err-body
returns-in_err-body g c = λ e short fit s.
    let a = g.G.Algebra.meaning c.args.accepted.now.alg.now in
    let hs = kept_headers c.args.accepted.now.outline.now in
    absurd (not_unopened a hs c.args.accepted.now.file.now short c.args.at e fit s c.open_body.result c.in_err-body.was c.open_body.ensures.places)

pub returns-in_err-clauses : goal.returns-in_err-clauses
returns-in_err-clauses g c = λ e short fit s.
    let a = g.G.Algebra.meaning c.args.accepted.now.alg.now in
    let hs = kept_headers c.args.accepted.now.outline.now in
    let f = c.args.accepted.now.file.now in
    let o = opens a hs f short c.args.at e fit s c.open_body.result c.in_ok-body.body c.in_ok-body.was c.open_body.ensures.places in
    let found = c.unrepeated_clauses.ensures (scope (header_of e)) e.clauses short fit.fit o.0 (subst (λ n. Stands f n (flat (map clause_bits e.clauses))) (sym o.1) (clauses_stand a hs f short c.args.at e fit s)) in
    absurd (subst (λ (r : Option (Row Piece 15)). Found r (λ xs. Pairs (Holds f) (listed xs) (unrepeated [] e.clauses))) c.in_err-clauses.was found)

pub returns-in_err-end : goal.returns-in_err-end
returns-in_err-end g c = λ e short fit s.
    let a = g.G.Algebra.meaning c.args.accepted.now.alg.now in
    let hs = kept_headers c.args.accepted.now.outline.now in
    let f = c.args.accepted.now.file.now in
    absurd (not_endless a hs f short c.args.at e fit s c.end_of_term.result c.in_err-end.was (rw (c.view.ensures.file, c.view.ensures.place) at c.end_of_term.ensures.reads))

pub returns-in_err-h : goal.returns-in_err-h
returns-in_err-h g c = λ e short fit s.
    let a = g.G.Algebra.meaning c.args.accepted.now.alg.now in
    let hs = kept_headers c.args.accepted.now.outline.now in
    let f = c.args.accepted.now.file.now in
    let end = ends a hs f short c.args.at e fit s c.end_of_term.result c.in_ok-end.end c.in_ok-end.was (rw (c.view.ensures.file, c.view.ensures.place) at c.end_of_term.ensures.reads) in
    absurd (not_missing a hs f short c.args.at e fit s c.between.result c.in_ok-end.end c.in_err-h.was end c.between.ensures)

pub returns : goal.returns
returns g c = λ e short fit s.
    let a = g.G.Algebra.meaning c.args.accepted.now.alg.now in
    let hs = kept_headers c.args.accepted.now.outline.now in
    let f = c.args.accepted.now.file.now in
    let o = opens a hs f short c.args.at e fit s c.open_body.result c.in_ok-body.body c.in_ok-body.was c.open_body.ensures.places in
    let found = c.unrepeated_clauses.ensures (scope (header_of e)) e.clauses short fit.fit o.0 (subst (λ n. Stands f n (flat (map clause_bits e.clauses))) (sym o.1) (clauses_stand a hs f short c.args.at e fit s)) in
    let end = ends a hs f short c.args.at e fit s c.end_of_term.result c.in_ok-end.end c.in_ok-end.was (rw (c.view.ensures.file, c.view.ensures.place) at c.end_of_term.ensures.reads) in (
      h_there a hs f short c.args.at e fit s c.between.result c.in_ok-h.h c.in_ok-end.end c.in_ok-h.was end c.between.ensures,
      subst (λ (r : Option (Row Piece 15)). Found r (λ xs. Pairs (Holds f) (listed xs) (unrepeated [] e.clauses))) c.in_ok-clauses.was found,
    )
