use Rattle.std.proofs.Common.{ℕ, ◌+◌, ◌∷◌, [], map, length, List, Some, None, Option, sym, refl, ap, ◌∙◌, arith, length-append}
use Rattle.std.proofs.lemmas.List.{map-append}
use Rattle.std.specs.Option.{option_map}
use Rattle.rows.specs.declared.row.Row.{Row}
use Rattle.rows.specs.Listed.{listed}
use Rattle.system.specs.declared.places.ClauseAt.{ClauseAt}
use Rattle.system.specs.Whole.{kept_headers}
use Rattle.system.specs.Walks.{clause_next, clause_told}
use Rattle.system.proofs.Found.{row_begin, row_next, row_none, row_end, clause_no_next, clause_next_of, no_clauses, clauses_found}
use Rattle.system.proofs.walk.Accepted.read_clauses.Goals as goal

pub loop-init : goal.loop-init
loop-init g c =
    let s = clause_next (g.G.Algebra.meaning c.args.self.now.alg.now) (kept_headers c.args.self.now.outline.now) c.args.self.now.file.now in
    rw c.clear.ensures (refl, row_begin s c.args.body.now.count c.args.body.now.next)

pub unwrap-requires : goal.unwrap-requires
unwrap-requires g c = c.push.ensures.room.1 (omega (arith, c.loop.invariant.0, c.args.body.now.few))

pub returns-in_err-clause : goal.returns-in_err-clause
returns-in_err-clause g c =
    let a = g.G.Algebra.meaning c.args.self.now.alg.now in
    let f = c.args.self.now.file.now in
    let hs = kept_headers c.args.self.now.outline.now in
    let l = c.loop in
    let n = row_none (clause_next a hs f) (map clause_told (listed l.clauses)) c.args.body.now.count l.counter l.next (omega arith) (clause_no_next a hs f l.next c.in_err-clause.ensures.places) in
    let r : Option (Row ClauseAt 15) = option_map (λ _. l.clauses) c.from_residual.result in
    let p = no_clauses a hs f c.args.body.now r (ap (option_map (λ _. l.clauses)) c.from_residual.ensures) (l.invariant.1 ∙ n) in
    record { places = p; found = clauses_found a hs f c.args.body.now r p }

pub returns-in_err-next : goal.returns-in_err-next
returns-in_err-next g c =
    let a = g.G.Algebra.meaning c.args.self.now.alg.now in
    let f = c.args.self.now.file.now in
    let hs = kept_headers c.args.self.now.outline.now in
    let l = c.loop in
    let k = c.in_ok-clause.clause in
    let n = row_none (clause_next a hs f) (map clause_told (listed l.clauses)) c.args.body.now.count l.counter l.next (omega arith) (clause_next_of a hs f l.next k None c.in_ok-clause.ensures.places c.in_err-next.ensures) in
    let new = c.push.new.self in
    let r : Option (Row ClauseAt 15) = option_map (λ _. new) c.from_residual-in_err-next.result in
    let p = no_clauses a hs f c.args.body.now r (ap (option_map (λ _. new)) c.from_residual-in_err-next.ensures) (l.invariant.1 ∙ n) in
    record { places = p; found = clauses_found a hs f c.args.body.now r p }

pub loop-preserved : goal.loop-preserved
loop-preserved g c =
    let a = g.G.Algebra.meaning c.args.self.now.alg.now in
    let f = c.args.self.now.file.now in
    let hs = kept_headers c.args.self.now.outline.now in
    let l = c.loop in
    let xs = listed l.clauses in
    let k = c.in_ok-clause.clause in
    let added = c.push.ensures.added (omega (arith, l.invariant.0, c.args.body.now.few)) in (
      ap length added ∙ length-append xs (k ∷ []) ∙ ap (λ k. k + 1) l.invariant.0,
      l.invariant.1 ∙ row_next (clause_next a hs f) (map clause_told xs) (map clause_told (listed c.push.new.self)) c.args.body.now.count l.counter l.next (clause_told k) c.in_ok-next.next (omega arith) (clause_next_of a hs f l.next k (Some c.in_ok-next.next) c.in_ok-clause.ensures.places c.in_ok-next.ensures) (ap (map clause_told) added ∙ map-append clause_told xs (k ∷ [])),
    )

pub returns : goal.returns
returns g c =
    let a = g.G.Algebra.meaning c.args.self.now.alg.now in
    let f = c.args.self.now.file.now in
    let hs = kept_headers c.args.self.now.outline.now in
    let l = c.loop in
    let n = row_end (clause_next a hs f) (map clause_told (listed l.clauses)) c.args.body.now.count l.counter l.next (omega arith) in
    let p = sym (ap (option_map {T = List (ℕ × (ℕ × ℕ)) × ℕ} (λ x. x.0)) (l.invariant.1 ∙ n)) in
    record { places = p; found = clauses_found a hs f c.args.body.now (Some l.clauses) p }
