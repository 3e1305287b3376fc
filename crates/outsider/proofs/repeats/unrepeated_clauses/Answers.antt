use Rattle.std.proofs.Common.{◌≡◌, ◌+◌, [], ◌∷◌, length, length-append, sym, ap, ◌∙◌, subst, arith}
use Rattle.rows.specs.Listed.{listed}
use Rattle.system.specs.Whole.{kept_headers}
use Rattle.system.specs.Walks.{Pairs}
use Rattle.outsider.specs.Pieces.{Holds}
use Rattle.outsider.proofs.repeats.unrepeated_clauses.Goals.{then-not-repeats_one, else-not-repeats_one}
use Rattle.theorems.proofs.Listing.{none_some, some_same}
use Rattle.outsider.proofs.Walking.{Walking, walking_first, upcoming, its_bits, its_end, its_piece, walking_skip, walking_add, walking_end}
use Rattle.outsider.proofs.repeats.unrepeated_clauses.Goals as goal

pub loop-init : goal.loop-init
loop-init g c =
    let a = g.G.Algebra.meaning c.args.accepted.now.alg.now in
    let hs = kept_headers c.args.accepted.now.outline.now in
    let f = c.args.accepted.now.file.now in
    let body = c.args.body.now in
    rw c.new-stay.ensures (omega arith, λ k ks short fit e s. walking_first a hs k f ks body.count body.next fit e s)

pub returns-in_err-end : goal.returns-in_err-end
returns-in_err-end g c = λ k ks short fit e s.
    let l = c.loop.invariant.1 k ks short fit e s in
    none_some _ (sym c.in_err-end.was ∙ its_end l (omega arith) short c.end_of_clause.result c.end_of_clause.ensures.found)

pub returns-in_err-clause : goal.returns-in_err-clause
returns-in_err-clause g c = λ k ks short fit e s.
    let l = c.loop.invariant.1 k ks short fit e s in
    let end = some_same _ _ (sym c.in_ok-end.was ∙ its_end l (omega arith) short c.end_of_clause.result c.end_of_clause.ensures.found) in
    none_some _ (sym c.in_err-clause.was ∙ c.between.ensures (length (its_bits l (omega arith))) end)

pub loop-preserved : goal.loop-preserved
loop-preserved g c = (
  elim c.if-not-repeats_one.branch [
    | then-not-repeats_one w ↦
        let n = ap (λ r. length (listed r)) w.stay-is ∙ ap length (w.push.ensures.added (omega (arith, c.loop.invariant.0, c.args.body.now.few))) ∙ length-append (listed c.loop.stay) (c.in_ok-clause.clause ∷ []) in
        omega (arith, c.loop.invariant.0)
    | else-not-repeats_one w ↦ let n = ap (λ r. length (listed r)) w.stay-is in omega (arith, c.loop.invariant.0)
  ],
  λ k ks short fit e s.
      let l = c.loop.invariant.1 k ks short fit e s in
      let end = some_same _ _ (sym c.in_ok-end.was ∙ its_end l (omega arith) short c.end_of_clause.result c.end_of_clause.ensures.found) in
      let len = length (its_bits l (omega arith)) in
      let x : c.in_ok-clause.clause ≡ record { at = c.loop.at; count = len } = some_same _ _ (sym c.in_ok-clause.was ∙ c.between.ensures len end) in
      let holds : Holds c.args.accepted.now.file.now c.in_ok-clause.clause (upcoming l (omega arith)).clause = subst (λ y. Holds c.args.accepted.now.file.now y (upcoming l (omega arith)).clause) (sym x) (its_piece l (omega arith)) in
      let found = c.repeats_one.ensures (upcoming l (omega arith)).clause l.stay short holds (subst (λ xs. Pairs (Holds c.args.accepted.now.file.now) xs l.stay) (sym c.as_slice.ensures) l.pairs) in
      elim c.if-not-repeats_one.branch [
        | then-not-repeats_one w ↦
            let more = ap listed w.stay-is ∙ w.push.ensures.added (omega (arith, c.loop.invariant.0, c.args.body.now.few)) in
            walking_add l (omega arith) c.in_ok-end.end end c.in_ok-clause.clause holds (listed c.if-not-repeats_one.stay) more (sym w.if-not-repeats_one.true ∙ found)
        | else-not-repeats_one w ↦
            let a = g.G.Algebra.meaning c.args.accepted.now.alg.now in
            let hs = kept_headers c.args.accepted.now.outline.now in
            let f = c.args.accepted.now.file.now in
            let body = c.args.body.now in
            subst (λ xs. Walking a hs k f ks body.count (c.loop.counter + 1) c.in_ok-end.end xs) (sym (ap listed w.stay-is)) (walking_skip l (omega arith) c.in_ok-end.end end (sym w.if-not-repeats_one.false ∙ found))
      ],
)

pub returns : goal.returns
returns g c = λ k ks short fit e s. walking_end (c.loop.invariant.1 k ks short fit e s) (omega arith)
