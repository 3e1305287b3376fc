use Rattle.std.proofs.Common.{◌≡◌, ◌+◌, true, length, refl, subst, arith, sym, ◌∙◌}
use Rattle.definitions.specs.ReadSystem.{read_clause}
use Rattle.theorems.proofs.Listing.{none_some, some_same}
use Rattle.rows.specs.Listed.{listed}
use Rattle.firstcome.specs.Coming.{listed as came}
use Rattle.system.specs.Whole.{kept_headers}
use Rattle.passes.specs.Comes.{Has, Pointing}
use Rattle.passes.proofs.Coming.{brought_as, front_first, front_next, front_end}
use Rattle.passes.proofs.ComingR.{pointing_up, clause_points, points_clause}
use Rattle.system.proofs.ByPlace.{Ahead, ahead_begin, ahead_next, repeated_length}
use Rattle.passes.proofs.Walking.{not_closed, walked}
use Rattle.passes.proofs.redundant.clauses_feed.Goals as goal

pub loop-init : goal.loop-init
loop-init g c = λ sc ks q short read.
    let r = read_clause (g.G.Algebra.meaning c.args.accepted.now.alg.now) (kept_headers c.args.accepted.now.outline.now) sc in
    let i = c.args.numbered.now.number in
    let n = length (listed c.args.numbered.now.equation.now.header.sorts) in (
      ahead_begin r c.args.accepted.now.file.now c.args.body.now.count c.args.body.now.next ks q read,
      λ p room pass. front_first p (λ j k. Pointing i n k.occurrences (Has (came c.args.list.now))) ks c.args.list.now room,
    )

pub returns-in_err-clause : goal.returns-in_err-clause
returns-in_err-clause g c = λ sc ks q short read p room pass.
    let a = g.G.Algebra.meaning c.args.accepted.now.alg.now in
    let f = c.args.accepted.now.file.now in
    let hs = kept_headers c.args.accepted.now.outline.now in
    let j = c.loop.counter in
    let l = c.loop.invariant sc ks q short read in
    let (k, (u, (is, (here, more)))) = ahead_next (read_clause a hs sc) f c.args.body.now.count ks q j c.loop.next (omega arith) l.0 in
    absurd (not_closed a hs f short sc c.loop.next k u here c.open_clause.result c.open_clause.ensures.found c.in_err-clause.ensures.ok_part)

pub returns-in_err-next : goal.returns-in_err-next
returns-in_err-next g c = λ sc ks q short read p room pass.
    let a = g.G.Algebra.meaning c.args.accepted.now.alg.now in
    let f = c.args.accepted.now.file.now in
    let hs = kept_headers c.args.accepted.now.outline.now in
    let j = c.loop.counter in
    let l = c.loop.invariant sc ks q short read in
    let (k, (u, (is, (here, more)))) = ahead_next (read_clause a hs sc) f c.args.body.now.count ks q j c.loop.next (omega arith) l.0 in
    let w = walked a hs f short sc c.loop.next k u here c.open_clause.result c.open_clause.ensures.found c.in_ok-clause.clause c.in_ok-clause.ensures.ok_part
    c.read_occurrences.new.occurrences c.read_occurrences.result c.read_occurrences.ensures.found (listed c.read_occurrences.new.occurrences) refl in
    none_some u (sym c.in_err-next.ensures.ok_part ∙ w.0)

pub returns-in_err-occurrences_feed : goal.returns-in_err-occurrences_feed
returns-in_err-occurrences_feed g c = λ sc ks q short read p room pass.
    let a = g.G.Algebra.meaning c.args.accepted.now.alg.now in
    let f = c.args.accepted.now.file.now in
    let hs = kept_headers c.args.accepted.now.outline.now in
    let i = c.args.numbered.now.number in
    let n = length (listed c.args.numbered.now.equation.now.header.sorts) in
    let j = c.loop.counter in
    let l = c.loop.invariant sc ks q short read in
    let (k, (u, (is, (here, more)))) = ahead_next (read_clause a hs sc) f c.args.body.now.count ks q j c.loop.next (omega arith) l.0 in
    let w = walked a hs f short sc c.loop.next k u here c.open_clause.result c.open_clause.ensures.found c.in_ok-clause.clause c.in_ok-clause.ensures.ok_part
    c.read_occurrences.new.occurrences c.read_occurrences.result c.read_occurrences.ensures.found c.as_slice.result.now c.as_slice.ensures in
    absurd (c.in_err-occurrences_feed.ensures k.occurrences w.1 p (l.1 p room pass).room (λ x h. pass x (clause_points (λ y. p y ≡ true) i n ks j k is x h)))

pub loop-preserved : goal.loop-preserved
loop-preserved g c = λ sc ks q short read.
    let a = g.G.Algebra.meaning c.args.accepted.now.alg.now in
    let f = c.args.accepted.now.file.now in
    let hs = kept_headers c.args.accepted.now.outline.now in
    let i = c.args.numbered.now.number in
    let n = length (listed c.args.numbered.now.equation.now.header.sorts) in
    let j = c.loop.counter in
    let l = c.loop.invariant sc ks q short read in
    let (k, (u, (is, (here, more)))) = ahead_next (read_clause a hs sc) f c.args.body.now.count ks q j c.loop.next (omega arith) l.0 in
    let w = walked a hs f short sc c.loop.next k u here c.open_clause.result c.open_clause.ensures.found c.in_ok-clause.clause c.in_ok-clause.ensures.ok_part
    c.read_occurrences.new.occurrences c.read_occurrences.result c.read_occurrences.ensures.found c.as_slice.result.now c.as_slice.ensures in (
      subst (Ahead (read_clause a hs sc) f c.args.body.now.count ks q (j + 1)) (some_same u c.in_ok-next.next (sym w.0 ∙ c.in_ok-next.ensures.ok_part)) more,
      λ p room pass.
          let m = l.1 p room pass in
          let b = c.in_ok-occurrences_feed.ensures k.occurrences w.1 p m.room (λ x h. pass x (clause_points (λ y. p y ≡ true) i n ks j k is x h)) in
          front_next p (λ j k. Pointing i n k.occurrences (Has (came c.args.list.now))) ks j k is m
          (brought_as p (pointing_up (Has (came c.args.list.now)) (Has (came c.loop.list)) i n k.occurrences (λ y h. (h.0, m.kept h.0 y h.1))) b),
    )

pub returns : goal.returns
returns g c = λ sc ks q short read p room pass.
    let r = read_clause (g.G.Algebra.meaning c.args.accepted.now.alg.now) (kept_headers c.args.accepted.now.outline.now) sc in
    let i = c.args.numbered.now.number in
    let n = length (listed c.args.numbered.now.equation.now.header.sorts) in
    let long = repeated_length r c.args.accepted.now.file.now c.args.body.now.count c.args.body.now.next ks q read in
    front_end p (λ j k. Pointing i n k.occurrences (Has (came c.args.list.now))) ks c.loop.counter (omega arith) (points_clause (Has (came c.args.list.now)) i n ks) ((c.loop.invariant sc ks q short read).1 p room pass)
