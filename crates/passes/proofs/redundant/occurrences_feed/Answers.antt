use Rattle.std.proofs.Common.{ℕ, length, arith}
use Rattle.definitions.specs.Systems.{Occurrence}
use Rattle.theorems.proofs.Gathered.{mem_has, has_mem}
use Rattle.rows.specs.Listed.{listed}
use Rattle.firstcome.specs.Coming.{listed as came}
use Rattle.system.specs.Walks.{OccurrenceOf}
use Rattle.passes.specs.Comes.{Has, Feeding}
use Rattle.passes.proofs.Coming.{item_at, pair_at, pairs_long, brought_as, front_first, front_next, front_end}
use Rattle.passes.proofs.ComingR.{feeding_up}
use Rattle.passes.proofs.redundant.occurrences_feed.Goals as goal

pub loop-occurrence-init : goal.loop-occurrence-init
loop-occurrence-init g c = λ os pairs p room pass.
    let i = c.args.numbered.now.number in
    let n = length (listed c.args.numbered.now.equation.now.header.sorts) in
    front_first p (λ j (o : Occurrence). Feeding i n o (Has (came c.args.list.now))) os c.args.list.now room

pub returns-in_err-feeding_come : goal.returns-in_err-feeding_come
returns-in_err-feeding_come g c = λ os pairs p room pass.
    let a = g.G.Algebra.meaning c.args.accepted.now.alg.now in
    let f = c.args.accepted.now.file.now in
    let i = c.args.numbered.now.number in
    let n = length (listed c.args.numbered.now.equation.now.header.sorts) in
    let j = c.loop-occurrence.occurrence-index in
    let o = pair_at (λ x o. (u : ℕ) × OccurrenceOf a f o u x) c.args.occurrences.now os j c.occurrence-item.result pairs (item_at c.args.occurrences.now j c.occurrence-item.result c.loop-occurrence-test.true c.occurrence-item.is) in
    let l = c.loop-occurrence.invariant os pairs p room pass in
    absurd (c.in_err-feeding_come.ensures o.0 o.2.0 o.2.1 p l.room (λ x w. pass x (o.0, has_mem os j o.0 o.1, w)))

pub loop-occurrence-preserved : goal.loop-occurrence-preserved
loop-occurrence-preserved g c = λ os pairs p room pass.
    let a = g.G.Algebra.meaning c.args.accepted.now.alg.now in
    let f = c.args.accepted.now.file.now in
    let i = c.args.numbered.now.number in
    let n = length (listed c.args.numbered.now.equation.now.header.sorts) in
    let j = c.loop-occurrence.occurrence-index in
    let o = pair_at (λ x o. (u : ℕ) × OccurrenceOf a f o u x) c.args.occurrences.now os j c.occurrence-item.result pairs (item_at c.args.occurrences.now j c.occurrence-item.result c.loop-occurrence-test.true c.occurrence-item.is) in
    let l = c.loop-occurrence.invariant os pairs p room pass in
    let b = c.in_ok-feeding_come.ensures o.0 o.2.0 o.2.1 p l.room (λ x w. pass x (o.0, has_mem os j o.0 o.1, w)) in
    front_next p (λ j (o : Occurrence). Feeding i n o (Has (came c.args.list.now))) os j o.0 o.1 l (brought_as p (feeding_up (Has (came c.args.list.now)) (Has (came c.loop-occurrence.list)) i n o.0 (λ y h. (h.0, l.kept h.0 y h.1))) b)

pub returns : goal.returns
returns g c = λ os pairs p room pass.
    let a = g.G.Algebra.meaning c.args.accepted.now.alg.now in
    let f = c.args.accepted.now.file.now in
    let i = c.args.numbered.now.number in
    let n = length (listed c.args.numbered.now.equation.now.header.sorts) in
    let long = pairs_long (λ x o. (u : ℕ) × OccurrenceOf a f o u x) c.args.occurrences.now os pairs in
    front_end p (λ j (o : Occurrence). Feeding i n o (Has (came c.args.list.now))) os c.loop-occurrence.occurrence-index (omega arith) (λ x w. let q = mem_has w.1 in (q.0, w.0, q.1, w.2)) (c.loop-occurrence.invariant os pairs p room pass)
