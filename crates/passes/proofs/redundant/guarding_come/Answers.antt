use Rattle.std.proofs.Common.{ℕ, length, arith}
use Rattle.definitions.specs.Systems.{Clause}
use Rattle.theorems.proofs.Gathered.{mem_has, has_mem}
use Rattle.rows.specs.Listed.{listed}
use Rattle.system.specs.Whole.{kept_headers}
use Rattle.system.specs.Walks.{ClauseOf}
use Rattle.passes.specs.Comes.{Occurring}
use Rattle.passes.proofs.Coming.{item_at, pair_at, pairs_long, front_first, front_next, front_end}
use Rattle.passes.proofs.redundant.guarding_come.Goals as goal

pub loop-clause-init : goal.loop-clause-init
loop-clause-init g c = λ sc ks pairs p room pass.
    let i = c.args.numbered.now.number in
    let n = length (listed c.args.numbered.now.equation.now.header.sorts) in
    front_first p (λ j (k : Clause). Occurring i n k.guard) ks c.args.list.now room

pub returns-in_err-occurring_come : goal.returns-in_err-occurring_come
returns-in_err-occurring_come g c = λ sc ks pairs p room pass.
    let a = g.G.Algebra.meaning c.args.accepted.now.alg.now in
    let f = c.args.accepted.now.file.now in
    let hs = kept_headers c.args.accepted.now.outline.now in
    let i = c.args.numbered.now.number in
    let n = length (listed c.args.numbered.now.equation.now.header.sorts) in
    let j = c.loop-clause.clause-index in
    let k = pair_at (λ x k. (u : ℕ) × ClauseOf a hs sc f k u x) c.args.clauses.now ks j c.clause-item.result pairs (item_at c.args.clauses.now j c.clause-item.result c.loop-clause-test.true c.clause-item.is) in
    let l = c.loop-clause.invariant sc ks pairs p room pass in
    absurd (c.in_err-occurring_come.ensures k.0.guard k.2.1.guard p l.room (λ x h. pass x (k.0, has_mem ks j k.0 k.1, h)))

pub loop-clause-preserved : goal.loop-clause-preserved
loop-clause-preserved g c = λ sc ks pairs p room pass.
    let a = g.G.Algebra.meaning c.args.accepted.now.alg.now in
    let f = c.args.accepted.now.file.now in
    let hs = kept_headers c.args.accepted.now.outline.now in
    let i = c.args.numbered.now.number in
    let n = length (listed c.args.numbered.now.equation.now.header.sorts) in
    let j = c.loop-clause.clause-index in
    let k = pair_at (λ x k. (u : ℕ) × ClauseOf a hs sc f k u x) c.args.clauses.now ks j c.clause-item.result pairs (item_at c.args.clauses.now j c.clause-item.result c.loop-clause-test.true c.clause-item.is) in
    let l = c.loop-clause.invariant sc ks pairs p room pass in
    front_next p (λ j (k : Clause). Occurring i n k.guard) ks j k.0 k.1 l (c.in_ok-occurring_come.ensures k.0.guard k.2.1.guard p l.room (λ x h. pass x (k.0, has_mem ks j k.0 k.1, h)))

pub returns : goal.returns
returns g c = λ sc ks pairs p room pass.
    let a = g.G.Algebra.meaning c.args.accepted.now.alg.now in
    let f = c.args.accepted.now.file.now in
    let hs = kept_headers c.args.accepted.now.outline.now in
    let i = c.args.numbered.now.number in
    let n = length (listed c.args.numbered.now.equation.now.header.sorts) in
    let long = pairs_long (λ x k. (u : ℕ) × ClauseOf a hs sc f k u x) c.args.clauses.now ks pairs in
    front_end p (λ j (k : Clause). Occurring i n k.guard) ks c.loop-clause.clause-index (omega arith) (λ x h. let q = mem_has h.1 in (q.0, h.0, q.1, h.2)) (c.loop-clause.invariant sc ks pairs p room pass)
