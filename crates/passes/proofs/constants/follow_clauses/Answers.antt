use Rattle.std.proofs.Common.{◌+◌, subst, arith}
use Rattle.definitions.specs.ReadSystem.{read_clause}
use Rattle.definitions.specs.Constants.{clause_brings}
use Rattle.system.specs.Whole.{kept_headers}
use Rattle.system.proofs.ByPlace.{Ahead, ahead_begin, ahead_next, repeated_length}
use Rattle.passes.proofs.Walking.{same_end, leaving_first, leaving_next, leaving_end}
use Rattle.passes.proofs.constants.follow_clauses.Goals as goal

pub loop-init : goal.loop-init
loop-init g c = (
  omega arith,
  λ ks s cs q short p v read.
      let a = g.G.Algebra.meaning c.args.accepted.now.alg.now in
      let r = read_clause a (kept_headers c.args.accepted.now.outline.now) s in (
        ahead_begin r c.args.accepted.now.file.now c.args.body.now.count c.args.body.now.next cs q read,
        leaving_first (clause_brings a ks) cs c.args.knowledge.now,
      ),
)

pub loop-preserved : goal.loop-preserved
loop-preserved g c = (
  omega (arith, c.follow_clause.ensures.less, c.loop.invariant.0),
  λ ks s cs q short p v read.
      let a = g.G.Algebra.meaning c.args.accepted.now.alg.now in
      let r = read_clause a (kept_headers c.args.accepted.now.outline.now) s in
      let f = c.args.accepted.now.file.now in
      let n = c.args.body.now.count in
      let j = c.loop.counter in
      let l = c.loop.invariant.1 ks s cs q short p v read in
      let (k, (u, (is, (here, more)))) = ahead_next r f n cs q j c.loop.next (omega arith) l.0 in (
        subst (Ahead r f n cs q (j + 1)) (same_end c.in_ok-next.next u (c.in_ok-next.ensures.behind s k u short here)) more,
        leaving_next (clause_brings a ks) cs j k c.args.knowledge.now c.loop.knowledge c.follow_clause.new.knowledge is l.1 (c.in_ok-next.ensures.brings ks s k u short p v here),
      ),
)

pub returns-in_err-next-clause-less : goal.returns-in_err-next-clause-less
returns-in_err-next-clause-less g c = omega (arith, c.follow_clause.ensures.less, c.loop.invariant.0)

pub returns-in_err-next-clause-brings : goal.returns-in_err-next-clause-brings
returns-in_err-next-clause-brings g c = λ ks s cs q short p v read.
    let r = read_clause (g.G.Algebra.meaning c.args.accepted.now.alg.now) (kept_headers c.args.accepted.now.outline.now) s in
    let l = c.loop.invariant.1 ks s cs q short p v read in
    let (k, (u, (is, (here, more)))) = ahead_next r c.args.accepted.now.file.now c.args.body.now.count cs q c.loop.counter c.loop.next (omega arith) l.0 in
    absurd (c.in_err-next.ensures.brings ks s k u short p v here)

pub returns-clause-less : goal.returns-clause-less
returns-clause-less g c = c.loop.invariant.0

pub returns-clause-brings : goal.returns-clause-brings
returns-clause-brings g c = λ ks s cs q short p v read.
    let a = g.G.Algebra.meaning c.args.accepted.now.alg.now in
    let r = read_clause a (kept_headers c.args.accepted.now.outline.now) s in
    let long = repeated_length r c.args.accepted.now.file.now c.args.body.now.count c.args.body.now.next cs q read in
    leaving_end (clause_brings a ks) cs c.loop.counter c.args.knowledge.now c.loop.knowledge (omega arith) (c.loop.invariant.1 ks s cs q short p v read).1
