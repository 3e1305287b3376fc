use Rattle.std.proofs.Common.{ℕ, ◌+◌, ◌∷◌, [], length, Some, Option, sym, refl, ap, ◌∙◌, arith, length-append}
use Rattle.definitions.specs.Lists.{bind}
use Rattle.rows.specs.Listed.{listed}
use Rattle.system.specs.Walks.{filled, arguments_of}
use Rattle.system.proofs.Found.{term_next, terms_row, row_begin, row_next, row_none, row_end}
use Rattle.system.proofs.walk.Accepted.read_arguments.Goals as goal

pub loop-init : goal.loop-init
loop-init g c =
    let s = term_next (g.G.Algebra.meaning c.args.self.now.alg.now) c.args.self.now.file.now in
    rw c.clear.ensures (refl, row_begin s c.args.count c.args.at)

pub unwrap-requires : goal.unwrap-requires
unwrap-requires g c = c.push.ensures.room.1 (omega (arith, c.loop.invariant.0))

pub returns-in_err-next : goal.returns-in_err-next
returns-in_err-next g c =
    let a = g.G.Algebra.meaning c.args.self.now.alg.now in
    let f = c.args.self.now.file.now in
    let l = c.loop in
    let e = rw (c.view.ensures.file, c.view.ensures.place) at c.in_err-next.ensures.reads in
    let n = ap (λ (o : Option ℕ). bind {B = ℕ × ℕ} o (λ q. Some (l.next, q))) (sym e) in
    ap (λ r. arguments_of (filled c.push.new.self r)) c.from_residual.ensures ∙ sym (terms_row a f c.args.count c.args.at ∙ l.invariant.1 ∙ row_none (term_next a f) (listed l.places) c.args.count l.counter l.next (omega arith) n)

pub loop-preserved : goal.loop-preserved
loop-preserved g c =
    let s = term_next (g.G.Algebra.meaning c.args.self.now.alg.now) c.args.self.now.file.now in
    let l = c.loop in
    let xs = listed l.places in
    let added = c.push.ensures.added (omega (arith, l.invariant.0)) in
    let e = rw (c.view.ensures.file, c.view.ensures.place) at c.in_ok-next.ensures.reads in
    let n = ap (λ (o : Option ℕ). bind {B = ℕ × ℕ} o (λ q. Some (l.next, q))) (sym e) in (
      ap length added ∙ length-append xs (l.next ∷ []) ∙ ap (λ k. k + 1) l.invariant.0,
      l.invariant.1 ∙ row_next s xs (listed c.push.new.self) c.args.count l.counter l.next l.next c.in_ok-next.next (omega arith) n added,
    )

pub returns : goal.returns
returns g c =
    let a = g.G.Algebra.meaning c.args.self.now.alg.now in
    let f = c.args.self.now.file.now in
    let l = c.loop in
    sym (terms_row a f c.args.count c.args.at ∙ l.invariant.1 ∙ row_end (term_next a f) (listed l.places) c.args.count l.counter l.next (omega arith))
