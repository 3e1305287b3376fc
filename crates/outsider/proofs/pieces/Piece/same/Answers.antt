use Rattle.std.proofs.Common.{sym, refl, ◌∙◌, arith}
use Rattle.outsider.proofs.Comparing.{Bitten, other_long, alike_first, alike_next, alike_other, alike_end}
use Rattle.outsider.proofs.pieces.Piece.same.Goals as goal

pub returns-then-self-other : goal.returns-then-self-other
returns-then-self-other c = λ bs cs short h k. other_long bs cs (λ e. c.if-self-other.true (h.count ∙ e ∙ sym k.count))

pub loop-init : goal.loop-init
loop-init c = λ bs cs short h k. alike_first c.args.file.now bs cs c.args.self.now c.args.other.now _ _ refl refl refl refl c.if-self-other.false h k

pub returns-then-ne : goal.returns-then-ne
returns-then-ne c = λ bs cs short h k.
    let l = c.loop.invariant bs cs short h k in
    let ours : Bitten c.loop.ours c.next.new.self c.next.result = record { reads = c.next.ensures.reads; same = c.next.ensures.same } in
    let theirs : Bitten c.loop.theirs c.next-in-loop.new.self c.next-in-loop.result = record { reads = c.next-in-loop.ensures.reads; same = c.next-in-loop.ensures.same } in
    alike_other l short (omega arith) c.next.new.self c.next-in-loop.new.self c.next.result c.next-in-loop.result ours theirs (sym c.if-ne.true ∙ c.ne.ensures)

pub loop-preserved : goal.loop-preserved
loop-preserved c = λ bs cs short h k.
    let l = c.loop.invariant bs cs short h k in
    let ours : Bitten c.loop.ours c.next.new.self c.next.result = record { reads = c.next.ensures.reads; same = c.next.ensures.same } in
    let theirs : Bitten c.loop.theirs c.next-in-loop.new.self c.next-in-loop.result = record { reads = c.next-in-loop.ensures.reads; same = c.next-in-loop.ensures.same } in
    alike_next l short (omega arith) c.next.new.self c.next-in-loop.new.self c.next.result c.next-in-loop.result ours theirs (sym c.if-ne.false ∙ c.ne.ensures)

pub returns : goal.returns
returns c = λ bs cs short h k. alike_end (c.loop.invariant bs cs short h k) (omega arith)
