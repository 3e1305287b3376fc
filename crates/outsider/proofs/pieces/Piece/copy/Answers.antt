use Rattle.std.proofs.Common.{◌≡◌, ◌<◌, sym, refl, ◌∙◌, subst, arith}
use Rattle.definitions.specs.Bits.{bits}
use Rattle.bits.specs.Writes.{Wrote, NoRoom}
use Rattle.theorems.proofs.Listing.{none_some, some_same}
use Rattle.outsider.proofs.Comparing.{Bitten}
use Rattle.outsider.proofs.Copying.{copied_first, the_bit, copied_next, copied_stop, copied_end}
use Rattle.outsider.proofs.pieces.Piece.copy.Goals as goal

pub loop-init : goal.loop-init
loop-init c = λ bs short h. copied_first c.args.file.now bs c.args.self.now _ c.args.writer.now refl refl h

pub returns-in_err-bit : goal.returns-in_err-bit
returns-in_err-bit c = λ bs short h.
    let l = c.loop.invariant bs short h in
    let p : Bitten c.loop.reader c.next.new.self c.next.result = record { reads = c.next.ensures.reads; same = c.next.ensures.same } in
    let t = the_bit l short (omega arith) c.next.new.self c.next.result p in
    none_some t.bit (sym c.in_err-bit.ensures.ok_part ∙ t.got)

pub returns-in_err-put : goal.returns-in_err-put
returns-in_err-put c = λ bs short h.
    let l = c.loop.invariant bs short h in
    let p : Bitten c.loop.reader c.next.new.self c.next.result = record { reads = c.next.ensures.reads; same = c.next.ensures.same } in
    let t = the_bit l short (omega arith) c.next.new.self c.next.result p in
    let is : c.in_ok-bit.bit ≡ t.bit = some_same c.in_ok-bit.bit t.bit (sym c.in_ok-bit.ensures.ok_part ∙ t.got) in
    let small : c.in_ok-bit.bit < 2 = subst (λ n. n < 2) (sym is) t.small in
    let r = c.from_residual-in_err-put in
    copied_stop l short (omega arith) c.next.new.self c.next.result p c.put.new.self r.result r.ensures.0
    (subst (λ n. NoRoom (bits 1 n) c.loop.writer) is (c.in_err-put.ensures.writes (omega arith) small))

pub loop-preserved : goal.loop-preserved
loop-preserved c = λ bs short h.
    let l = c.loop.invariant bs short h in
    let p : Bitten c.loop.reader c.next.new.self c.next.result = record { reads = c.next.ensures.reads; same = c.next.ensures.same } in
    let t = the_bit l short (omega arith) c.next.new.self c.next.result p in
    let is : c.in_ok-bit.bit ≡ t.bit = some_same c.in_ok-bit.bit t.bit (sym c.in_ok-bit.ensures.ok_part ∙ t.got) in
    let small : c.in_ok-bit.bit < 2 = subst (λ n. n < 2) (sym is) t.small in
    copied_next l short (omega arith) c.next.new.self c.next.result p c.put.new.self
    (subst (λ n. Wrote (bits 1 n) c.loop.writer c.put.new.self) is (c.in_ok-put.ensures.writes (omega arith) small))

pub returns : goal.returns
returns c = λ bs short h. copied_end (c.loop.invariant bs short h) (omega arith)
