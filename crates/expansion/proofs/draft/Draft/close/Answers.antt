use Rattle.std.proofs.Common.{◌≡◌, ◌-◌, ◌++◌, length, refl, ap, ◌∙◌, subst, arith}
use Rattle.definitions.specs.Bits.{bits}
use Rattle.bits.specs.declared.writer.BitWriter.{BitWriter}
use Rattle.bits.specs.Put.{overwritten, closed}
use Rattle.bits.specs.Writes.{NoRoom}
use Rattle.expansion.specs.Drafts.{WroteOn}
use Rattle.expansion.proofs.Counting.{counted, too_many, has_room, wrote_ok, wrote_not}
use Rattle.expansion.proofs.draft.Draft.close.Goals as goal
use Rattle.expansion.proofs.draft.Draft.close.Goals.{then-self-via-then-self, then-self-via-else-self+then-variables-eq0, then-self-via-else-self+else-variables-eq0+then-variables-gt4096}

pub returns-then-self-clause-closes : goal.returns-then-self-clause-closes
returns-then-self-clause-closes c = λ s first places ns rest d z some.
    let count = d.count in
    let slice = d.slice in
    let few = d.few in
    let within = c.args.self.now.list.within in
    elim c.then-self.branch [
      | then-self-via-then-self w ↦ too_many (length ns - 1) rest first z (subst (WroteOn (bits 12 0 ++ rest) first c.args.self.now.writer) w.if-self.true d.written)
      | then-self-via-else-self+then-variables-eq0 w ↦ let e = w.if-variables-eq0.true in absurd (omega arith)
      | then-self-via-else-self+else-variables-eq0+then-variables-gt4096 w ↦ let e = w.if-variables-gt4096.true in absurd (omega arith)
    ]

pub returns-in_err-ok-clause-closes : goal.returns-in_err-ok-clause-closes
returns-in_err-ok-clause-closes c = λ s first places ns rest d z some.
    let old = c.args.self.now in
    let v = old.list.len - 1 in
    let few = d.few in
    let count = d.count in
    let slice = d.slice in
    let within = old.list.within in
    let back : BitWriter = record { bytes = old.writer.bytes; at = 0 } in
    let full : NoRoom (bits 12 v) back = wrote_not (bits 12 v) back c.put.new.self c.put.result c.in_err-ok.ensures.variant (c.put.ensures.writes (omega arith) (omega arith)) in
    has_room v rest first old.writer back z d.short (subst (WroteOn (bits 12 0 ++ rest) first old.writer) c.if-self.false d.written) refl refl full

pub returns-clause-closes : goal.returns-clause-closes
returns-clause-closes c = λ s first places ns rest d z some.
    let old = c.args.self.now in
    let v = length ns - 1 in
    let few = d.few in
    let count = d.count in
    let slice = d.slice in
    let within = old.list.within in
    let back : BitWriter = record { bytes = old.writer.bytes; at = 0 } in
    let e : old.list.len - 1 ≡ v = omega arith in
    let wr = subst (WroteOn (bits 12 0 ++ rest) first old.writer) c.if-self.false d.written in
    let done = wrote_ok (bits 12 (old.list.len - 1)) back c.put.new.self c.put.result c.in_ok-ok.ensures.variant (c.put.ensures.writes (omega arith) (omega arith)) in
    let k = counted v rest first.bytes.now c.close.new.self.bytes.now c.close.result first old.writer refl d.bytes d.are z wr (c.close.ensures.padded ∙ ap (λ b. closed b old.writer.at) (done.bytes ∙ ap (λ n. overwritten old.writer.bytes.now 0 (bits 12 n)) e)) c.close.ensures.count in
    record { long = k.long; within = k.within; file = k.is }
