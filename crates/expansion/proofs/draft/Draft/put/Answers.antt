use Rattle.std.proofs.Common.{refl}
use Rattle.definitions.specs.Bits.{bits}
use Rattle.bits.proofs.Written.{bits_are}
use Rattle.expansion.specs.declared.draft.Draft.{Draft}
use Rattle.expansion.proofs.Drafting.{puts_by, put_goes, on_long}
use Rattle.expansion.proofs.draft.Draft.put.Goals as goal

pub returns-then-not-self : goal.returns-then-not-self
returns-then-not-self c = λ narrow fits.
    let old = c.args.self.now in
    let new : Draft = record { list = old.list; writer = c.put.new.self; too_long = c.is_err-self.result } in
    let cs = bits c.args.width c.args.value in
    puts_by cs old new (bits_are c.args.width c.args.value) refl
    (put_goes cs old.writer c.put.new.self old.too_long c.is_err-self.result c.put.result c.if-not-self.true c.is_err-self.ensures.value (c.put.ensures.writes narrow fits))

pub returns-else-not-self : goal.returns-else-not-self
returns-else-not-self c = λ narrow fits.
    let old = c.args.self.now in
    let cs = bits c.args.width c.args.value in
    puts_by cs old old (bits_are c.args.width c.args.value) refl
    (on_long cs old.writer old.writer old.too_long old.too_long c.if-not-self.false c.if-not-self.false)
