use Rattle.std.proofs.Common.{[], arith, sym, subst}
use Rattle.definitions.specs.Bits.{bits}
use Rattle.definitions.specs.Systems.{operation}
use Rattle.definitions.specs.Terms.{on_parameter}
use Rattle.definitions.specs.Written.{kind_bits}
use Rattle.terms.specs.declared.view.Term.{Term}
use Rattle.bits.specs.Writes.{Wrote}
use Rattle.bits.proofs.Left.{left_first, left_next, left_end}
use Rattle.passes.specs.Planned.{kind_by, kind_shown, KindFits}
use Rattle.passes.proofs.written.Edit.write_opening.Goals as goal

pub returns-in-Value-clause-writes : goal.returns-in-Value-clause-writes
returns-in-Value-clause-writes g c = λ narrow fits.
    let self = c.args.self.now in
    let small = subst (λ (t : Term). KindFits self.sorts.now (kind_shown t)) c.in-Value.is fits in
    subst (λ (t : Term). Wrote (kind_bits (on_parameter (kind_by self.sorts.now self.change.now) (kind_shown t))) c.args.writer.now c.write_value.new.writer) (sym c.in-Value.is) (c.in_ok-write_value-in-Value.ensures small.0)

pub returns-in-Operation-clause-writes : goal.returns-in-Operation-clause-writes
returns-in-Operation-clause-writes g c = λ narrow fits.
    let self = c.args.self.now in
    let o = c.in-Operation.op in
    let small = subst (λ (t : Term). KindFits self.sorts.now (kind_shown t)) c.in-Operation.is fits in
    let first = left_next {rest = bits 6 o} (bits 3 3) c.put-in-Operation.new.self (left_first (kind_bits (operation o)) c.args.writer.now) (c.in_ok-put-in-Operation.ensures.writes (omega arith) (omega arith)) in
    let whole = left_end (left_next {rest = []} (bits 6 o) c.put-in-Operation-2.new.self first (c.in_ok-put-in-Operation-2.ensures.writes (omega arith) small)) in
    subst (λ (t : Term). Wrote (kind_bits (on_parameter (kind_by self.sorts.now self.change.now) (kind_shown t))) c.args.writer.now c.put-in-Operation-2.new.self) (sym c.in-Operation.is) whole
