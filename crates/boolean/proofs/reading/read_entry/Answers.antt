use Rattle.std.proofs.Common.{sym, refl, ap, ◌∙◌, subst, rules}
use Rattle.definitions.specs.Reading.{take}
use Rattle.definitions.specs.Boolean.{said, read_token}
use Rattle.bits.proofs.InRow.{passed}
use Rattle.boolean.specs.Steps.{assigned}
use Rattle.boolean.specs.Files.{EntryTold}
use Rattle.boolean.proofs.Parts.{unmapped, unstopped}
use Rattle.boolean.proofs.Entering.{entry_clashes, entry_stops, entry_read}
use Rattle.boolean.proofs.reading.read_entry.Goals as goal

pub returns-then-not-suits-clause-told : goal.returns-then-not-suits-clause-told
returns-then-not-suits-clause-told c vs d =
    let r = c.in_ok-field.ensures.reads in
    let s = c.in_ok-rank.ensures.reads in
    entry_clashes c.args.count vs c.args.cursor.now.bytes.now c.args.variables.now d c.args.cursor.now.at c.in_ok-field.field-0 c.field.new.self.at c.in_ok-rank.rank c.field-2.new.self.at
    r.0 (s.0 ∙ ap (λ f. take 5 f c.field.new.self.at) r.1) c.from_bit-sign.result c.from_bit-sign.ensures c.in_ok-rank.ensures.small c.suits.result c.suits.ensures c.if-not-suits.true

pub returns-in_err-read_body-clause-told : goal.returns-in_err-read_body-clause-told
returns-in_err-read_body-clause-told c vs d =
    let n = c.args.count in
    let t = c.field-2.new.self.at in
    let r = c.in_ok-field.ensures.reads in
    let s = c.in_ok-rank.ensures.reads in
    let e = c.in_err-read_body.field-0.0 in
    subst (EntryTold n vs c.args.cursor.now c.read_body.new.cursor c.args.variables.now) (sym (passed c.from_residual-in_err-read_body.result e c.from_residual-in_err-read_body.ensures.1))
    (entry_stops n vs c.args.cursor.now.bytes.now c.args.variables.now d c.args.cursor.now.at c.in_ok-field.field-0 c.field.new.self.at c.in_ok-rank.rank t
    r.0 (s.0 ∙ ap (λ f. take 5 f c.field.new.self.at) r.1) c.from_bit-sign.result c.from_bit-sign.ensures c.in_ok-rank.ensures.small c.suits.result c.suits.ensures c.if-not-suits.false e.reason e.place
    (unstopped (λ p. said p (assigned c.args.truths.now)) e.reason e.place (read_token n 8 c.field-2.new.self.bytes.now t) c.in_err-read_body.ensures.0 ∙ ap (λ f. read_token n 8 f t) (s.1 ∙ r.1)))

pub returns-clause-told : goal.returns-clause-told
returns-clause-told c vs d =
    let n = c.args.count in
    let t = c.field-2.new.self.at in
    let r = c.in_ok-field.ensures.reads in
    let s = c.in_ok-rank.ensures.reads in
    let m = unmapped (λ p. said p (assigned c.args.truths.now)) c.in_ok-read_body.field-0 c.read_body.new.cursor.at (read_token n 8 c.field-2.new.self.bytes.now t) c.in_ok-read_body.ensures.0 in
    entry_read n vs c.args.cursor.now.bytes.now c.args.variables.now d c.args.cursor.now.at c.in_ok-field.field-0 c.field.new.self.at c.in_ok-rank.rank t
    r.0 (s.0 ∙ ap (λ f. take 5 f c.field.new.self.at) r.1) c.from_bit-sign.result c.from_bit-sign.ensures c.in_ok-rank.ensures.small c.suits.result c.suits.ensures c.if-not-suits.false
    m.0 c.read_body.new.cursor.at (ap (λ f. read_token n 8 f t) (sym (s.1 ∙ r.1)) ∙ m.1) (search rules) _ c.push.new.self (c.push.ensures.added c.requires.few) refl refl
