use Rattle.std.proofs.Common.{ap, ◌∙◌}
use Rattle.terms.specs.Shapes.{field_at}
use Rattle.terms.specs.Shown.{reached, kind_and_count}
use Rattle.terms.proofs.Fields.{value_no_sort, value_no_value, value_read}
use Rattle.terms.proofs.view.read_kind.Goals as goal

pub returns-in_err-sort-in-2-clause-reads : goal.returns-in_err-sort-in-2-clause-reads
returns-in_err-sort-in-2-clause-reads g c =
    let a = g.G.Algebra.meaning c.args.alg.now in
    let r = c.args.reader.now in
    let q = c.field.new.reader.at in
    let s = c.in_err-sort-in-2.ensures.reads ∙ ap (λ f. field_at 4 f q) c.field.ensures.same in
    ap (λ o. reached kind_and_count o c.field-in-2.new.reader.at) c.from_residual-in_err-sort-in-2.ensures ∙ value_no_sort a r.bytes.now r.at c.in_ok-field.field-0 q c.in_ok-field.ensures.reads c.in-2.is s

pub returns-in_err-value-in-2-clause-reads : goal.returns-in_err-value-in-2-clause-reads
returns-in_err-value-in-2-clause-reads g c =
    let a = g.G.Algebra.meaning c.args.alg.now in
    let r = c.args.reader.now in
    let q = c.field.new.reader.at in
    let u = c.field-in-2.new.reader.at in
    let s = c.in_ok-sort-in-2.ensures.reads ∙ ap (λ f. field_at 4 f q) c.field.ensures.same in
    let v = c.in_err-value-in-2.ensures.reads ∙ ap (λ f. field_at 8 f u) (c.field-in-2.ensures.same ∙ c.field.ensures.same) in
    ap (λ o. reached kind_and_count o c.field-in-2-2.new.reader.at) c.from_residual-in_err-value-in-2.ensures ∙ value_no_value a r.bytes.now r.at c.in_ok-field.field-0 q c.in_ok-field.ensures.reads c.in-2.is c.in_ok-sort-in-2.sort u s v

pub returns-in_ok-value-in-2-clause-reads : goal.returns-in_ok-value-in-2-clause-reads
returns-in_ok-value-in-2-clause-reads g c =
    let a = g.G.Algebra.meaning c.args.alg.now in
    let r = c.args.reader.now in
    let q = c.field.new.reader.at in
    let u = c.field-in-2.new.reader.at in
    let s = c.in_ok-sort-in-2.ensures.reads ∙ ap (λ f. field_at 4 f q) c.field.ensures.same in
    let v = c.in_ok-value-in-2.ensures.reads ∙ ap (λ f. field_at 8 f u) (c.field-in-2.ensures.same ∙ c.field.ensures.same) in
    value_read a r.bytes.now r.at c.in_ok-field.field-0 q c.in_ok-field.ensures.reads c.in-2.is c.in_ok-sort-in-2.sort u c.in_ok-value-in-2.value c.field-in-2-2.new.reader.at s v
