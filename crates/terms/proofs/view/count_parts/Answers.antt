use Rattle.std.proofs.Common.{Some, ap, ◌∙◌, arith}
use Rattle.definitions.specs.Lists.{bind}
use Rattle.terms.specs.Shapes.{field_at}
use Rattle.terms.proofs.Fields.{value_counted, two_counted}
use Rattle.terms.proofs.view.count_parts.Goals as goal

pub returns-in-2 : goal.returns-in-2
returns-in-2 g c =
    let q = c.field.new.reader.at in
    c.leaf-in-2.ensures ∙ ap (λ f. bind (field_at 12 f q) (λ n. Some (0, n.1))) c.field.ensures.same ∙
    value_counted (g.G.Algebra.meaning c.args.alg.now) c.args.view.bytes.now c.args.view.at c.in_ok-field.field-0 q c.in_ok-field.ensures.reads c.in-2.is

pub returns-in_default : goal.returns-in_default
returns-in_default g c = two_counted (g.G.Algebra.meaning c.args.alg.now) c.args.view.bytes.now c.args.view.at c.in_ok-field.field-0 c.field.new.reader.at c.in_ok-field.ensures.reads (omega arith)
