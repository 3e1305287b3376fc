use Rattle.std.proofs.Common.{◌-◌, subst}
use Rattle.terms.specs.declared.view.Kind.{Kind}
use Rattle.terms.specs.declared.view.Kind.TheVariants.{Operation}
use Rattle.terms.specs.Shown.{parts_of, Apt}
use Rattle.terms.proofs.Arms.{few_parts, arm}
use Rattle.terms.proofs.view.read_term.Goals as goal

pub split-requires : goal.split-requires
split-requires g c =
    let a = g.G.Algebra.meaning c.args.alg.now in
    let h = c.in_ok-kind.field-0 in
    few_parts a (g.met.G.Algebra.lawful c.args.alg.now) c.in-Operation.op h.parts (subst (λ (k : Kind). Apt a k h.parts) c.in-Operation.is c.in_ok-kind.ensures.apt)

pub returns-in_ok-arguments-in-Operation-clause-reads : goal.returns-in_ok-arguments-in-Operation-clause-reads
returns-in_ok-arguments-in-Operation-clause-reads g c =
    let a = g.G.Algebra.meaning c.args.alg.now in
    let d = c.args.depth in
    let h = c.in_ok-kind.field-0 in
    arm a c.args.view.bytes.now d c.args.view.at c.if-depth-eq0.false h c.in_ok-kind.ensures.reads (Operation c.in-Operation.op) c.in-Operation.is (parts_of a (d - 1) c.in_ok-arguments-in-Operation.arguments) c.in_ok-arguments-in-Operation.ensures.reads
