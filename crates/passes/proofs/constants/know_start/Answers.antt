use Rattle.std.proofs.Common.{◌≡◌, ℕ, ◌<◌, List, map, length, set, take, replicate, Some, sym, ap, ◌∙◌, subst, arith, rules}
use Rattle.definitions.specs.Lists.{at}
use Rattle.terms.specs.Known.{Alike}
use Rattle.rows.specs.Listed.{listed_within}
use Rattle.system.specs.declared.outline.Equation.{Equation}
use Rattle.passes.specs.declared.constants.Known.TheVariants.{Unreached, Fresh}
use Rattle.passes.specs.Learned.{Learnt}
use Rattle.passes.proofs.Learns.{at_told, start_learnt, start_values}
use Rattle.passes.proofs.constants.know_start.Goals as goal

pub returns-in-Some : goal.returns-in-Some
returns-in-Some c = λ a f s out shaped.
    let o = c.args.outline.now in
    let n = o.start.equation in
    let t = c.in-Some.equation.now in
    let xs = c.as_slice.result.now in
    let here = at_told xs n t c.in-Some.ensures.lookup.3.0 c.in-Some.ensures.lookup.1 in
    let there = subst (λ (ys : List Equation). at ys n ≡ Some t) c.as_slice.ensures here in
    let front = ap (λ k. take k o.start.values) c.len.ensures.count ∙ start_values a s shaped f o t out there in
    let vs = c.known.result in
    let alike = subst (λ (xs : List ℕ). Alike vs (map Some xs)) front c.known.ensures in
    let long : length vs ≡ 15 = search rules in
    let few = listed_within o.equations in
    let low = o.present in
    let small : s.start < 31 = omega (arith, out.start) in
    subst (λ k. Learnt a s (set (replicate 31 Unreached) k (Fresh vs))) (sym out.start) (start_learnt a s shaped vs alike long small)
