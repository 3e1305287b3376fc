use Rattle.std.proofs.Common.{◌≡◌, Bool, ◌&&◌, length, sym, ap, ◌∙◌, rules, tests}
use Rattle.std.specs.List.{list_all}
use Rattle.std.proofs.lemmas.Bool.{le-leb}
use Rattle.std.proofs.lemmas.Iterator.Search.{all_from_yields_List}
use Rattle.std.proofs.lemmas.Iterator.{YieldsList-from_slice}
use Rattle.algebra.specs.Limits.{size_fits, sizes_fit}
use Rattle.algebra.specs.Lists.{each_all}
use Rattle.algebra.proofs.counting.calls.all_fit.Goals as goal

pub returns-then-sizes-le15 : goal.returns-then-sizes-le15
returns-then-sizes-le15 c =
    let s = c.args.sizes.now in
    let e : c.all.result ≡ list_all size_fits s = all_from_yields_List size_fits _ _ _ c.all.ensures.ran (YieldsList-from_slice s cc) (λ x b q k. search (rules, tests)) in
    e ∙ each_all size_fits s ∙ sym (ap (λ (b : Bool). b && sizes_fit s) (le-leb (length s) 15 c.if-sizes-le15.true))
