use Rattle.std.proofs.Common.{◌≡◌, length, sym, refl, ap, ◌∙◌, rules}
use Rattle.passes.specs.declared.constants.Known.TheVariants.{Unreached, Fresh, Followed}
use Rattle.passes.proofs.Learning.{joins_first, joins_fresh, joins_same, joins_other, joins_as, pointwise_same, pointwise_other}
use Rattle.passes.proofs.constants.Known.joined.Goals as goal

pub returns-in-Unreached : goal.returns-in-Unreached
returns-in-Unreached c =
    let vs = c.args.values in
    let n : length vs ≡ 15 = search rules in
    joins_as c.args.self (Fresh vs) Unreached (Fresh vs) vs c.in-Unreached.is refl (joins_first vs n)

pub returns-in-Fresh : goal.returns-in-Fresh
returns-in-Fresh c =
    let vs = c.args.values in
    let old = c.in-Fresh.old in
    let n : length vs ≡ 15 = search rules in
    let m : length old ≡ 15 = search rules in
    joins_as c.args.self (Fresh c.shared.result) (Fresh old) _ vs c.in-Fresh.is (ap Fresh c.shared.ensures) (joins_fresh old vs m n)

pub returns-then-eq : goal.returns-then-eq
returns-then-eq c =
    let vs = c.args.values in
    let old = c.in-Followed.old in
    let n : length vs ≡ 15 = search rules in
    let m : length old ≡ 15 = search rules in
    let same = pointwise_same c.shared-less.result old (sym c.eq.ensures ∙ c.if-eq.true) in
    joins_as c.args.self (Followed old) (Followed old) (Followed old) vs c.in-Followed.is refl (joins_same old vs m n (sym c.shared-less.ensures ∙ same))

pub returns-else-eq : goal.returns-else-eq
returns-else-eq c =
    let vs = c.args.values in
    let old = c.in-Followed.old in
    let n : length vs ≡ 15 = search rules in
    let m : length old ≡ 15 = search rules in
    joins_as c.args.self (Fresh c.shared-less.result) (Followed old) _ vs c.in-Followed.is (ap Fresh c.shared-less.ensures)
    (joins_other old vs m n (λ e. pointwise_other c.shared-less.result old (sym c.eq.ensures ∙ c.if-eq.false) (c.shared-less.ensures ∙ e)))
