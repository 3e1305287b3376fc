use Rattle.std.proofs.Common.{◌+◌, sym, refl, ◌∙◌, arith}
use Rattle.std.proofs.lemmas.List.{take_more_set, length-set, drop-set-lt}
use Rattle.firstcome.proofs.Adding.{came_before, came_now, no_place}
use Rattle.firstcome.proofs.FirstCome.come.Goals as goal

pub returns-in-Some : goal.returns-in-Some
returns-in-Some g c = came_before _ c.args.x c.args.self.now c.in-Some.i (sym c.find.ensures ∙ c.in-Some.is)

pub returns-then-at-self : goal.returns-then-at-self
returns-then-at-self g c = no_place _ c.args.self.now (sym c.find.ensures ∙ c.in_default.is) (omega (arith, c.type_inv.self, c.if-at-self.true))

pub returns : goal.returns
returns g c =
    let xs = c.args.self.now.items.now in
    let k = c.args.self.now.len in
    came_now _ c.args.x c.args.self.now _ (sym c.find.ensures ∙ c.in_default.is) (take_more_set xs k c.args.x c.if-at-self.false) (length-set xs k c.args.x) (drop-set-lt (k + 1) xs k c.args.x (omega arith)) refl
