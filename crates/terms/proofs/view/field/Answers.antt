use Rattle.std.proofs.Common.{◌^◌, ◌≤◌, Some, None, refl, ap, ◌∙◌, arith, lit≤}
use Rattle.std.proofs.Math.Nat.{pow-le-pow_right}
use Rattle.terms.specs.Shown.{reached}
use Rattle.terms.proofs.Fields.{field_came}
use Rattle.terms.proofs.view.field.Goals as goal

pub overflow_cast-result : goal.overflow_cast-result
overflow_cast-result c = let h : 2 ^ c.args.width ≤ 256 = pow-le-pow_right (lit≤ tt) c.requires in omega (arith, c.in_ok-value.ensures.small)

pub returns-in_err-value-clause-reads : goal.returns-in_err-value-clause-reads
returns-in_err-value-clause-reads c =
    ap (λ o. reached (λ n. n) o c.next.new.self.at) c.from_residual.ensures ∙
    field_came c.args.width c.args.reader.now.bytes.now c.args.reader.now.at c.next.new.self.at None (λ h. c.in_err-value.ensures.reads h (omega arith)) (λ _. refl)

pub returns-clause-reads : goal.returns-clause-reads
returns-clause-reads c = field_came c.args.width c.args.reader.now.bytes.now c.args.reader.now.at c.next.new.self.at (Some c.in_ok-value.value) (λ h. c.in_ok-value.ensures.reads h (omega arith)) (λ n. c.in_ok-value.ensures.refuses (λ h w. n h))
