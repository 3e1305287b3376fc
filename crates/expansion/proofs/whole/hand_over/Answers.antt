use Rattle.std.proofs.Common.{◌-◌, ◌<◌, ◌⊎◌, ◌++◌, length, ap, ◌∙◌, sym, subst, arith}
use Rattle.std.proofs.lemmas.Option.{MatchOption-at_none, MatchOption-at_some}
use Rattle.definitions.specs.Bits.{bits}
use Rattle.faults.specs.declared.ExpandFault.TheVariants.{Refused}
use Rattle.faults.specs.declared.Reason.TheVariants.{BooleanTooLong}
use Rattle.firstcome.specs.declared.FirstCome.{FirstCome}
use Rattle.system.specs.declared.instance.Instance.{Instance as Kept}
use Rattle.expansion.specs.Drafts.{Closes}
use Rattle.expansion.proofs.Made.{shut_within, shut_delivered}
use Rattle.expansion.proofs.whole.hand_over.Goals as goal

pub returns-in_err-boolean : goal.returns-in_err-boolean
returns-in_err-boolean c = λ s first places ns rest d at some.
    let h = subst (Closes first (bits 12 (length ns - 1) ++ rest) c.close.new.self) c.in_ok-len.ensures.ok_part (c.close.ensures.closes s first places ns rest d at some) in
    let w = shut_within first (bits 12 (length ns - 1) ++ rest) c.close.new.self.writer c.in_ok-len.len h in
    let out : (c.in_ok-len.len < 0) ⊎ (length c.close.new.self.writer.bytes.now < c.in_ok-len.len) = MatchOption-at_none _ _ c.in_err-boolean.ensures.ok_part c.get.ensures.lookup.0 in
    absurd (omega arith)

pub returns : goal.returns
returns c = λ s first places ns rest d at some.
    let bs = bits 12 (length ns - 1) ++ rest in
    let h = subst (Closes first bs c.close.new.self) c.in_ok-len.ensures.ok_part (c.close.ensures.closes s first places ns rest d at some) in
    let front = MatchOption-at_some _ _ c.in_ok-boolean.boolean c.in_ok-boolean.ensures.ok_part c.get.ensures.lookup.0 in (
      shut_delivered first bs c.close.new.self.writer c.in_ok-len.len h c.in_ok-boolean.boolean.now c.args.out.now c.deliver.new.out c.deliver.result (Refused BooleanTooLong) _ front.2 (sym c.or.ensures ∙ c.in_ok-or.was) c.deliver.ensures.fits.0 c.deliver.ensures.delivered,
      h.within,
      ap (λ (l : FirstCome Kept). l.len) c.close.ensures.lists ∙ d.count,
    )
