use Rattle.std.proofs.Common.{[], ◌∷◌, subst, arith}
use Rattle.definitions.specs.Bits.{bits}
use Rattle.definitions.specs.Boolean.{come}
use Rattle.system.specs.declared.instance.Instance.{Instance as Kept}
use Rattle.system.specs.Instances.{same_instance}
use Rattle.firstcome.specs.Coming.{Came, NoPlace, Comes}
use Rattle.expansion.specs.declared.draft.Draft.{Draft}
use Rattle.expansion.proofs.Drafting.{drafts_refused}
use Rattle.expansion.proofs.Naming.{test_yes, test_is, nowhere, came, not_come}
use Rattle.expansion.proofs.draft.Draft.begin.Goals as goal

pub returns-in_err-ok_or : goal.returns-in_err-ok_or
returns-in_err-ok_or c = λ s x f h.
    let k : Kept = c.args.start in
    let p = λ (l : Kept). same_instance l k in
    let new : Draft = record { list = c.come.new.self; writer = c.args.self.now.writer; too_long = c.args.self.now.too_long } in
    let full : NoPlace p c.args.self.now.list c.come.new.self = subst (Comes p k c.args.self.now.list c.come.new.self) (nowhere c.come.result c.in_err-ok_or.ensures.variant) c.come.ensures in
    drafts_refused s (x ∷ []) (λ f. bits 12 0) c.args.self.now new c.from_residual.result c.from_residual.ensures.0
    (λ first places ns bs d. not_come s p k x f h (test_yes k) (test_is k) c.args.self.now c.come.new.self first places ns bs full d)

pub returns : goal.returns
returns c = λ s x f h first places ns bs d.
    let k : Kept = c.args.start in
    let p = λ (l : Kept). same_instance l k in
    let i = c.in_ok-ok_or.field-0 in
    let there : Came p k c.args.self.now.list c.come.new.self i = subst (Comes p k c.args.self.now.list c.come.new.self) c.in_ok-ok_or.ensures.ok_part c.come.ensures in
    let n = came s p k x f h (test_yes k) (test_is k) c.args.self.now c.come.new.self i first places ns bs there d in
    c.put.ensures (omega arith) (omega arith) s first places (come ns (x ∷ [])) bs n.drafted
