use Rattle.std.proofs.Common.{◌≡◌, ◌-◌, ap, arith}
use Rattle.definitions.specs.Bits.{bits}
use Rattle.expansion.specs.Drafts.{token_number}
use Rattle.expansion.proofs.Drafting.{puts_more, puts_same}
use Rattle.expansion.proofs.draft.Draft.put_parts.Goals as goal

pub returns : goal.returns
returns c = λ few.
    let n = c.args.count in
    let v = c.saturating_sub.result in
    let e : v ≡ n - 1 = c.saturating_sub.ensures in
    puts_more (bits 3 (token_number c.args.token)) (bits 8 (n - 1)) c.put_token.ensures
    (puts_same (bits 8 v) (bits 8 (n - 1)) (ap (bits 8) e) (c.put.ensures (omega arith) (omega arith)))
