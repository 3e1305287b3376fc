use denote.Enum.Declared.{tag_of}
use Rattle.std.proofs.Common.{◌≡◌, ◌<◌, refl, ap, arith}
use Rattle.definitions.specs.Bits.{bits}
use Rattle.expansion.specs.contracts.draft.Token.{the_type}
use Rattle.expansion.specs.declared.draft.Token.{Token}
use Rattle.expansion.specs.declared.draft.Token.TheVariants.{False, True, All, Any, Variable}
use Rattle.expansion.specs.Drafts.{token_number}
use Rattle.expansion.proofs.Drafting.{puts_same}
use Rattle.expansion.proofs.draft.Draft.put_token.Goals as goal

tagged : (t : Token) → tag_of the_type t ≡ token_number t
tagged False = refl
tagged True = refl
tagged All = refl
tagged Any = refl
tagged Variable = refl

small : (t : Token) → tag_of the_type t < 8
small False = omega arith
small True = omega arith
small All = omega arith
small Any = omega arith
small Variable = omega arith

pub returns : goal.returns
returns c =
    let t = c.args.token in
    puts_same (bits 3 (tag_of the_type t)) (bits 3 (token_number t)) (ap (bits 3) (tagged t)) (c.put.ensures (omega arith) (small t))
