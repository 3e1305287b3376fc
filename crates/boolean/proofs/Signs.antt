-- `==` of signs.
use Rattle.std.proofs.Common.{◌≡◌, true, refl}
use mathlib.Core.Bool.{false≢true}
use Rattle.system.specs.contracts.header.SignPartialEq.TheImpl.{ghosts}
use Rattle.system.specs.declared.header.Sign.{Sign as KeptSign}
use Rattle.system.specs.declared.header.Sign.TheVariants.{Least, Greatest}

pub eq_true : (a b : KeptSign) → ghosts.eq a b ≡ true → a ≡ b
eq_true Least Least e = refl
eq_true Least Greatest e = absurd (false≢true e)
eq_true Greatest Least e = absurd (false≢true e)
eq_true Greatest Greatest e = refl
