-- The misreadings change verdicts: each is computed.
use Rattle.std.proofs.Common.{refl}
use Rattle.theorems.specs.Misreadings.{Misreadings}

pub misreadings : Misreadings
misreadings =
    record {
      slow_read = refl;
      two_read = refl;
      feeding_read = refl;
      moving_read = refl;
      slow_is_false = refl;
      followed_once_says_true = refl;
      two_is_false = refl;
      first_constants_say_true = refl;
      feeding_is_true = refl;
      marked_only_says_false = refl;
      moving_is_false = refl;
      inner_once_says_true = refl;
    }
