-- Terms evaluate inside their sorts, and reached instances lie in range.
use Rattle.std.proofs.Common.{◌≡◌, ℕ, zero, suc, List, [], ◌∷◌, map, get_or, Some, None, Option, sym, refl, subst}
use Rattle.definitions.specs.Lists.{at}
use Rattle.definitions.specs.Alg.{Alg, Lawful}
use Rattle.definitions.specs.Systems.{System}
use Rattle.definitions.specs.Fits.{SystemFits}
use Rattle.definitions.specs.Truth.{Instance}
use Rattle.definitions.specs.Boolean.{vars, form}
use Rattle.definitions.specs.Reach.{ReachedInstance, start, token}
use Rattle.theorems.specs.PassLaws.{InRange}
use Rattle.theorems.specs.Evaluation.{TermsEvaluateInSort, ArgumentsLandInSorts, ReachedInstancesInRange, KnownValuesAgree}
use Rattle.theorems.proofs.Listing.{every_at}
use Rattle.theorems.proofs.Ranges.{fits_valued, arguments_low}
use Rattle.theorems.proofs.Tokens.{start_fits, tokens_fit}
use Rattle.theorems.proofs.Knows.{Under, same, unknown}
use Rattle.theorems.proofs.Agrees.{value_under, under_some}

pub in_sort : TermsEvaluateInSort
in_sort a law c ps vs p v d s t f = fits_valued a law c ps vs p v f

pub arguments_in_sorts : ArgumentsLandInSorts
arguments_in_sorts a law c ps vs p v ss ts f = arguments_low a law c ps vs p v ss ts f

in_range : (a : Alg) → Lawful a → (s : System) → SystemFits a s → {x : Instance} → ReachedInstance a s x → InRange a s x
in_range a law s fit start = start_fits a law s fit
in_range a law s fit (token {x} {y} k r e) = every_at (InRange a s) (vars (form a s x)) k y e (tokens_fit a law s fit x (in_range a law s fit r))

pub reached_in_range : ReachedInstancesInRange
reached_in_range a law s fit x r = in_range a law s fit r

-- what is known of a parameter is its value
given_under : (ks : List (Option ℕ)) (ps : List ℕ) → ((k v : ℕ) → get_or ks k None ≡ Some v → at ps k ≡ Some v) → (n : ℕ) → Under (get_or (map Some ps) n None) (get_or ks n None)
given_under ks ps h n = go (get_or ks n None) refl
  where
    found : (ps : List ℕ) (n v : ℕ) → at ps n ≡ Some v → get_or (map Some ps) n None ≡ Some v
    found [] n v e = e
    found (p ∷ ps) zero v e = e
    found (p ∷ ps) (suc n) v e = found ps n v e

    go : (o : Option ℕ) → get_or ks n None ≡ o → Under (get_or (map Some ps) n None) o
    go None e = unknown
    go (Some v) e = subst (λ (o : Option ℕ). Under o (Some v)) (sym (found ps n v (h n v e))) same

pub known_agrees : KnownValuesAgree
known_agrees a ks ps vs h t v e = under_some (value_under a ps ks vs (given_under ks ps h) t) v e
