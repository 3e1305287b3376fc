-- Four plausible misreadings of the passes and of truth, each with a small system on which it changes the verdict.
use Rattle.std.specs.Prelude.{◌≡◌, ℕ, zero, suc, Bool, true, false, List, [], ◌∷◌, map, length, Some, None, Option, slice_index_or}
use Rattle.definitions.specs.Lists.{times, up_to, map_from}
use Rattle.definitions.specs.Alg.{Alg}
use Rattle.definitions.specs.Algebras.{counting}
use Rattle.definitions.specs.Solution.{Sign, least, greatest, Block, edge, put, settled}
use Rattle.definitions.specs.Systems.{parameter, value, not, Term, term, Clause, Equation, System}
use Rattle.definitions.specs.Reading.{got}
use Rattle.definitions.specs.ReadSystem.{reading}
use Rattle.definitions.specs.Written.{written}
use Rattle.definitions.specs.Truth.{body, block_of, verdict}
use Rattle.definitions.specs.Terms.{cut}
use Rattle.definitions.specs.Constants.{Known, Knowledge, Brought, brought, learnt_all, unreached, height, inserted, unknown_of}
use Rattle.definitions.specs.Passes.{marked}

-- the truths alone, as the algebra with no further sort
abbrev pub plain : Alg
plain = counting []

abbrev pub par : ℕ → Term
par n = term (parameter n) []

abbrev pub val : ℕ → Term
val v = term (value 0 v) []

-- what C makes of some knowledge
abbrev pub cut_by : Knowledge → System → System
cut_by K s =
    cut (map_from 0 (λ i e. unknown_of e (slice_index_or K i None)) s.equations)
    (record { equations = map_from 0 (λ i e. inserted e (slice_index_or K i None)) s.equations; start = s.start; values = s.values })

-- occurrences followed once: the start, and what its equation brings
abbrev pub followed_once : Alg → System → System
followed_once a s = cut_by (times 2 (λ K. learnt_all K (brought a s K)) (unreached s)) s

-- the first of two constants kept
abbrev pub first_kept : Option Known → Known → Known
first_kept None ks = ks
first_kept (Some old) ks = old

abbrev pub learnt_first : Knowledge → ℕ → Known → Knowledge
learnt_first [] j ks = []
learnt_first (k ∷ K) zero ks = Some (first_kept k ks) ∷ K
learnt_first (k ∷ K) (suc j) ks = k ∷ learnt_first K j ks

abbrev pub learnt_firsts : Knowledge → List Brought → Knowledge
learnt_firsts K [] = K
learnt_firsts K (b ∷ bs) = learnt_firsts (learnt_first K b.0 b.1) bs

abbrev pub first_constants : Alg → System → System
first_constants a s = cut_by (times (height s) (λ K. learnt_firsts K (brought a s K)) (unreached s)) s

-- parameters kept only where they are marked, not where they feed a kept one
abbrev pub marked_only : System → System
marked_only s = cut (map (λ (e : Equation). map (marked e) (up_to (length e.sorts))) s.equations) s

-- the inner blocks solved once, for where the outer rounds begin
abbrev pub inner_once : {I V : Type 0} → V → V → ((I → V) → I → V) → List (Block I) → (I → V) → I → V
inner_once bot top bodies [] e = e
inner_once bot top bodies (b ∷ bs) e =
    inner_once bot top bodies bs (settled (edge bot top b.sign) b (λ f. bodies (put b f (inner_once bot top bodies bs (put b (λ _. edge bot top b.sign) e)))) e)

abbrev pub verdict_once : Alg → System → Bool
verdict_once a s = inner_once false true (body a s) (map_from 0 (block_of a) s.equations) (λ _. false) (s.start, s.values)

-- one occurrence under the guard true
abbrev pub calling : ℕ → List Term → List Clause
calling j ts = record { guard = val 1; occurrences = record { target = j; arguments = ts } ∷ [] } ∷ []

abbrev pub holding : Sign → List ℕ → Term → List Clause → Equation
holding g ss t cs = record { sign = g; sorts = ss; quantified = []; h = t; clauses = cs }

abbrev pub starting : List Equation → List ℕ → System
starting es vs = record { equations = es; start = 0; values = vs }

-- X(a, b) says not a, and calls X(b, true): from (0, 0) to (0, 1) to (1, 1)
abbrev pub slow : System
slow = starting (holding greatest (0 ∷ 0 ∷ []) (term not (par 0 ∷ [])) (calling 0 (par 1 ∷ val 1 ∷ [])) ∷ []) (0 ∷ 0 ∷ [])

-- X(a) says not a, and calls X(true)
abbrev pub two : System
two = starting (holding greatest (0 ∷ []) (term not (par 0 ∷ [])) (calling 0 (val 1 ∷ [])) ∷ []) (0 ∷ [])

-- X(b) calls Y(b), which says b
abbrev pub feeding : System
feeding = starting (holding greatest (0 ∷ []) (val 1) (calling 1 (par 0 ∷ [])) ∷ holding greatest (0 ∷ []) (par 0) [] ∷ []) (1 ∷ [])

-- greatest X(a) says not a and calls Y; least Y calls X(true)
abbrev pub moving : System
moving = starting (holding greatest (0 ∷ []) (term not (par 0 ∷ [])) (calling 1 []) ∷ holding least [] (val 1) (calling 0 (val 1 ∷ [])) ∷ []) (0 ∷ [])

pub record Misreadings : Type 0 where
  -- all four systems are accepted
  pub slow_read : reading plain (written slow) ≡ got slow
  pub two_read : reading plain (written two) ≡ got two
  pub feeding_read : reading plain (written feeding) ≡ got feeding
  pub moving_read : reading plain (written moving) ≡ got moving
  pub slow_is_false : verdict plain slow ≡ false
  pub followed_once_says_true : verdict plain (followed_once plain slow) ≡ true
  pub two_is_false : verdict plain two ≡ false
  pub first_constants_say_true : verdict plain (first_constants plain two) ≡ true
  pub feeding_is_true : verdict plain feeding ≡ true
  pub marked_only_says_false : verdict plain (marked_only feeding) ≡ false
  pub moving_is_false : verdict plain moving ≡ false
  pub inner_once_says_true : verdict_once plain moving ≡ true
