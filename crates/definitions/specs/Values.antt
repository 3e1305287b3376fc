-- The value of a term, and its known value where only some parameters are known.
use Rattle.std.specs.Prelude.{ℕ, ◌-◌, Bool, true, false, ◌&&◌, ◌||◌, List, [], map, Some, None, Option, ◌==◌, slice_index_or}
use Rattle.definitions.specs.Lists.{bind, whole, or_else}
use Rattle.definitions.specs.Alg.{Alg}
use Rattle.definitions.specs.Algebras.{first, second, truth}
use Rattle.definitions.specs.Systems.{Kind, parameter, variable, value, operation, not, and, or, equal, Term, fold}

abbrev pub is_true : Option ℕ → Bool
is_true None = false
is_true (Some v) = v == 1

abbrev pub is_false : Option ℕ → Bool
is_false None = false
is_false (Some v) = v == 0

-- one known false side decides; else both must be known true
abbrev pub both : Option ℕ → Option ℕ → Option ℕ
both x y = elim (is_false x || is_false y) [ true ↦ Some 0 | false ↦ elim (is_true x && is_true y) [ true ↦ Some 1 | false ↦ None ] ]

-- the mirror image
abbrev pub either : Option ℕ → Option ℕ → Option ℕ
either x y = elim (is_true x || is_true y) [ true ↦ Some 1 | false ↦ elim (is_false x && is_false y) [ true ↦ Some 0 | false ↦ None ] ]

-- the known value of a kind, given those of the parameters, the quantified variables and the parts
abbrev pub kind_known : Alg → List (Option ℕ) → List (Option ℕ) → Kind → List (Option ℕ) → Option ℕ
kind_known a ps vs (parameter n) xs = slice_index_or ps n None
kind_known a ps vs (variable n) xs = slice_index_or vs n None
kind_known a ps vs (value s v) xs = Some v
kind_known a ps vs (operation o) xs = bind (whole xs) (a.value o)
kind_known a ps vs not xs = bind (whole xs) (λ ys. Some (1 - first ys))
kind_known a ps vs and xs = both (slice_index_or xs 0 None) (slice_index_or xs 1 None)
kind_known a ps vs or xs = either (slice_index_or xs 0 None) (slice_index_or xs 1 None)
kind_known a ps vs equal xs = bind (whole xs) (λ ys. Some (truth (first ys == second ys)))

-- given some known parameters
abbrev pub known : Alg → List (Option ℕ) → Term → Option ℕ
known a ps t = fold t (kind_known a ps [])

-- given all parameters and quantified variables
abbrev pub value_of : Alg → List ℕ → List ℕ → Term → Option ℕ
value_of a ps vs t = fold t (kind_known a (map Some ps) (map Some vs))

abbrev pub holds : Alg → List ℕ → List ℕ → Term → Bool
holds a ps vs t = is_true (value_of a ps vs t)

abbrev pub values_of : Alg → List ℕ → List ℕ → List Term → List ℕ
values_of a ps vs ts = map (λ t. or_else (value_of a ps vs t) 0) ts
