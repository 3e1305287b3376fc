-- A known value agrees with the value under every completion.
use Rattle.std.proofs.Common.{◌≡◌, ℕ, true, false, List, [], ◌∷◌, map, get_or, Some, None, Option, refl}
use Rattle.std.proofs.lemmas.Bool.{eqb-true}
use Rattle.definitions.specs.Alg.{Alg}
use Rattle.definitions.specs.Systems.{Kind, parameter, variable, value, operation, not, and, or, equal, Term, Terms, node, none, more, folds}
use Rattle.definitions.specs.Values.{known, kind_known, value_of, holds, is_true, is_false}
use Rattle.theorems.proofs.Knows.{Under, same, unknown, Unders, bind_under, get_or_under, whole_under, both_under, either_under}

module _ (a : Alg) (ps : List ℕ) (ks : List (Option ℕ)) (vs : List ℕ) (h : (n : ℕ) → Under (get_or (map Some ps) n None) (get_or ks n None)) where
  kind_under : {xs ys : List (Option ℕ)} → Unders xs ys → (k : Kind) → Under (kind_known a (map Some ps) (map Some vs) k xs) (kind_known a ks [] k ys)
  kind_under hs (parameter n) = h n
  kind_under hs (variable n) = unknown
  kind_under hs (value s v) = same
  kind_under hs (operation o) = bind_under (a.value o) (whole_under hs)
  kind_under hs not = bind_under _ (whole_under hs)
  kind_under hs and = both_under (get_or_under hs 0) (get_or_under hs 1)
  kind_under hs or = either_under (get_or_under hs 0) (get_or_under hs 1)
  kind_under hs equal = bind_under _ (whole_under hs)

  mutual
    -- the value is the known one, if there is one
    pub value_under : (t : Term) → Under (value_of a ps vs t) (known a ks t)
    value_under (node k ts) = kind_under (values_under ts) k

    values_under : (ts : Terms) → Unders (folds ts (kind_known a (map Some ps) (map Some vs))) (folds ts (kind_known a ks []))
    values_under none = Unders.nil
    values_under (more t ts) = Unders.cons (value_under t) (values_under ts)

  pub arguments_under : (ts : List Term) → Unders (map (value_of a ps vs) ts) (map (known a ks) ts)
  arguments_under [] = Unders.nil
  arguments_under (t ∷ ts) = Unders.cons (value_under t) (arguments_under ts)

not_both : (o : Option ℕ) → is_true o ≡ true → is_false o ≡ false
not_both None e = refl
not_both (Some v) e = rw (eqb-true v 1 e) refl

true_under : {x y : Option ℕ} → Under x y → is_true x ≡ true → is_false y ≡ false
true_under {x} same e = not_both x e
true_under unknown e = refl

-- what holds is not known false
pub holds_not_false : (a : Alg) (ps : List ℕ) (ks : List (Option ℕ)) (vs : List ℕ) → ((n : ℕ) → Under (get_or (map Some ps) n None) (get_or ks n None)) → (t : Term) →
    holds a ps vs t ≡ true → is_false (known a ks t) ≡ false
holds_not_false a ps ks vs h t e = true_under (value_under a ps ks vs h t) e

-- with nothing known
pub plain_under : (a : Alg) (ps vs : List ℕ) (t : Term) → Under (value_of a ps vs t) (known a [] t)
plain_under a ps vs t = value_under a ps [] vs (λ n. unknown) t

pub under_some : {x y : Option ℕ} → Under x y → (v : ℕ) → y ≡ Some v → x ≡ Some v
under_some same v e = e
under_some unknown v e = absurd cc
