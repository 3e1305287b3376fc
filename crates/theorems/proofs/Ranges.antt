-- Terms that fit have values in the range of their sorts.
use Rattle.std.proofs.Common.{◌≡◌, ℕ, zero, suc, ◌+◌, ◌-◌, ◌<◌, ◌≤◌, Bool, true, false, ◌&&◌, ◌||◌, eqb, ltb, ◌⊎◌, List, [], ◌∷◌, ◌++◌, map, length, get_or, Some, None, Option, sym, refl, ap, ◌∙◌, subst, ap₂, inl, inr, arith}
use mathlib.Core.Bool.{false≢true}
use Rattle.std.proofs.lemmas.Bool.{ltb-true, lt-ltb, and_parts, and_from, cases_lt}
use Rattle.definitions.specs.Lists.{at, bind, whole, or_else}
use Rattle.definitions.specs.Alg.{Alg, Lawful, within}
use Rattle.definitions.specs.Algebras.{first, second, truth}
use Rattle.definitions.specs.Systems.{Term, Terms, folds}
use Rattle.definitions.specs.ReadSystem.{Scope}
use Rattle.definitions.specs.Values.{known, kind_known, value_of, values_of, both, either, is_true, is_false}
use Rattle.definitions.specs.Truth.{size_of}
use Rattle.theorems.specs.Evaluation.{Valued, Ranges}
use Rattle.definitions.specs.Fits.{Fits, fit_parameter, fit_variable, fit_value, fit_operation, fit_not, fit_and, fit_or, fit_equal, FitsArgs, fit_none, fit_more, TermsFit, ValuesFit}
use Rattle.theorems.proofs.Listing.{some_same, none_some}

sized_low : (a : Alg) (s v : ℕ) (o : Option ℕ) → a.size s ≡ o → v < or_else o 0 → Valued a s (Some v)
sized_low a s v None e l = absurd (omega arith)
sized_low a s v (Some z) e l = record { it = v; is = refl; size = z; sized = e; low = l }

pub at_valued : (a : Alg) (ss ps : List ℕ) → within (map (size_of a) ss) ps ≡ true → (n s : ℕ) → at ss n ≡ Some s → Valued a s (get_or (map Some ps) n None)
at_valued a [] [] w n s e = absurd (none_some s e)
at_valued a [] (p ∷ ps) w n s e = absurd (false≢true w)
at_valued a (r ∷ ss) [] w n s e = absurd (false≢true w)
at_valued a (r ∷ ss) (p ∷ ps) w zero s e =
    let (l, k) = and_parts (ltb p (size_of a r)) (within (map (size_of a) ss) ps) w in
    subst (λ z. Valued a z (Some p)) (some_same r s e) (sized_low a r p (a.size r) refl (ltb-true p (size_of a r) l))
at_valued a (r ∷ ss) (p ∷ ps) w (suc n) s e =
    let (l, k) = and_parts (ltb p (size_of a r)) (within (map (size_of a) ss) ps) w in at_valued a ss ps k n s e

two_both : (v w : ℕ) → v < 2 → w < 2 → (u : ℕ) × (both (Some v) (Some w) ≡ Some u) × (u < 2)
two_both zero w l k = (0, refl, omega arith)
two_both (suc zero) zero l k = (0, refl, omega arith)
two_both (suc zero) (suc zero) l k = (1, refl, omega arith)
two_both (suc zero) (suc (suc w)) l k = absurd (omega arith)
two_both (suc (suc v)) w l k = absurd (omega arith)

two_either : (v w : ℕ) → v < 2 → w < 2 → (u : ℕ) × (either (Some v) (Some w) ≡ Some u) × (u < 2)
two_either zero zero l k = (0, refl, omega arith)
two_either zero (suc zero) l k = (1, refl, omega arith)
two_either zero (suc (suc w)) l k = absurd (omega arith)
two_either (suc zero) w l k = (1, refl, omega arith)
two_either (suc (suc v)) w l k = absurd (omega arith)

pub truth_low : (b : Bool) → truth b < 2
truth_low true = omega arith
truth_low false = omega arith

-- the arguments of o from the one numbered k on, n of them
pub record Arguments (a : Alg) (o k n : ℕ) (os : List (Option ℕ)) : Type 0 where
  pub them : List ℕ
  pub are : whole os ≡ Some them
  pub long : length them ≡ n
  pub low : (i s z : ℕ) → i < n → a.arg_sort o (k + i) ≡ Some s → a.size s ≡ Some z → get_or them i 0 < z

module _ (a : Alg) (law : Lawful a) where
  two : (o : Option ℕ) → Valued a 0 o → (v : ℕ) × (o ≡ Some v) × (v < 2)
  two o h =
      let e : h.size ≡ 2 = some_same h.size 2 (sym h.sized ∙ law.truths) in
      (h.it, h.is, subst (λ z. h.it < z) e h.low)

  of_two : (o : Option ℕ) (v : ℕ) → o ≡ Some v → v < 2 → Valued a 0 o
  of_two o v e l = record { it = v; is = e; size = 2; sized = law.truths; low = l }

  not_valued : (o : Option ℕ) → Valued a 0 o → Valued a 0 (bind (whole (o ∷ [])) (λ ys. Some (1 - first ys)))
  not_valued o h = of_two _ (1 - h.it) (ap (λ z. bind (whole (z ∷ [])) (λ ys. Some (1 - first ys))) h.is) (omega arith)

  and_valued : (o p : Option ℕ) → Valued a 0 o → Valued a 0 p → Valued a 0 (both o p)
  and_valued o p h k =
      let (v, ev, lv) = two o h in
      let (w, ew, lw) = two p k in
      let (u, eu, lu) = two_both v w lv lw in
      of_two _ u (ap₂ both ev ew ∙ eu) lu

  or_valued : (o p : Option ℕ) → Valued a 0 o → Valued a 0 p → Valued a 0 (either o p)
  or_valued o p h k =
      let (v, ev, lv) = two o h in
      let (w, ew, lw) = two p k in
      let (u, eu, lu) = two_either v w lv lw in
      of_two _ u (ap₂ either ev ew ∙ eu) lu

  equal_valued : (s : ℕ) (o p : Option ℕ) → Valued a s o → Valued a s p →
      Valued a 0 (bind (whole (o ∷ p ∷ [])) (λ ys. Some (truth (eqb (first ys) (second ys)))))
  equal_valued s o p h k =
      of_two _ (truth (eqb h.it k.it))
      (ap₂ (λ y z. bind (whole (y ∷ z ∷ [])) (λ ys. Some (truth (eqb (first ys) (second ys))))) h.is k.is) (truth_low (eqb h.it k.it))

  operation_valued : (o n s : ℕ) (os : List (Option ℕ)) → a.arity o ≡ Some n → a.res_sort o ≡ Some s → Arguments a o 0 n os →
      Valued a s (bind (whole os) (a.value o))
  operation_valued o n s os en es h =
      let (v, ev) = law.total o n h.them en h.long low in
      let (s', z, es', ez, lz) = law.below o h.them v ev in
      record {
        it = v;
        is = ap (λ y. bind y (a.value o)) h.are ∙ ev;
        size = z;
        sized = ap a.size (some_same s s' (sym es ∙ es')) ∙ ez;
        low = lz;
      }
    where
      low : (k s z : ℕ) → a.arg_sort o k ≡ Some s → a.size s ≡ Some z → get_or h.them k 0 < z
      low k s z e q = go (cases_lt k n)
        where
          go : (k < n) ⊎ (n ≤ k) → get_or h.them k 0 < z
          go (inl l) = h.low k s z l (ap (a.arg_sort o) (omega arith) ∙ e) q
          go (inr l) =
              absurd (none_some s (sym (law.no_arg o k (λ m em. subst (λ y. y ≤ k) (some_same n m (sym en ∙ em)) l)) ∙ e))

  one_more : (o k n s : ℕ) (x : Option ℕ) (os : List (Option ℕ)) → a.arg_sort o k ≡ Some s → Valued a s x → Arguments a o (suc k) n os → Arguments a o k (suc n) (x ∷ os)
  one_more o k n s x os e h r =
      record {
        them = h.it ∷ r.them;
        are = ap₂ (λ y z. bind y (λ v. bind z (λ vs. Some (v ∷ vs)))) h.is r.are;
        long = ap suc r.long;
        low = low;
      }
    where
      low : (i s z : ℕ) → i < suc n → a.arg_sort o (k + i) ≡ Some s → a.size s ≡ Some z → get_or (h.it ∷ r.them) i 0 < z
      low zero s' z l q ez =
          let es : s ≡ s' = some_same s s' (sym e ∙ ap (a.arg_sort o) (omega arith) ∙ q) in
          subst (λ y. h.it < y) (some_same h.size z (sym h.sized ∙ ap a.size es ∙ ez)) h.low
      low (suc i) s' z l q ez = r.low i s' z (omega arith) (ap (a.arg_sort o) (omega arith) ∙ q) ez

  module _ (c : Scope) (ps vs : List ℕ) (wp : within (map (size_of a) c.parameters) ps ≡ true) (wv : within (map (size_of a) c.variables) vs ≡ true) where
    mutual
      pub fits_valued : {d s : ℕ} {t : Term} → Fits a c d s t → Valued a s (value_of a ps vs t)
      fits_valued (fit_parameter {s = s} {n} l e) = at_valued a c.parameters ps wp n s e
      fits_valued (fit_variable {s = s} {n} l e) = at_valued a c.variables vs wv n s e
      fits_valued (fit_value {s = s} {v} {z} l k e m) = record { it = v; is = refl; size = z; sized = e; low = m }
      fits_valued (fit_operation {s = s} {o} {n} l e k h) = operation_valued o n s _ e k (args_valued h)
      fits_valued (fit_not h) = not_valued _ (fits_valued h)
      fits_valued (fit_and h k) = and_valued _ _ (fits_valued h) (fits_valued k)
      fits_valued (fit_or h k) = or_valued _ _ (fits_valued h) (fits_valued k)
      fits_valued (fit_equal {s = s} h k) = equal_valued s _ _ (fits_valued h) (fits_valued k)

      args_valued : {d o k n : ℕ} {ts : Terms} → FitsArgs a c d o k n ts → Arguments a o k n (folds ts (kind_known a (map Some ps) (map Some vs)))
      args_valued fit_none = record { them = []; are = refl; long = refl; low = λ i s z l. absurd (omega arith) }
      args_valued (fit_more {o = o} {k} {n} {s} e h r) = one_more o k n s _ _ e (fits_valued h) (args_valued r)

    -- the arguments of an occurrence lie in range
    pub arguments_low : (ss : List ℕ) (ts : List Term) → TermsFit a c ss ts → within (map (size_of a) ss) (values_of a ps vs ts) ≡ true
    arguments_low [] [] h = refl
    arguments_low [] (t ∷ ts) h = absurd h
    arguments_low (s ∷ ss) [] h = absurd h
    arguments_low (s ∷ ss) (t ∷ ts) h =
        let r = fits_valued h.0 in
        and_from _ _
        (lt-ltb _ _ (rw (r.is, r.sized) r.low))
        (arguments_low ss ts h.1)

    -- and are there
    pub arguments_there : (ss : List ℕ) (ts : List Term) → TermsFit a c ss ts → map Some (values_of a ps vs ts) ≡ map (value_of a ps vs) ts
    arguments_there [] [] h = refl
    arguments_there [] (t ∷ ts) h = absurd h
    arguments_there (s ∷ ss) [] h = absurd h
    arguments_there (s ∷ ss) (t ∷ ts) h =
        let r = fits_valued h.0 in
        ap₂ (λ x xs. x ∷ xs) (ap (λ z. Some (or_else z 0)) r.is ∙ sym r.is) (arguments_there ss ts h.1)

pub values_low : (a : Alg) (ss vs : List ℕ) → ValuesFit a ss vs → within (map (size_of a) ss) vs ≡ true
values_low a [] [] h = refl
values_low a [] (v ∷ vs) h = absurd h
values_low a (s ∷ ss) [] h = absurd h
values_low a (s ∷ ss) (v ∷ vs) h =
    and_from _ _ (lt-ltb v (size_of a s) (rw h.0.1.1 h.0.1.2)) (values_low a ss vs h.1)

-- v is a value of the sort s
abbrev pub InSort : Alg → ℕ → ℕ → Type 0
InSort a s v = (z : ℕ) × (a.size s ≡ Some z) × (v < z)

bind_some : {A B : Type 0} (o : Option A) (f : A → Option B) (y : B) → bind o f ≡ Some y → (x : A) × (f x ≡ Some y)
bind_some None f y e = absurd (none_some y e)
bind_some (Some x) f y e = (x, e)

both_low : (x y : Option ℕ) (v : ℕ) → both x y ≡ Some v → v < 2
both_low x y v e = go (is_false x || is_false y) (is_true x && is_true y) e
  where
    go : (b c : Bool) → elim b as (λ _. Option ℕ) [ true ↦ Some 0 | false ↦ elim c as (λ _. Option ℕ) [ true ↦ Some 1 | false ↦ None ] ] ≡ Some v → v < 2
    go true c e = omega (arith, some_same 0 v e)
    go false true e = omega (arith, some_same 1 v e)
    go false false e = absurd (none_some v e)

either_low : (x y : Option ℕ) (v : ℕ) → either x y ≡ Some v → v < 2
either_low x y v e = go (is_true x || is_true y) (is_false x && is_false y) e
  where
    go : (b c : Bool) → elim b as (λ _. Option ℕ) [ true ↦ Some 1 | false ↦ elim c as (λ _. Option ℕ) [ true ↦ Some 0 | false ↦ None ] ] ≡ Some v → v < 2
    go true c e = omega (arith, some_same 1 v e)
    go false true e = omega (arith, some_same 0 v e)
    go false false e = absurd (none_some v e)

-- a known value lies in range
pub known_low : (a : Alg) → Lawful a → (c : Scope) (ks : List (Option ℕ)) →
    ((n s v : ℕ) → at c.parameters n ≡ Some s → get_or ks n None ≡ Some v → InSort a s v) →
    {d s : ℕ} {t : Term} → Fits a c d s t → (v : ℕ) → known a ks t ≡ Some v → InSort a s v
known_low a law c ks h (fit_parameter {s = s} {n} l e) v p = h n s v e p
known_low a law c ks h (fit_variable l e) v p = absurd (none_some v p)
known_low a law c ks h (fit_value {s = s} {v = w} {z} l k e m) v p = (z, e, subst (λ y. y < z) (some_same w v p) m)
known_low a law c ks h (fit_operation {s = s} {o} l e k r) v p =
    let (ys, q) = bind_some _ (a.value o) v p in
    let (s', z, es, ez, lz) = law.below o ys v q in
    (z, ap a.size (some_same s s' (sym k ∙ es)) ∙ ez, lz)
known_low a law c ks h (fit_not r) v p =
    let (ys, q) = bind_some _ (λ ys. Some (1 - first ys)) v p in (2, law.truths, omega (arith, some_same (1 - first ys) v q))
known_low a law c ks h (fit_and {t = t} {u} r r') v p = (2, law.truths, both_low (known a ks t) (known a ks u) v p)
known_low a law c ks h (fit_or {t = t} {u} r r') v p = (2, law.truths, either_low (known a ks t) (known a ks u) v p)
known_low a law c ks h (fit_equal r r') v p =
    let (ys, q) = bind_some _ (λ ys. Some (truth (eqb (first ys) (second ys)))) v p in
    (2, law.truths, subst (λ y. y < 2) (some_same (truth (eqb (first ys) (second ys))) v q) (truth_low (eqb (first ys) (second ys))))

-- one value more, of one sort more
pub ranges_snoc : (a : Alg) (ss vs : List ℕ) (s v z : ℕ) → Ranges a ss vs → a.size s ≡ Some z → v < z → Ranges a (ss ++ (s ∷ [])) (vs ++ (v ∷ []))
ranges_snoc a [] [] s v z h e l = and_from _ _ (lt-ltb v (size_of a s) (rw e l)) refl
ranges_snoc a [] (w ∷ vs) s v z h e l = absurd (false≢true h)
ranges_snoc a (r ∷ ss) [] s v z h e l = absurd (false≢true h)
ranges_snoc a (r ∷ ss) (w ∷ vs) s v z h e l =
    let (p, q) = and_parts (ltb w (size_of a r)) (within (map (size_of a) ss) vs) h in and_from _ _ p (ranges_snoc a ss vs s v z q e l)

-- a sort that is there has 1 to 256 values
pub size_range : (a : Alg) → Lawful a → (s z : ℕ) → a.size s ≡ Some z → (1 ≤ z) × (z ≤ 256)
size_range a l s z e = go (cases_lt s a.sorts)
  where
    go : (s < a.sorts) ⊎ (a.sorts ≤ s) → (1 ≤ z) × (z ≤ 256)
    go (inl h) =
        let (n, k, low, up) = l.sort s h in
        let q : n ≡ z = some_same n z (sym k ∙ e) in
        (omega arith, omega arith)
    go (inr h) = none_some z (sym (l.no_sort s h) ∙ e)
