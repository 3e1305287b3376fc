-- What Boolean bodies say: what the instance's body says, monotone, and by their variables alone.
use Rattle.fixpoint.proofs.Truths.{implied}
use Rattle.std.proofs.Common.{◌≡◌, ℕ, Bool, true, false, List, [], ◌∷◌, ◌++◌, map, Some, None, Option, refl, ap, ◌∙◌, ap₂}
use mathlib.Core.Path.{fun_ext}
use mathlib.Core.Bool.{false≢true}
use Rattle.definitions.specs.Lists.{at, each, some, keep, up_to}
use Rattle.definitions.specs.Alg.{Alg}
use Rattle.definitions.specs.Systems.{Quantifier, exists, forall, Quantified, Clause, Equation, System}
use Rattle.definitions.specs.Values.{holds}
use Rattle.definitions.specs.Order.{Below}
use Rattle.definitions.specs.Order as order
use Rattle.definitions.specs.Truth.{Instance, size_of, ranging, under, meant, clause_holds, inside_holds, equation_holds, body}
use Rattle.definitions.specs.Boolean.{Form, known, all, any, var, Forms, nil, cons, forms, said, all_said, any_said, vars, vars_all, renamed, renamed_all, over, spread, all_of, clause_form, inside_form, equation_form, form}
use Rattle.definitions.specs.Fits.{Every}
use Rattle.fixpoint.proofs.Rounds.{pick}
use Rattle.theorems.proofs.Listing.{every_left, every_right}

all_said_lem : {A I : Type 0} (g : A → Form I) (f : I → Bool) (l : List A) → all_said (forms (map g l)) f ≡ each (λ v. said (g v) f) l
all_said_lem g f [] = refl
all_said_lem g f (x ∷ l) = ap (λ z. elim (said (g x) f) [ true ↦ z | false ↦ false ]) (all_said_lem g f l)

any_said_lem : {A I : Type 0} (g : A → Form I) (f : I → Bool) (l : List A) → any_said (forms (map g l)) f ≡ some (λ v. said (g v) f) l
any_said_lem g f [] = refl
any_said_lem g f (x ∷ l) = ap (λ z. elim (said (g x) f) [ true ↦ true | false ↦ z ]) (any_said_lem g f l)

over_said : (q : Quantifier) (g : ℕ → Form Instance) (f : Instance → Bool) (l : List ℕ) → said (over q (map g l)) f ≡ ranging q (λ v. said (g v) f) l
over_said exists g f l = any_said_lem g f l
over_said forall g f l = all_said_lem g f l

spread_said : (a : Alg) (qs : List Quantified) (vs : List ℕ) (p : List ℕ → Form Instance) (q : List ℕ → Bool) (f : Instance → Bool) →
    ((ws : List ℕ) → said (p ws) f ≡ q ws) → said (spread a qs vs p) f ≡ under a qs vs q
spread_said a [] vs p q f h = h vs
spread_said a (k ∷ qs) vs p q f h =
    over_said k.quantifier (λ v. spread a qs (vs ++ (v ∷ [])) p) f (up_to (size_of a k.sort)) ∙
    ap (λ g. ranging k.quantifier g (up_to (size_of a k.sort))) (fun_ext (λ (v : ℕ). spread_said a qs (vs ++ (v ∷ [])) p q f h))

all_of_said : (l : List (Form Instance)) (f : Instance → Bool) → said (all_of l) f ≡ all_said (forms l) f
all_of_said [] f = refl
all_of_said (p ∷ l) f = refl

module _ (a : Alg) (f : Instance → Bool) (ps vs : List ℕ) where
  clause_said : (c : Clause) → said (clause_form a ps vs c) f ≡ some (λ o. f (meant a ps vs o)) c.occurrences
  clause_said c = any_said_lem (λ o. var (meant a ps vs o)) f c.occurrences

  clauses_said : (cs : List Clause) → each (λ c. said (clause_form a ps vs c) f) (keep (λ (c : Clause). holds a ps vs c.guard) cs) ≡ each (clause_holds a f ps vs) cs
  clauses_said [] = refl
  clauses_said (c ∷ cs) = go (clauses_said cs) (holds a ps vs c.guard)
    where
      go : each (λ c'. said (clause_form a ps vs c') f) (keep (λ (c' : Clause). holds a ps vs c'.guard) cs) ≡ each (clause_holds a f ps vs) cs → (b : Bool) →
          each (λ c'. said (clause_form a ps vs c') f) (elim b [ true ↦ c ∷ keep (λ (c' : Clause). holds a ps vs c'.guard) cs | false ↦ keep (λ (c' : Clause). holds a ps vs c'.guard) cs ]) ≡
          elim (pick b (some (λ o. f (meant a ps vs o)) c.occurrences) true) [ true ↦ each (clause_holds a f ps vs) cs | false ↦ false ]
      go ih true = ap₂ (λ x y. elim x [ true ↦ y | false ↦ false ]) (clause_said c) ih
      go ih false = ih

  inside_said : (e : Equation) → said (inside_form a e ps vs) f ≡ inside_holds a f e ps vs
  inside_said e = go (holds a ps vs e.h)
    where
      go : (b : Bool) → said (elim b [ true ↦ all_of (map (clause_form a ps vs) (keep (λ (c : Clause). holds a ps vs c.guard) e.clauses)) | false ↦ known false ]) f ≡
          elim b [ true ↦ each (clause_holds a f ps vs) e.clauses | false ↦ false ]
      go true =
          all_of_said (map (clause_form a ps vs) (keep (λ (c : Clause). holds a ps vs c.guard) e.clauses)) f ∙
          all_said_lem (clause_form a ps vs) f (keep (λ (c : Clause). holds a ps vs c.guard) e.clauses) ∙ clauses_said e.clauses
      go false = refl

equation_said : (a : Alg) (f : Instance → Bool) (o : Option Equation) (ps : List ℕ) → said (equation_form a o ps) f ≡ equation_holds a f o ps
equation_said a f None ps = refl
equation_said a f (Some e) ps = spread_said a e.quantified [] (inside_form a e ps) (inside_holds a f e ps) f (λ vs. inside_said a f ps vs e)

pub form_said : (a : Alg) (s : System) (f : Instance → Bool) (x : Instance) → said (form a s x) f ≡ body a s f x
form_said a s f x = equation_said a f (at s.equations x.0) x.1

-- monotone
and_up : (p p' q q' : Bool) → (p ≡ true → p' ≡ true) → (q ≡ true → q' ≡ true) →
    elim p [ true ↦ q | false ↦ false ] ≡ true → elim p' [ true ↦ q' | false ↦ false ] ≡ true
and_up true true q q' h k t = k t
and_up true false q q' h k t = h refl
and_up false p' q q' h k t = absurd (false≢true t)

or_up : (p p' q q' : Bool) → (p ≡ true → p' ≡ true) → (q ≡ true → q' ≡ true) →
    elim p [ true ↦ true | false ↦ q ] ≡ true → elim p' [ true ↦ true | false ↦ q' ] ≡ true
or_up p true q q' h k t = refl
or_up true false q q' h k t = absurd (false≢true (h refl))
or_up false false q q' h k t = k t

mutual
  pub said_mono : {I : Type 0} (p : Form I) (f g : I → Bool) → Below order.truths f g → said p f ≡ true → said p g ≡ true
  said_mono (known t) f g h k = k
  said_mono (all ps) f g h k = all_mono ps f g h k
  said_mono (any ps) f g h k = any_mono ps f g h k
  said_mono (var i) f g h k = implied (f i) (g i) (h i) k

  all_mono : {I : Type 0} (ps : Forms I) (f g : I → Bool) → Below order.truths f g → all_said ps f ≡ true → all_said ps g ≡ true
  all_mono nil f g h k = k
  all_mono (cons p ps) f g h k = and_up (said p f) (said p g) (all_said ps f) (all_said ps g) (said_mono p f g h) (all_mono ps f g h) k

  any_mono : {I : Type 0} (ps : Forms I) (f g : I → Bool) → Below order.truths f g → any_said ps f ≡ true → any_said ps g ≡ true
  any_mono nil f g h k = k
  any_mono (cons p ps) f g h k = or_up (said p f) (said p g) (any_said ps f) (any_said ps g) (said_mono p f g h) (any_mono ps f g h) k

-- renaming, and agreeing on the variables
mutual
  pub said_renamed : {I J : Type 0} (p : Form I) (r : I → J) (f : J → Bool) → said (renamed p r) f ≡ said p (λ i. f (r i))
  said_renamed (known t) r f = refl
  said_renamed (all ps) r f = all_renamed ps r f
  said_renamed (any ps) r f = any_renamed ps r f
  said_renamed (var i) r f = refl

  all_renamed : {I J : Type 0} (ps : Forms I) (r : I → J) (f : J → Bool) → all_said (renamed_all ps r) f ≡ all_said ps (λ i. f (r i))
  all_renamed nil r f = refl
  all_renamed (cons p ps) r f = ap₂ (λ x y. elim x [ true ↦ y | false ↦ false ]) (said_renamed p r f) (all_renamed ps r f)

  any_renamed : {I J : Type 0} (ps : Forms I) (r : I → J) (f : J → Bool) → any_said (renamed_all ps r) f ≡ any_said ps (λ i. f (r i))
  any_renamed nil r f = refl
  any_renamed (cons p ps) r f = ap₂ (λ x y. elim x [ true ↦ true | false ↦ y ]) (said_renamed p r f) (any_renamed ps r f)

mutual
  pub said_agree : {I : Type 0} (p : Form I) (f g : I → Bool) → Every (λ i. f i ≡ g i) (vars p) → said p f ≡ said p g
  said_agree (known t) f g h = refl
  said_agree (all ps) f g h = all_agree ps f g h
  said_agree (any ps) f g h = any_agree ps f g h
  said_agree (var i) f g h = h.0

  all_agree : {I : Type 0} (ps : Forms I) (f g : I → Bool) → Every (λ i. f i ≡ g i) (vars_all ps) → all_said ps f ≡ all_said ps g
  all_agree nil f g h = refl
  all_agree (cons p ps) f g h =
      ap₂ (λ x y. elim x [ true ↦ y | false ↦ false ]) (said_agree p f g (every_left (λ i. f i ≡ g i) (vars p) (vars_all ps) h))
      (all_agree ps f g (every_right (λ i. f i ≡ g i) (vars p) (vars_all ps) h))

  any_agree : {I : Type 0} (ps : Forms I) (f g : I → Bool) → Every (λ i. f i ≡ g i) (vars_all ps) → any_said ps f ≡ any_said ps g
  any_agree nil f g h = refl
  any_agree (cons p ps) f g h =
      ap₂ (λ x y. elim x [ true ↦ true | false ↦ y ]) (said_agree p f g (every_left (λ i. f i ≡ g i) (vars p) (vars_all ps) h))
      (any_agree ps f g (every_right (λ i. f i ≡ g i) (vars p) (vars_all ps) h))
