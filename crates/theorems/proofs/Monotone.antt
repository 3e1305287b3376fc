-- Bodies compared part by part, under a relation of truths: equal where the parts are, and monotone in the assignment.
use Rattle.fixpoint.proofs.Truths.{implies, implied}
use Rattle.std.proofs.Common.{◌≡◌, ℕ, zero, suc, ◌+◌, ◌<◌, Bool, true, false, ◌&&◌, List, [], ◌∷◌, ◌++◌, map, Some, None, Option, sym, refl, ap, subst, ap₂, true≢false, append_assoc, arith}
use mathlib.Core.Bool.{le, false≢true}
use Rattle.std.proofs.lemmas.Bool.{lt-ltb}
use Rattle.definitions.specs.Lists.{at, each, some, from, up_to}
use Rattle.definitions.specs.Alg.{Alg, within}
use Rattle.definitions.specs.Systems.{Quantifier, exists, forall, Quantified, Clause, Equation, System}
use Rattle.definitions.specs.Values.{holds}
use Rattle.definitions.specs.Truth.{Instance, size_of, ranging, under, meant, clause_holds, inside_holds, equation_holds, body}
use Rattle.definitions.specs.Fits.{Every}
use Rattle.definitions.specs.Order.{truths, Monotone}
use Rattle.fixpoint.proofs.Rounds.{pick}
use Rattle.theorems.proofs.Listing.{every_of}

pub every_from : {P : ℕ → Type 0} (k n : ℕ) → ((v : ℕ) → v < k + n → P v) → Every P (from k n)
every_from k zero f = tt
every_from k (suc n) f = (f k (omega arith), every_from (suc k) n (λ v l. f v (omega arith)))

-- a relation of truths that and and or keep
pub record Logical (ρ : Bool → Bool → Type 0) : Type 0 where
  pub true_is : ρ true true
  pub false_is : ρ false false
  pub and_is : (p p' q q' : Bool) → ρ p p' → ρ q q' → ρ (pick p q false) (pick p' q' false)
  pub or_is : (p p' q q' : Bool) → ρ p p' → ρ q q' → ρ (pick p true q) (pick p' true q')

pub equals : Logical (λ p q. p ≡ q)
equals =
    record {
      true_is = refl;
      false_is = refl;
      and_is = λ p p' q q' h k. ap₂ (λ x y. pick x y false) h k;
      or_is = λ p p' q q' h k. ap₂ (λ x y. pick x true y) h k;
    }

and_le : (p p' q q' : Bool) → le p p' → le q q' → le (pick p q false) (pick p' q' false)
and_le true true q q' h k = k
and_le true false q q' h k = absurd (false≢true (h refl))
and_le false p' q q' h k = λ e. absurd (false≢true e)

or_le : (p p' q q' : Bool) → le p p' → le q q' → le (pick p true q) (pick p' true q')
or_le true true q q' h k = λ _. refl
or_le true false q q' h k = absurd (false≢true (h refl))
or_le false true q q' h k = λ _. refl
or_le false false q q' h k = k

pub orders : Logical le
orders = record { true_is = λ h. h; false_is = λ h. h; and_is = and_le; or_is = or_le }

module _ {ρ : Bool → Bool → Type 0} (L : Logical ρ) where
  pub each_is : {A : Type 0} (p q : A → Bool) (xs : List A) → Every (λ x. ρ (p x) (q x)) xs → ρ (each p xs) (each q xs)
  each_is p q [] h = L.true_is
  each_is p q (x ∷ xs) h = L.and_is (p x) (q x) (each p xs) (each q xs) h.0 (each_is p q xs h.1)

  pub some_is : {A : Type 0} (p q : A → Bool) (xs : List A) → Every (λ x. ρ (p x) (q x)) xs → ρ (some p xs) (some q xs)
  some_is p q [] h = L.false_is
  some_is p q (x ∷ xs) h = L.or_is (p x) (q x) (some p xs) (some q xs) h.0 (some_is p q xs h.1)

  pub ranging_is : (k : Quantifier) (p q : ℕ → Bool) (vs : List ℕ) → Every (λ v. ρ (p v) (q v)) vs → ρ (ranging k p vs) (ranging k q vs)
  ranging_is exists p q vs h = some_is p q vs h
  ranging_is forall p q vs h = each_is p q vs h

  -- under quantifiers: it suffices to look at values in range
  pub under_is : (a : Alg) (qs : List Quantified) (vs : List ℕ) (p q : List ℕ → Bool) →
      ((ws : List ℕ) → within (map (λ (x : Quantified). size_of a x.sort) qs) ws ≡ true → ρ (p (vs ++ ws)) (q (vs ++ ws))) →
      ρ (under a qs vs p) (under a qs vs q)
  under_is a [] vs p q h = subst (λ z. ρ (p z) (q z)) (append-nil vs) (h [] refl)
    where
      append-nil : (vs : List ℕ) → vs ++ [] ≡ vs
      append-nil [] = refl
      append-nil (v ∷ vs) = ap (λ z. v ∷ z) (append-nil vs)
  under_is a (x ∷ qs) vs p q h =
      ranging_is x.quantifier (λ v. under a qs (vs ++ (v ∷ [])) p) (λ v. under a qs (vs ++ (v ∷ [])) q) (up_to (size_of a x.sort))
      (every_from 0 (size_of a x.sort) (λ v l. under_is a qs (vs ++ (v ∷ [])) p q
      (λ ws w. subst (λ z. ρ (p z) (q z)) (sym (append_assoc vs (v ∷ []) ws))
      (h (v ∷ ws) (ap₂ (λ b c. b && c) (lt-ltb v (size_of a x.sort) (omega arith)) w)))))

  pub pick_is : (c d p p' z z' : Bool) → c ≡ d → (c ≡ true → ρ p p') → ρ z z' → ρ (pick c p z) (pick d p' z')
  pick_is true true p p' z z' e h k = h refl
  pick_is true false p p' z z' e h k = absurd (true≢false e)
  pick_is false true p p' z z' e h k = absurd (false≢true e)
  pick_is false false p p' z z' e h k = k

  module _ (a : Alg) (f g : Instance → Bool) (ps ps' vs : List ℕ) where
    -- the guards alike, and where they hold the occurrences
    pub clause_is : (c c' : Clause) → holds a ps vs c.guard ≡ holds a ps' vs c'.guard →
        (holds a ps vs c.guard ≡ true → ρ (some (λ o. f (meant a ps vs o)) c.occurrences) (some (λ o. g (meant a ps' vs o)) c'.occurrences)) →
        ρ (clause_holds a f ps vs c) (clause_holds a g ps' vs c')
    clause_is c c' e h =
        pick_is (holds a ps vs c.guard) (holds a ps' vs c'.guard) (some (λ o. f (meant a ps vs o)) c.occurrences)
        (some (λ o. g (meant a ps' vs o)) c'.occurrences) true true e h L.true_is

    pub inside_is : (e e' : Equation) → holds a ps vs e.h ≡ holds a ps' vs e'.h →
        (holds a ps vs e.h ≡ true → ρ (each (clause_holds a f ps vs) e.clauses) (each (clause_holds a g ps' vs) e'.clauses)) →
        ρ (inside_holds a f e ps vs) (inside_holds a g e' ps' vs)
    inside_is e e' h k =
        pick_is (holds a ps vs e.h) (holds a ps' vs e'.h) (each (clause_holds a f ps vs) e.clauses)
        (each (clause_holds a g ps' vs) e'.clauses) false false h k L.false_is

equation_mono : (a : Alg) (f g : Instance → Bool) → ((x : Instance) → le (f x) (g x)) → (o : Option Equation) (ps : List ℕ) →
    le (equation_holds a f o ps) (equation_holds a g o ps)
equation_mono a f g h None ps = λ e. e
equation_mono a f g h (Some e) ps =
    under_is orders a e.quantified [] (inside_holds a f e ps) (inside_holds a g e ps) (λ vs _.
    inside_is orders a f g ps ps vs e e refl (λ _.
    each_is orders (clause_holds a f ps vs) (clause_holds a g ps vs) e.clauses (every_of e.clauses (λ c.
    clause_is orders a f g ps ps vs c c refl (λ _.
    some_is orders (λ o. f (meant a ps vs o)) (λ o. g (meant a ps vs o)) c.occurrences
    (every_of c.occurrences (λ o. h (meant a ps vs o))))))))

-- bodies are monotone
pub body_mono : (a : Alg) (s : System) → Monotone truths (body a s)
body_mono a s f g h x =
    implies (body a s f x) (body a s g x) (equation_mono a f g (λ y. implied (f y) (g y) (h y)) (at s.equations x.0) x.1)
