-- Places that a walk finds, one by one with what stands there.
use Rattle.std.proofs.Common.{◌≡◌, ℕ, zero, suc, ◌≤◌, Bool, true, false, cond, not, ◌||◌, List, [], ◌∷◌, length, filter, Some, Option, get_or, refl, ap, arith}
use Rattle.definitions.specs.Lists.{at, bind, keep}
use Rattle.definitions.specs.Alg.{Alg}
use Rattle.definitions.specs.Systems.{Term, Clause}
use Rattle.definitions.specs.Values.{known, is_false}
use Rattle.definitions.specs.ReadSystem.{Scope, Header, greatest_depth}
use Rattle.definitions.specs.Fits.{Every, TermsFit}
use Rattle.terms.specs.Shapes.{standing}
use Rattle.system.specs.declared.places.ClauseAt.{ClauseAt}
use Rattle.system.specs.Walks.{Pairs}
use Rattle.passes.specs.declared.plan.Plan.{Plan}
use Rattle.passes.specs.Planned.{clause_stays}
use Rattle.passes.specs.Rewrites.{TermAt, ClauseThere, stays_at}

pub pairs_with : {X Y : Type 0} (P : X → Y → Type 0) (Q : Y → Type 0) (R : X → Y → Type 0) → ((x : X) (y : Y) → P x y → Q y → R x y) → (xs : List X) (ys : List Y) → Pairs P xs ys → Every Q ys → Pairs R xs ys
pairs_with P Q R f [] [] p q = tt
pairs_with P Q R f [] (y ∷ ys) p q = absurd p
pairs_with P Q R f (x ∷ xs) [] p q = absurd p
pairs_with P Q R f (x ∷ xs) (y ∷ ys) p q = (f x y p.0 q.0, pairs_with P Q R f xs ys p.1 q.1)

pub terms_there : (a : Alg) (c : Scope) (f : List ℕ) (ss ps : List ℕ) (ts : List Term) → TermsFit a c ss ts → length ps ≡ length ts → ((k : ℕ) (t : Term) → at ts k ≡ Some t → standing a greatest_depth f (get_or ps k 0) ≡ Some t) → Pairs (TermAt a c f) ps ts
terms_there a c f ss [] [] h l s = tt
terms_there a c f ss [] (t ∷ ts) h l s = absurd (omega arith)
terms_there a c f ss (p ∷ ps) [] h l s = absurd (omega arith)
terms_there a c f [] (p ∷ ps) (t ∷ ts) h l s = absurd h
terms_there a c f (n ∷ ss) (p ∷ ps) (t ∷ ts) h l s = (record { stands = s zero t refl; sort = n; fits = h.0 }, terms_there a c f ss ps ts h.1 (omega arith) (λ k u e. s (suc k) u e))

pub kept_few : {A : Type 0} (p : A → Bool) (xs : List A) → length (filter p xs) ≤ length xs
kept_few p [] = omega arith
kept_few p (x ∷ xs) = go (p x) (kept_few p xs)
  where
    go : (b : Bool) → length (filter p xs) ≤ length xs → length (cond b (x ∷ filter p xs) (filter p xs)) ≤ suc (length xs)
    go true h = omega arith
    go false h = omega arith

-- as many places pass the test as things that stand there
pub kept_alike : {X Y : Type 0} (R : X → Y → Type 0) (p : X → Bool) (r : Y → Bool) → ((x : X) (y : Y) → R x y → p x ≡ r y) → (xs : List X) (ys : List Y) → Pairs R xs ys → length (filter p xs) ≡ length (keep r ys)
kept_alike R p r f [] [] h = refl
kept_alike R p r f [] (y ∷ ys) h = absurd h
kept_alike R p r f (x ∷ xs) [] h = absurd h
kept_alike {X = X} {Y = Y} R p r f (x ∷ xs) (y ∷ ys) h = go (p x) (r y) (f x y h.0) (kept_alike R p r f xs ys h.1)
  where
    go : (b c : Bool) → b ≡ c → length (filter p xs) ≡ length (keep r ys) → length (cond b (x ∷ filter p xs) (filter p xs)) ≡ length {A = Y} (elim c [ true ↦ y ∷ keep r ys | false ↦ keep r ys ])
    go true true e l = ap suc l
    go true false e l = absurd cc
    go false true e l = absurd cc
    go false false e l = l

pub clause_alike : (a : Alg) (P : Plan) (hs : List Header) (c : Scope) (f : List ℕ) (x : ClauseAt) (k : Clause) → ClauseThere a hs c f x k → stays_at a P f x ≡ clause_stays a P k
clause_alike a P hs c f x k h = ap (λ (o : Option Term). not P.fold || not (is_false (bind o (known a [])))) h.found.guard
