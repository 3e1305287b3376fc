-- R keeps exactly the parameters that reach a mark, and U exactly the equations that are reached.
use Rattle.std.proofs.Common.{◌≡◌, ℕ, zero, suc, ◌<◌, Bool, true, false, ◌||◌, eqb, ◌⊎◌, List, [], ◌∷◌, map, length, get_or, Some, sym, refl, ap, ◌∙◌, subst, inl, inr, zero-add, arith}
use mathlib.Core.Bool.{false≢true}
use mathlib.Core.List.Memᴰ
use mathlib.Core.List.{Memᴰ}
use lib.ListN.{length-map}
use Rattle.std.proofs.lemmas.Bool.{eqb-true, eq-eqb, or_left, or_right}
use Rattle.definitions.specs.Lists.{at, some, flat, up_to, strike, sum}
use Rattle.definitions.specs.Alg.{Alg}
use Rattle.definitions.specs.Systems.{Occurrence, Clause, Equation, System}
use Rattle.definitions.specs.ReadSystem.{scope}
use Rattle.definitions.specs.Solution.{iter}
use Rattle.definitions.specs.Fits.{Every, header_of, OccurrenceFits, ClauseFits, BodyFits, SystemFits}
use Rattle.definitions.specs.Passes.{occurs_in, marked, occurrences, feeds, marks, needed, calls, chained, reachable}
use Rattle.definitions.specs.Reach.{ReachesMark, is_marked, leads_on, ReachedEquation, is_start, is_called}
use Rattle.theorems.specs.PassLaws.{RKeepsWhatReachesAMark, UKeepsWhatIsReached, UKeepsTruths}
use Rattle.fixpoint.proofs.Rounds.{pick}
use Rattle.theorems.proofs.Closing.{times_iter}
use Rattle.theorems.proofs.Listing.{at_some, get_or_some, every_at, at_map_some, at_mapped, from_long, at_lt}
use Rattle.theorems.proofs.Marks.{bit, needed_closed, get_or_from, true_low}
use Rattle.theorems.proofs.KeepsU.{strike_some, reached_closed, truth_kept}

pub or_cases : (p q : Bool) → (p || q) ≡ true → (p ≡ true) ⊎ (q ≡ true)
or_cases true q h = inl refl
or_cases false q h = inr h

-- some of a list, and a member
pub some_mem : {A : Type 0} (p : A → Bool) {x : A} {xs : List A} → Memᴰ x xs → p x ≡ true → some p xs ≡ true
some_mem p (Memᴰ.head {x = y} {xs} e) h = ap (λ b. pick b true (some p xs)) (ap p (sym e) ∙ h)
some_mem p (Memᴰ.tail {x = y} {xs} m) h = go (p y) (some_mem p m h)
  where
    go : (b : Bool) → some p xs ≡ true → pick b true (some p xs) ≡ true
    go true k = refl
    go false k = k

pub some_found : {A : Type 0} (p : A → Bool) (xs : List A) → some p xs ≡ true → (x : A) × (Memᴰ x xs) × (p x ≡ true)
some_found p [] h = absurd (false≢true h)
some_found {A} p (x ∷ xs) h = go (p x) refl h (some_found p xs)
  where
    go : (b : Bool) → p x ≡ b → pick b true (some p xs) ≡ true → (some p xs ≡ true → (y : A) × (Memᴰ y xs) × (p y ≡ true)) →
        (y : A) × (Memᴰ y (x ∷ xs)) × (p y ≡ true)
    go true e k ih = (x, Memᴰ.head refl, e)
    go false e k ih = let r = ih k in (r.0, Memᴰ.tail r.1, r.2)

-- and one of those that a mask keeps
strike_found : {A : Type 0} (p : A → Bool) (ms : List Bool) (xs : List A) → some p (strike ms xs) ≡ true →
    (n : ℕ) × (x : A) × (at xs n ≡ Some x) × (get_or ms n false ≡ true) × (p x ≡ true)
strike_found p [] xs h = absurd (false≢true h)
strike_found p (true ∷ ms) [] h = absurd (false≢true h)
strike_found p (false ∷ ms) [] h = absurd (false≢true h)
strike_found {A} p (true ∷ ms) (x ∷ xs) h = go (p x) refl h (strike_found p ms xs)
  where
    go : (b : Bool) → p x ≡ b → pick b true (some p (strike ms xs)) ≡ true →
        (some p (strike ms xs) ≡ true → (n : ℕ) × (y : A) × (at xs n ≡ Some y) × (get_or ms n false ≡ true) × (p y ≡ true)) →
        (n : ℕ) × (y : A) × (at (x ∷ xs) n ≡ Some y) × (get_or (true ∷ ms) n false ≡ true) × (p y ≡ true)
    go true e k ih = (0, x, refl, refl, e)
    go false e k ih = let r = ih k in (suc r.0, r.1, r.2, r.3, r.4)
strike_found p (false ∷ ms) (x ∷ xs) h = let r = strike_found p ms xs h in (suc r.0, r.1, r.2, r.3, r.4)

pub flat_mem_back : {A B : Type 0} (f : A → List B) (xs : List A) (y : B) → Memᴰ y (flat (map f xs)) → (x : A) × (Memᴰ x xs) × (Memᴰ y (f x))
flat_mem_back f [] y m = absurd (Memᴰ.not-nil m)
flat_mem_back {A} f (x ∷ xs) y m = go (Memᴰ.append_cases (f x) m) (flat_mem_back f xs y)
  where
    go : (Memᴰ y (f x)) ⊎ (Memᴰ y (flat (map f xs))) → (Memᴰ y (flat (map f xs)) → (z : A) × (Memᴰ z xs) × (Memᴰ y (f z))) →
        (z : A) × (Memᴰ z (x ∷ xs)) × (Memᴰ y (f z))
    go (inl k) ih = (x, Memᴰ.head refl, k)
    go (inr k) ih = let r = ih k in (r.0, Memᴰ.tail r.1, r.2)

pub every_mem : {A : Type 0} (P : A → Type 0) {x : A} {xs : List A} → Every P xs → Memᴰ x xs → P x
every_mem P h (Memᴰ.head e) = subst P (sym e) h.0
every_mem P h (Memᴰ.tail m) = every_mem P h.1 m

-- a row of tests
row_found : (g : ℕ → Bool) (n k : ℕ) → get_or (map g (up_to n)) k false ≡ true → (k < n) × (g k ≡ true)
row_found g n k h =
    let l : k < n = omega (arith, true_low (map g (up_to n)) k h, length-map (up_to n) g, from_long 0 n) in
    (l, sym (get_or_from g 0 n k l ∙ ap g (zero-add k)) ∙ h)

-- R
abbrev row_of : List (List Bool) → Equation → List Bool
row_of M e = map (λ k. marked e k || feeds M e k) (up_to (length e.sorts))

marks_found : (M : List (List Bool)) (es : List Equation) (i k : ℕ) → get_or (get_or (map (row_of M) es) i []) k false ≡ true →
    (e : Equation) × (at es i ≡ Some e) × (k < length e.sorts) × ((marked e k || feeds M e k) ≡ true)
marks_found M [] i k h = absurd (false≢true h)
marks_found M (e ∷ es) zero k h = let r = row_found (λ k. marked e k || feeds M e k) (length e.sorts) k h in (e, refl, r.0, r.1)
marks_found M (e ∷ es) (suc i) k h = marks_found M es i k h

rounds_reach : (s : System) (n i k : ℕ) → bit (iter n (marks s) []) (i, k) ≡ true → ReachesMark s i k
rounds_reach s zero i k h = absurd (false≢true h)
rounds_reach s (suc n) i k h =
    let (e, p, l, t) = marks_found (iter n (marks s) []) s.equations i k h in
    split (rounds_reach s n) e p l (or_cases (marked e k) (feeds (iter n (marks s) []) e k) t)
  where
    split : ((i k : ℕ) → bit (iter n (marks s) []) (i, k) ≡ true → ReachesMark s i k) → (e : Equation) → at s.equations i ≡ Some e → k < length e.sorts → (marked e k ≡ true) ⊎ (feeds (iter n (marks s) []) e k ≡ true) → ReachesMark s i k
    split ih e p l (inl m) = is_marked e p l m
    split ih e p l (inr m) =
        let (o, mem, q) = some_found (λ (o : Occurrence). some (occurs_in k) (strike (get_or (iter n (marks s) []) o.target []) o.arguments)) (occurrences e) m in
        let (j, t, there, kept, occurs) = strike_found (occurs_in k) (get_or (iter n (marks s) []) o.target []) o.arguments q in
        leads_on e o j t p l mem there occurs (ih o.target j kept)

mark_kept : (s : System) (i k : ℕ) (e : Equation) → at s.equations i ≡ Some e → k < length e.sorts → (marked e k || feeds (needed s) e k) ≡ true →
    bit (needed s) (i, k) ≡ true
mark_kept s i k e p l h =
    needed_closed s (i, k)
    (ap (λ z. get_or z k false) (get_or_some [] (marks s (needed s)) i _ (at_mapped (row_of (needed s)) s.equations i e p)) ∙
    get_or_from (λ k. marked e k || feeds (needed s) e k) 0 (length e.sorts) k l ∙ ap (λ z. marked e z || feeds (needed s) e z) (zero-add k) ∙ h)

reaching_kept : (s : System) {i k : ℕ} → ReachesMark s i k → bit (needed s) (i, k) ≡ true
reaching_kept s (is_marked {i} {k} e p l m) = mark_kept s i k e p l (or_left (marked e k) (feeds (needed s) e k) m)
reaching_kept s (leads_on {i} {k} e o n t p l mem there occurs r) =
    mark_kept s i k e p l (or_right (marked e k) (feeds (needed s) e k)
    (some_mem (λ (o : Occurrence). some (occurs_in k) (strike (get_or (needed s) o.target []) o.arguments)) mem
    (strike_some (occurs_in k) (get_or (needed s) o.target []) o.arguments n t (reaching_kept s r) there occurs)))

pub reaches_mark : RKeepsWhatReachesAMark
reaches_mark s i k = (
  λ h. rounds_reach s (sum (map (λ (e : Equation). length e.sorts) s.equations)) i k
      (sym (ap (λ (M : List (List Bool)). bit M (i, k)) (times_iter (sum (map (λ (e : Equation). length e.sorts) s.equations)) (marks s) [])) ∙ h),
  reaching_kept s,
)

-- U
rounds_reached : (s : System) (n j : ℕ) → get_or (iter n (chained s) []) j false ≡ true → ReachedEquation s j
rounds_reached s zero j h = absurd (false≢true h)
rounds_reached s (suc n) j h =
    split (rounds_reached s n) (or_cases (eqb j s.start) (some (calls j) (strike (iter n (chained s) []) s.equations))
    (row_found (λ j. eqb j s.start || some (calls j) (strike (iter n (chained s) []) s.equations)) (length s.equations) j h).1)
  where
    split : ((i : ℕ) → get_or (iter n (chained s) []) i false ≡ true → ReachedEquation s i) → (eqb j s.start ≡ true) ⊎ (some (calls j) (strike (iter n (chained s) []) s.equations) ≡ true) → ReachedEquation s j
    split ih (inl m) = subst (ReachedEquation s) (sym (eqb-true j s.start m)) is_start
    split ih (inr m) =
        let (i, e, there, kept, q) = strike_found (calls j) (iter n (chained s) []) s.equations m in
        let (o, mem, t) = some_found (λ (o : Occurrence). eqb o.target j) (occurrences e) q in
        subst (ReachedEquation s) (eqb-true o.target j t) (is_called e o there mem (ih i kept))

module _ (a : Alg) (s : System) (fit : SystemFits a s) where
  -- an occurrence of a system that fits has a target there
  pub target_low : (i : ℕ) (e : Equation) → at s.equations i ≡ Some e → (o : Occurrence) → Memᴰ o (occurrences e) → o.target < length s.equations
  target_low i e p o m =
      let b = every_at (BodyFits a (map header_of s.equations)) s.equations i e p fit.bodies in
      let (c, mc, mo) = flat_mem_back (λ (c : Clause). c.occurrences) e.clauses o m in
      let f = every_mem (OccurrenceFits a (map header_of s.equations) (scope (header_of e)))
      (every_mem (ClauseFits a (map header_of s.equations) (scope (header_of e))) b.fit mc).fit mo in
      let (q, eq, eh) = at_map_some header_of s.equations o.target f.header f.there in
      at_lt s.equations o.target q eq

  reaching_reached : {j : ℕ} → ReachedEquation s j → get_or (reachable s) j false ≡ true
  reaching_reached is_start =
      let (q, eq, eh) = at_map_some header_of s.equations s.start fit.header fit.there in
      reached_closed s s.start (at_lt s.equations s.start q eq) (or_left (eqb s.start s.start) _ (eq-eqb s.start s.start refl))
  reaching_reached (is_called {i} e o p m r) =
      reached_closed s o.target (target_low i e p o m) (or_right (eqb o.target s.start) _
      (strike_some (calls o.target) (reachable s) s.equations i e (reaching_reached r) p
      (some_mem (λ (u : Occurrence). eqb u.target o.target) m (eq-eqb o.target o.target refl))))

pub reached : UKeepsWhatIsReached
reached a s fit j = (
  λ h. rounds_reached s (length s.equations) j (sym (ap (λ (m : List Bool). get_or m j false) (times_iter (length s.equations) (chained s) [])) ∙ h),
  reaching_reached a s fit,
)

pub u_truths : UKeepsTruths
u_truths a law s fit x r =
    let k : get_or (reachable s) x.0 false ≡ true = reaching_reached a s fit r in
    let (e, p) = at_some s.equations x.0 (reached_low r) in
    truth_kept a s fit x e p k
  where
    reached_low : {j : ℕ} → ReachedEquation s j → j < length s.equations
    reached_low is_start = let (q, eq, eh) = at_map_some header_of s.equations s.start fit.header fit.there in at_lt s.equations s.start q eq
    reached_low (is_called {i} e o p m r) = target_low a s fit i e p o m
