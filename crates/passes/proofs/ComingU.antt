-- The equations that come to the list of U.
use Rattle.std.proofs.Common.{◌≡◌, ℕ, ◌+◌, ◌<◌, ◌≤◌, ◌⊎◌, inl, inr, Bool, true, false, List, map, replicate, length, Some, None, Option, sym, refl, ap, ◌∙◌, subst, arith}
use Rattle.std.proofs.lemmas.Bool.{eqb-true, eq-eqb}
use mathlib.Core.List.{Memᴰ}
use native.Mathlib.Decide.{dec_lt}
use Rattle.definitions.specs.Lists.{at, some}
use Rattle.definitions.specs.Alg.{Alg}
use Rattle.definitions.specs.Systems.{Occurrence, Clause, Equation, System}
use Rattle.definitions.specs.Fits.{SystemFits, HeaderFits, header_of}
use Rattle.definitions.specs.Passes.{occurrences}
use Rattle.definitions.specs.Reach.{ReachedEquation, is_start, is_called}
use Rattle.theorems.proofs.Listing.{some_same, at_lt, at_some, every_at, at_mapped}
use Rattle.theorems.proofs.Reaching.{reached as reachable_is}
use Rattle.theorems.proofs.Reaching.{flat_mem_back}
use Rattle.theorems.proofs.Gathered.{mem_has, has_mem, flat_has, reached_in, reachable_low, coded_few, tested_has, tested_not}
use Rattle.firstcome.specs.declared.FirstCome.{FirstCome}
use Rattle.firstcome.specs.Coming.{listed, Comes}
use Rattle.system.specs.declared.places.OccurrenceAt.{OccurrenceAt}
use Rattle.passes.specs.declared.unreachable_equations.EquationNumber.{EquationNumber}
use Rattle.system.specs.Walks.{Pairs, OccurrenceOf}
use Rattle.passes.specs.declared.plan.ParameterChange.TheVariants.{Stays}
use Rattle.passes.specs.declared.plan.EquationChange.{EquationChange}
use Rattle.passes.specs.declared.plan.EquationChange.TheVariants as equation
use Rattle.passes.specs.declared.plan.Change.{Change}
use Rattle.passes.specs.declared.plan.Plan.{Plan}
use Rattle.passes.specs.Plans.{keeping}
use Rattle.passes.specs.Comes.{Has, Once, Passing, Room, Brought, Targets, Called, Led, Keeping, reached, number, is_number}
use Rattle.passes.proofs.ComingPlans.{all_at, same_truth}
use Rattle.passes.proofs.Coming.{come_fits, come_brought, brought_as, brought_then, pair_at, pair_back}

number_exact : (i : ℕ) (y : EquationNumber) → is_number i y ≡ true → y ≡ number i
number_exact i y h = ap number (eqb-true y.index i h)

-- an equation comes
pub number_fits : {p : EquationNumber → Bool} (i : ℕ) (old new : FirstCome EquationNumber) (r : Option ℕ) → r ≡ None → Room p old → p (number i) ≡ true → Comes (is_number i) (number i) old new r → ⊥
number_fits {p} i old new r e room ok h =
    come_fits p (number i) ok (is_number i) (number_exact i) (eq-eqb i i refl) old new room (subst (Comes (is_number i) (number i) old new) e h)

pub number_brought : {p : EquationNumber → Bool} (i : ℕ) (old new : FirstCome EquationNumber) (r : Option ℕ) (k : ℕ) → r ≡ Some k → Room p old → p (number i) ≡ true → Comes (is_number i) (number i) old new r → Brought p (λ x. x ≡ number i) old new
number_brought {p} i old new r k e room ok h =
    come_brought p (number i) ok (is_number i) (number_exact i) (eq-eqb i i refl) old new room k (subst (Comes (is_number i) (number i) old new) e h)

-- the targets that are found are those of the occurrences
module _ (a : Alg) (f : List ℕ) (xs : List OccurrenceAt) (os : List Occurrence) (pairs : Pairs (λ y o. (u : ℕ) × OccurrenceOf a f o u y) xs os) where
  pub found_target : (x : EquationNumber) → Targets xs x → (o : Occurrence) × (Memᴰ o os) × (x ≡ number o.target)
  found_target x h =
      let q = pair_at (λ y o. (u : ℕ) × OccurrenceOf a f o u y) xs os h.0 h.1 pairs h.2 in
      (q.0, has_mem os h.0 q.0 q.1, h.3 ∙ ap number q.2.1.target)

  pub target_found : (x : EquationNumber) (o : Occurrence) → Memᴰ o os → x ≡ number o.target → Targets xs x
  target_found x o m e =
      let h = mem_has m in
      let q = pair_back (λ y o. (u : ℕ) × OccurrenceOf a f o u y) xs os h.0 o pairs h.1 in
      (h.0, q.0, q.1, e ∙ ap number (sym q.2.1.target))

-- those of one clause, and of all
abbrev pub Target : Clause → EquationNumber → Type 0
Target k x = (o : Occurrence) × (Memᴰ o k.occurrences) × (x ≡ number o.target)

pub target_called : (ks : List Clause) (i : ℕ) (k : Clause) → at ks i ≡ Some k → (x : EquationNumber) → Target k x → Called ks x
target_called ks i k e x h = (h.0, flat_has (λ (k : Clause). k.occurrences) (has_mem ks i k e) h.1, h.2)

pub called_target : (ks : List Clause) (x : EquationNumber) → Called ks x → (i : ℕ) × (k : Clause) × (at ks i ≡ Some k) × Target k x
called_target ks x h =
    let (k, mk, mo) = flat_mem_back (λ (k : Clause). k.occurrences) ks h.0 h.1 in
    let q = mem_has mk in
    (q.0, k, q.1, (h.0, mo, h.2))

-- what is followed of the first k that came
module _ (s : System) (p : EquationNumber → Bool) {old mid new : FirstCome EquationNumber} where
  pub led_next : (k : ℕ) (y : EquationNumber) (e : Equation) → at (listed mid) k ≡ Some y → at s.equations y.index ≡ Some e → Brought p (Led s (listed mid) k) old mid → Brought p (Called e.clauses) mid new → Brought p (Led s (listed new) (k + 1)) old new
  led_next k y e here is b c = brought_as p (λ x w. split x w.0 w.1 w.2 w.3 w.4 w.5 w.6) (brought_then p b c)
    where
      split : (x : EquationNumber) (j : ℕ) (z : EquationNumber) (u : Equation) → j < k + 1 → at (listed new) j ≡ Some z → at s.equations z.index ≡ Some u → Called u.clauses x → Led s (listed mid) k x ⊎ Called e.clauses x
      split x j z u l there q w = go (dec_lt j k)
        where
          go : Dec (j < k) → Led s (listed mid) k x ⊎ Called e.clauses x
          go (yes m) =
              let low = at_lt (listed mid) k y here in
              let v = at_some (listed mid) j (omega arith) in
              let same : v.0 ≡ z = some_same v.0 z (sym (c.kept j v.0 v.1) ∙ there) in
              inl (j, z, u, m, v.1 ∙ ap Some same, q, w)
          go (no m) =
              let at_k : j ≡ k = omega arith in
              let same : z ≡ y = some_same z y (sym there ∙ ap (at (listed new)) at_k ∙ c.kept k y here) in
              let one : u ≡ e = some_same u e (sym q ∙ ap (λ (n : EquationNumber). at s.equations n.index) same ∙ is) in
              inr (subst (λ (t : Equation). Called t.clauses x) one w)

pub led_all : (s : System) (p : EquationNumber → Bool) (k : ℕ) (old l : FirstCome EquationNumber) → length (listed l) ≤ k → Brought p (Led s (listed l) k) old l → Brought p (Led s (listed l) (length (listed l))) old l
led_all s p k old l all b = brought_as p (λ x w. (w.0, w.1, w.2, omega arith, w.4, w.5, w.6)) b

-- equations that are reached
module _ (a : Alg) (s : System) (fit : SystemFits a s) where
  pub start_reached : reached s (number s.start) ≡ true
  start_reached = (reachable_is a s fit s.start).1 is_start

  pub called_reached : (y : EquationNumber) (e : Equation) → reached s y ≡ true → at s.equations y.index ≡ Some e → (x : EquationNumber) → Called e.clauses x → reached s x ≡ true
  called_reached y e h is x w = (reachable_is a s fit x.index).1 (subst (λ (z : EquationNumber). ReachedEquation s z.index) (sym w.2) (is_called e w.0 is w.1 ((reachable_is a s fit y.index).0 h)))

  -- all came where the start's came, and those to which all that came lead
  pub all_reached : {old l : FirstCome EquationNumber} → Has (listed l) (number s.start) → Brought (reached s) (Led s (listed l) (length (listed l))) old l → Brought (reached s) (λ x. reached s x ≡ true) old l
  all_reached {l = l} start b = record { room = b.room; kept = b.kept; came = λ x h. reached_in s (λ j. Has (listed l) (number j)) start next ((reachable_is a s fit x.index).0 h) }
    where
      next : (i : ℕ) (e : Equation) (o : Occurrence) → Has (listed l) (number i) → at s.equations i ≡ Some e → Memᴰ o (occurrences e) → Has (listed l) (number o.target)
      next i e o h is m = b.came (number o.target) (h.0, number i, e, at_lt (listed l) h.0 (number i) h.1, h.1, is, (o, m, refl))

-- no more come than there are equations
pub few_reached : (s : System) (n : ℕ) → length s.equations ≤ n → (xs : List EquationNumber) → Once xs → Passing (reached s) xs → length xs ≤ n
few_reached s n few xs once pass =
    coded_few (λ (x : EquationNumber). x.index) n xs once (λ i x e. omega (arith, reachable_low s x.index (pass i x e))) (λ i j x y e f q. ap number q)

-- an equation stays or goes
abbrev pub kept : Bool → Change
kept b = record { equation = elim b [ true ↦ equation.Stays | false ↦ equation.Goes ]; parameters = replicate 15 Stays }

-- the plan that keeps what came keeps what is reached
pub keeping_reached : (a : Alg) (s : System) (P : Plan) {old l : FirstCome EquationNumber} → SystemFits a s → Brought (reached s) (λ x. reached s x ≡ true) old l → Keeping (λ i. some (is_number i) (listed l)) P → keeping s P
keeping_reached a s P {l = l} fit b k = record { fold = k.fold; each_equation = λ i e is. (kept (some (is_number i) (listed l)), (k.each i (let low = at_lt s.equations i e is in let few = fit.few in omega arith), record { equation = ap (λ b. elim b as (λ _. EquationChange) [ true ↦ equation.Stays | false ↦ equation.Goes ]) (came i); parameters = λ n m. all_at 15 n Stays (few i e is n m) })) }
  where
    came : (i : ℕ) → some (is_number i) (listed l) ≡ reached s (number i)
    came i =
        same_truth (some (is_number i) (listed l)) (reached s (number i))
        (λ h. let q = tested_has (is_number i) (number i) (number_exact i) (eq-eqb i i refl) (listed l) h in b.room.pass q.0 (number i) q.1)
        (λ h. go (some (is_number i) (listed l)) refl (b.came (number i) h))
      where
        go : (t : Bool) → some (is_number i) (listed l) ≡ t → Has (listed l) (number i) → t ≡ true
        go true e q = refl
        go false e q = absurd (tested_not (is_number i) (number i) (number_exact i) (eq-eqb i i refl) (listed l) e q)

    few : (i : ℕ) (e : Equation) → at s.equations i ≡ Some e → (n : ℕ) → n < length e.sorts → n < 15
    few i e is n m = let h = (every_at (HeaderFits a) (map header_of s.equations) i (header_of e) (at_mapped header_of s.equations i e is) fit.headers).few in omega arith

abbrev pub gone : Change → Change
gone c = record { equation = equation.Goes; parameters = c.parameters }
