-- The parameters that come to the list of R.
use Rattle.std.proofs.Common.{◌≡◌, ℕ, ◌+◌, ◌*◌, ◌<◌, ◌≤◌, ◌⊎◌, inl, inr, Bool, true, false, ◌&&◌, eqb, List, map, length, Some, None, Option, sym, refl, ap, ap₂, ◌∙◌, subst, arith}
use Rattle.std.proofs.lemmas.Bool.{eqb-true, eq-eqb, or_left, or_right}
use mathlib.Core.List.{Memᴰ}
use native.Mathlib.Decide.{dec_lt}
use Rattle.definitions.specs.Lists.{at, some, flat}
use Rattle.definitions.specs.Alg.{Alg}
use Rattle.definitions.specs.Systems.{Term, Occurrence, Clause, Equation, System}
use Rattle.definitions.specs.Fits.{SystemFits, HeaderFits, header_of}
use Rattle.definitions.specs.Passes.{occurs_in, marked, occurrences}
use Rattle.definitions.specs.Reach.{is_marked, leads_on}
use Rattle.theorems.proofs.Listing.{some_same, at_lt, at_some, every_at, at_mapped, and_left, and_right}
use Rattle.theorems.proofs.Reaching.{reaches_mark, some_mem, some_found, or_cases, flat_mem_back}
use Rattle.theorems.proofs.Gathered.{mem_has, has_mem, flat_has, reaching_in, needed_there, coded_few, tested_has, tested_not}
use Rattle.firstcome.specs.declared.FirstCome.{FirstCome}
use Rattle.firstcome.specs.Coming.{listed, Comes}
use Rattle.definitions.specs.Reading.{next}
use Rattle.definitions.specs.ReadSystem.{Header, read_body}
use Rattle.rows.specs.Listed.{listed as row}
use Rattle.system.specs.declared.outline.Equation.{Equation as Told}
use Rattle.system.specs.declared.outline.Outline.{Outline}
use Rattle.system.specs.Files.{kept_header}
use Rattle.system.specs.Whole.{kept_headers, Outlined}
use Rattle.passes.specs.declared.plan.ParameterChange.{ParameterChange}
use Rattle.passes.specs.declared.plan.ParameterChange.TheVariants.{Stays, Goes}
use Rattle.passes.specs.declared.plan.Plan.{Plan}
use Rattle.passes.specs.declared.redundant.Parameter.{Parameter}
use Rattle.passes.specs.Plans.{needing}
use Rattle.passes.specs.Comes.{Has, Once, Passing, Room, Brought, Occurring, Guarding, Marking, Feeding, Pointing, Marks, Points, Needing, parameter, is_parameter, wanted}
use Rattle.passes.proofs.ComingPlans.{same_truth}
use Rattle.passes.proofs.Coming.{listed_long, come_fits, come_brought, brought_as, brought_then, kept_long, kept_same}

-- equal parameters
parameter_exact : (i k : ℕ) (y : Parameter) → is_parameter i k y ≡ true → y ≡ parameter i k
parameter_exact i k y h = ap₂ parameter (eqb-true y.equation i (and_left (eqb y.equation i) (eqb y.index k) h)) (eqb-true y.index k (and_right (eqb y.equation i) (eqb y.index k) h))

parameter_own : (i k : ℕ) → is_parameter i k (parameter i k) ≡ true
parameter_own i k = ap₂ (λ p q. p && q) (eq-eqb i i refl) (eq-eqb k k refl)

-- a parameter comes
module _ {p : Parameter → Bool} (i k : ℕ) (old new : FirstCome Parameter) (r : Option ℕ) where
  pub parameter_fits : r ≡ None → Room p old → p (parameter i k) ≡ true → Comes (is_parameter i k) (parameter i k) old new r → ⊥
  parameter_fits e room ok h =
      come_fits p (parameter i k) ok (is_parameter i k) (parameter_exact i k) (parameter_own i k) old new room (subst (Comes (is_parameter i k) (parameter i k) old new) e h)

  pub parameter_brought : (n : ℕ) → r ≡ Some n → Room p old → p (parameter i k) ≡ true → Comes (is_parameter i k) (parameter i k) old new r → Brought p (λ x. x ≡ parameter i k) old new
  parameter_brought n e room ok h =
      come_brought p (parameter i k) ok (is_parameter i k) (parameter_exact i k) (parameter_own i k) old new room n (subst (Comes (is_parameter i k) (parameter i k) old new) e h)

-- one more parameter is looked for in a term
module _ (p : Parameter → Bool) (i : ℕ) (t : Term) {old mid : FirstCome Parameter} (k : ℕ) (b : Brought p (Occurring i k t) old mid) where
  split : (x : Parameter) (j : ℕ) → j < k + 1 → occurs_in j t ≡ true → x ≡ parameter i j → Occurring i k t x ⊎ ((occurs_in k t ≡ true) × (x ≡ parameter i k))
  split x j l o e = go (dec_lt j k)
    where
      go : Dec (j < k) → Occurring i k t x ⊎ ((occurs_in k t ≡ true) × (x ≡ parameter i k))
      go (yes m) = inl (j, m, o, e)
      go (no m) = let same : j ≡ k = omega arith in inr (subst (λ n. occurs_in n t ≡ true) same o, e ∙ ap (parameter i) same)

  pub occurring_next : (new : FirstCome Parameter) → Brought p (λ x. x ≡ parameter i k) mid new → Brought p (Occurring i (k + 1) t) old new
  occurring_next new c = brought_as p (λ x w. go x (split x w.0 w.1 w.2 w.3)) (brought_then p b c)
    where
      go : (x : Parameter) → Occurring i k t x ⊎ ((occurs_in k t ≡ true) × (x ≡ parameter i k)) → Occurring i k t x ⊎ (x ≡ parameter i k)
      go x (inl w) = inl w
      go x (inr w) = inr w.1

  pub occurring_skip : occurs_in k t ≡ false → Brought p (Occurring i (k + 1) t) old mid
  occurring_skip un = brought_as p (λ x w. go x (split x w.0 w.1 w.2 w.3)) b
    where
      go : (x : Parameter) → Occurring i k t x ⊎ ((occurs_in k t ≡ true) × (x ≡ parameter i k)) → Occurring i k t x
      go x (inl w) = w
      go x (inr w) = let clash : true ≡ false = sym w.0 ∙ un in absurd cc

-- a mark is in h or in a guard
module _ (i n : ℕ) (e : Equation) where
  pub mark_h : (x : Parameter) → Occurring i n e.h x → Marking i n e x
  mark_h x w = (w.0, w.1, or_left (occurs_in w.0 e.h) (some (λ (c : Clause). occurs_in w.0 c.guard) e.clauses) w.2, w.3)

  pub mark_guard : (x : Parameter) → Guarding i n e.clauses x → Marking i n e x
  mark_guard x w =
      let o = w.2 in
      (o.0, o.1, or_right (occurs_in o.0 e.h) (some (λ (c : Clause). occurs_in o.0 c.guard) e.clauses) (some_mem (λ (c : Clause). occurs_in o.0 c.guard) w.1 o.2), o.3)

  pub mark_split : (x : Parameter) → Marking i n e x → Occurring i n e.h x ⊎ Guarding i n e.clauses x
  mark_split x w = go (or_cases (occurs_in w.0 e.h) (some (λ (c : Clause). occurs_in w.0 c.guard) e.clauses) w.2)
    where
      go : (occurs_in w.0 e.h ≡ true) ⊎ (some (λ (c : Clause). occurs_in w.0 c.guard) e.clauses ≡ true) → Occurring i n e.h x ⊎ Guarding i n e.clauses x
      go (inl m) = inl (w.0, w.1, m, w.3)
      go (inr m) = let q = some_found (λ (c : Clause). occurs_in w.0 c.guard) e.clauses m in inr (q.0, q.1, (w.0, w.1, q.2, w.3))

-- what is fed by more is fed
pub feeding_up : (H K : Parameter → Type 0) (i n : ℕ) (o : Occurrence) → ((y : Parameter) → H y → K y) → (x : Parameter) → Feeding i n o H x → Feeding i n o K x
feeding_up H K i n o f x w = (w.0, w.1, w.2, f (parameter o.target w.0) w.3, w.4)

pub pointing_up : (H K : Parameter → Type 0) (i n : ℕ) (os : List Occurrence) → ((y : Parameter) → H y → K y) → (x : Parameter) → Pointing i n os H x → Pointing i n os K x
pointing_up H K i n os f x w = (w.0, w.1, feeding_up H K i n w.0 f x w.2)

-- what an outline tells of an equation
pub told_equation : (a : Alg) (f : List ℕ) (s : System) (o : Outline) → Outlined a f s o → (i : ℕ) (t : Told) → at (row o.equations) i ≡ Some t →
    (e : Equation) × (q : ℕ) × (at s.equations i ≡ Some e) × (read_body a (kept_headers o) (header_of e) f t.body ≡ next e q) × (length (row t.header.sorts) ≡ length e.sorts)
told_equation a f s o out i t p =
    let l = at_lt (row o.equations) i t p in
    let e = at_some s.equations i (omega (arith, out.count)) in
    let r = out.bodies i e.0 t e.1 p in
    let same : kept_header t.header ≡ header_of e.0 =
    some_same (kept_header t.header) (header_of e.0)
    (sym (at_mapped (λ (t : Told). kept_header t.header) (row o.equations) i t p) ∙ ap (λ hs. at hs i) out.headers ∙ at_mapped header_of s.equations i e.0 e.1) in
    (e.0, r.0, e.1, r.1, ap (λ (h : Header). length h.sorts) same)

-- what is marked, and what feeds what is wanted, is wanted
pub marks_wanted : (s : System) (x : Parameter) → Marks s x → wanted s x ≡ true
marks_wanted s x w =
    let m = w.3 in
    ap (wanted s) m.3 ∙ (reaches_mark s w.0 m.0).1 (is_marked w.1 w.2 m.1 m.2)

pub points_wanted : (s : System) (x : Parameter) → Points s (λ y. wanted s y ≡ true) x → wanted s x ≡ true
points_wanted s x w =
    let o = w.3 in
    let d = o.2 in
    let k = d.4 in
    ap (wanted s) k.3 ∙ (reaches_mark s w.0 k.0).1 (leads_on w.1 o.0 d.0 d.1 w.2 k.1 o.1 d.2 k.2 ((reaches_mark s o.0.target d.0).0 d.3))

-- all came where the marked came, and what feeds what came
pub all_wanted : (s : System) {old mid new : FirstCome Parameter} → Brought (wanted s) (Marks s) old mid → Brought (wanted s) (Points s (Has (listed new))) mid new → Brought (wanted s) (λ x. wanted s x ≡ true) old new
all_wanted s {new = new} b c =
    record {
      room = c.room;
      kept = λ k x e. c.kept k x (b.kept k x e);
      came = λ x h. reaching_in s (λ i k. Has (listed new) (parameter i k)) mark feed ((reaches_mark s x.equation x.index).0 h);
    }
  where
    mark : (i k : ℕ) (e : Equation) → at s.equations i ≡ Some e → k < length e.sorts → marked e k ≡ true → Has (listed new) (parameter i k)
    mark i k e p l m = let h = b.came (parameter i k) (i, e, p, (k, l, m, refl)) in (h.0, c.kept h.0 (parameter i k) h.1)

    feed : (i k : ℕ) (e : Equation) (o : Occurrence) (n : ℕ) (t : Term) → at s.equations i ≡ Some e → k < length e.sorts → Memᴰ o (occurrences e) → at o.arguments n ≡ Some t → occurs_in k t ≡ true →
        Has (listed new) (parameter o.target n) → Has (listed new) (parameter i k)
    feed i k e o n t p l m there occurs h = c.came (parameter i k) (i, e, p, (o, m, (n, t, there, h, (k, l, occurs, refl))))

-- no more are wanted than there are places for
few_sorts : (a : Alg) (s : System) → SystemFits a s → (i : ℕ) (e : Equation) → at s.equations i ≡ Some e → length e.sorts < 16
few_sorts a s fit i e is = (every_at (HeaderFits a) (map header_of s.equations) i (header_of e) (at_mapped header_of s.equations i e is) fit.headers).few

pub few_wanted : (a : Alg) (s : System) → SystemFits a s → (xs : List Parameter) → Once xs → Passing (wanted s) xs → length xs ≤ 465
few_wanted a s fit xs once pass = coded_few (λ (x : Parameter). 15 * x.equation + x.index) 465 xs once (λ i x e. let b = bounds i x e in omega (arith, b.0, b.1)) exact
  where
    bounds : (i : ℕ) (x : Parameter) → at xs i ≡ Some x → (x.equation < 31) × (x.index < 15)
    bounds i x e =
        let (t, p, l) = needed_there s x.equation x.index (pass i x e) in
        let few = few_sorts a s fit x.equation t p in
        let low = at_lt s.equations x.equation t p in
        let all = fit.few in
        (omega arith, omega arith)

    exact : (i j : ℕ) (x y : Parameter) → at xs i ≡ Some x → at xs j ≡ Some y → 15 * x.equation + x.index ≡ 15 * y.equation + y.index → x ≡ y
    exact i j x y e f q =
        let b = bounds i x e in
        let d = bounds j y f in
        let l = b.1 in
        let m = d.1 in
        let same : x.equation ≡ y.equation = omega arith in
        let alike : x.index ≡ y.index = omega arith in
        ap₂ parameter same alike

-- what is wanted for an argument: where H holds of the parameter that it is for
abbrev pub Fed : ℕ → ℕ → Occurrence → (Parameter → Type 0) → ℕ → Term → Parameter → Type 0
Fed i n o H j t x = H (parameter o.target j) × Occurring i n t x

-- whether a parameter came, by the search
pub came_parameter : (u v j : ℕ) (ys : List Parameter) → u ≡ v → some (is_parameter u j) ys ≡ true → Has ys (parameter v j)
came_parameter u v j ys e h = subst (λ w. Has ys (parameter w j)) e (tested_has (is_parameter u j) (parameter u j) (parameter_exact u j) (parameter_own u j) ys h)

pub not_come : (u v j : ℕ) (ys : List Parameter) → u ≡ v → some (is_parameter u j) ys ≡ false → Has ys (parameter v j) → ⊥
not_come u v j ys e h m = tested_not (is_parameter u j) (parameter u j) (parameter_exact u j) (parameter_own u j) ys h (subst (λ w. Has ys (parameter w j)) (sym e) m)

-- what points in a clause points in all
pub clause_points : (H : Parameter → Type 0) (i n : ℕ) (ks : List Clause) (j : ℕ) (k : Clause) → at ks j ≡ Some k → (x : Parameter) → Pointing i n k.occurrences H x → Pointing i n (flat (map (λ (k : Clause). k.occurrences) ks)) H x
clause_points H i n ks j k e x w = (w.0, flat_has (λ (k : Clause). k.occurrences) (has_mem ks j k e) w.1, w.2)

pub points_clause : (H : Parameter → Type 0) (i n : ℕ) (ks : List Clause) (x : Parameter) → Pointing i n (flat (map (λ (k : Clause). k.occurrences) ks)) H x → (j : ℕ) × (k : Clause) × (at ks j ≡ Some k) × Pointing i n k.occurrences H x
points_clause H i n ks x w =
    let (k, mk, mo) = flat_mem_back (λ (k : Clause). k.occurrences) ks w.0 w.1 in
    let q = mem_has mk in
    (q.0, k, q.1, (w.0, mo, w.2))

-- a round that brought nothing is the last
pub round_last : (s : System) (p : Parameter → Bool) (old mid new : FirstCome Parameter) → Brought p (λ x. ⊥) old mid → Brought p (Points s (Has (listed mid))) mid new → new.len ≡ mid.len → Brought p (Points s (Has (listed new))) old new
round_last s p old mid new b c e =
    let same : listed mid ≡ listed new = kept_same (listed mid) (listed new) c.kept (listed_long mid ∙ sym e ∙ sym (listed_long new)) in
    record {
      room = c.room;
      kept = λ k x q. c.kept k x (b.kept k x q);
      came = λ x w. c.came x (subst (λ ys. Points s (Has ys) x) (sym same) w);
    }

longer : (i a b : ℕ) → (a ≡ b → ⊥) → a ≤ b → i ≤ a → i + 1 ≤ b
longer i a b d l k = go (dec_lt a b)
  where
    go : Dec (a < b) → i + 1 ≤ b
    go (yes m) = omega arith
    go (no m) = absurd (d (omega arith))

-- and one that brought more made the list longer
pub round_more : (s : System) (p : Parameter → Bool) (i : ℕ) (old mid new : FirstCome Parameter) → Brought p (λ x. ⊥) old mid × (i ≤ length (listed mid)) → Brought p (Points s (Has (listed mid))) mid new → (new.len ≡ mid.len → ⊥) →
    Brought p (λ x. ⊥) old new × (i + 1 ≤ length (listed new))
round_more s p i old mid new b c d = (
  record { room = c.room; kept = λ k x q. c.kept k x (b.0.kept k x q); came = λ x w. absurd w },
  longer i (length (listed mid)) (length (listed new)) (λ q. d (sym (listed_long new) ∙ sym q ∙ listed_long mid)) (kept_long (listed mid) (listed new) c.kept) b.1,
)

-- a parameter stays or goes
abbrev pub stayed : Bool → ParameterChange
stayed b = elim b [ true ↦ Stays | false ↦ Goes ]

-- the plan that keeps what came keeps what is wanted
module _ (a : Alg) (s : System) (P : Plan) {old l : FirstCome Parameter} (fit : SystemFits a s) (b : Brought (wanted s) (λ x. wanted s x ≡ true) old l) where
  same_wanted : (i k : ℕ) → some (is_parameter i k) (listed l) ≡ wanted s (parameter i k)
  same_wanted i k =
      same_truth (some (is_parameter i k) (listed l)) (wanted s (parameter i k))
      (λ h. let q = tested_has (is_parameter i k) (parameter i k) (parameter_exact i k) (parameter_own i k) (listed l) h in b.room.pass q.0 (parameter i k) q.1)
      (λ h. go (some (is_parameter i k) (listed l)) refl (b.came (parameter i k) h))
    where
      go : (t : Bool) → some (is_parameter i k) (listed l) ≡ t → Has (listed l) (parameter i k) → t ≡ true
      go true e q = refl
      go false e q = absurd (tested_not (is_parameter i k) (parameter i k) (parameter_exact i k) (parameter_own i k) (listed l) e q)

  pub needing_wanted : Needing (λ i k. some (is_parameter i k) (listed l)) P → needing s P
  needing_wanted h =
      record {
        fold = h.fold;
        each_equation = λ i e is.
            let low = at_lt s.equations i e is in
            let few = fit.few in
            let r = h.each i (omega arith) in
            let m = few_sorts a s fit i e is in (
              r.0,
              (r.1, record { equation = r.2.equation; parameters = λ k l. r.2.each k (omega arith) ∙ ap (λ b. Some (stayed b)) (same_wanted i k) }),
            );
      }
