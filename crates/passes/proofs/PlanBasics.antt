-- What plans have in common: masks place by place, and what a plan makes of a system whose parameters all stay, or of which no equation goes.
use Rattle.std.proofs.Common.{◌≡◌, ℕ, zero, suc, ◌+◌, ◌<◌, Bool, true, false, not as flip, ◌||◌, List, [], ◌∷◌, map, length, get_or, Some, None, Option, sym, refl, ap, ◌∙◌, subst, ap₂, zero-add, arith}
use mathlib.Core.Bool.{true≢false, false≢true}
use Rattle.definitions.specs.Lists.{at, keep, map_from, strike, place}
use Rattle.definitions.specs.Alg.{Alg}
use Rattle.definitions.specs.Systems.{Kind, parameter, variable, value, operation, not, and, or, equal, Term, Terms, node, none, more, term, folds, Occurrence, Clause, Equation, System}
use Rattle.definitions.specs.ReadSystem.{Scope, Header, scope}
use Rattle.definitions.specs.Values.{known, is_false}
use Rattle.definitions.specs.Terms.{on_parameter, replaced, truth_term, on_clause}
use Rattle.definitions.specs.Passes.{folded_as, folded, foldeds}
use Rattle.definitions.specs.Fits.{Every, Fits, header_of, OccurrenceFits, ClauseFits, BodyFits, SystemFits}
use Rattle.theorems.proofs.Listing.{get_or_some, at_mapped, at_map_some, at_lt, at_some, every_at, every_map, every_keep, map_from_long}
use Rattle.theorems.proofs.Cut.{OnKinds, OnAll, OnParameters, on_map, fits_scoped, terms_fit}
use Rattle.theorems.proofs.Refit.{strike_every}
use Rattle.theorems.proofs.Strict.{replaced_stays, on_parameters}
use Rattle.theorems.proofs.Tight.{Full, full_strike, full_place}
use Rattle.theorems.proofs.FitShapes.{values_long, terms_long}
use Rattle.passes.specs.declared.plan.ParameterChange.{ParameterChange}
use Rattle.passes.specs.declared.plan.ParameterChange.TheVariants.{Stays, Goes}
use Rattle.passes.specs.declared.plan.EquationChange.{EquationChange}
use Rattle.passes.specs.declared.plan.EquationChange.TheVariants as equation
use Rattle.passes.specs.declared.plan.Change.{Change}
use Rattle.passes.specs.declared.plan.Plan.{Plan}
use Rattle.passes.specs.Planned.{stays, remains, mask, remaining, change_of, unchanged, kind_by, folded_if, term_by, occurrence_by, clause_by, clause_stays, equation_by, system_by}
use Rattle.passes.specs.Plans.{Plans}
use Rattle.passes.proofs.Numbering.{kind_numbered}

-- lists changed alike
pub map_alike : {A B : Type 0} (f g : A → B) (xs : List A) → Every (λ x. f x ≡ g x) xs → map f xs ≡ map g xs
map_alike f g [] h = refl
map_alike f g (x ∷ xs) h = ap₂ (λ y ys. y ∷ ys) h.0 (map_alike f g xs h.1)

pub keep_every : {A : Type 0} (q : A → Bool) (xs : List A) → ((x : A) → q x ≡ true) → keep q xs ≡ xs
keep_every q [] h = refl
keep_every q (x ∷ xs) h = rw (h x, keep) (ap (λ ys. x ∷ ys) (keep_every q xs h))

map_from_alike : {A B : Type 0} (k : ℕ) (f g : ℕ → A → B) (xs : List A) → ((j : ℕ) (x : A) → at xs j ≡ Some x → f (k + j) x ≡ g (k + j) x) → map_from k f xs ≡ map_from k g xs
map_from_alike k f g [] h = refl
map_from_alike k f g (x ∷ xs) h =
    ap₂ (λ y ys. y ∷ ys) (subst (λ i. f i x ≡ g i x) (omega arith) (h 0 x refl))
    (map_from_alike (suc k) f g xs (λ j y e. subst (λ i. f i y ≡ g i y) (omega arith) (h (suc j) y e)))

map_from_plain : {A B : Type 0} (k : ℕ) (g : A → B) (xs : List A) → map_from k (λ i x. g x) xs ≡ map g xs
map_from_plain k g [] = refl
map_from_plain k g (x ∷ xs) = ap (λ ys. g x ∷ ys) (map_from_plain (suc k) g xs)

pub map_from_numbered : {A B : Type 0} (f g : ℕ → A → B) (xs : List A) → ((j : ℕ) (x : A) → at xs j ≡ Some x → f j x ≡ g j x) → map_from 0 f xs ≡ map_from 0 g xs
map_from_numbered f g xs h = map_from_alike 0 f g xs (λ j x e. subst (λ i. f i x ≡ g i x) (sym (zero-add j)) (h j x e))

pub map_from_is_map : {A B : Type 0} (f : ℕ → A → B) (g : A → B) (xs : List A) → ((j : ℕ) (x : A) → at xs j ≡ Some x → f j x ≡ g x) → map_from 0 f xs ≡ map g xs
map_from_is_map f g xs h = map_from_numbered f (λ i x. g x) xs h ∙ map_from_plain 0 g xs

-- a mask that is true at each of the first n places keeps them
pub full_by : (ms : List Bool) (n : ℕ) → ((j : ℕ) → j < n → get_or ms j false ≡ true) → Full ms n
full_by ms zero h = tt
full_by [] (suc n) h = absurd (false≢true (h 0 (omega arith)))
full_by (true ∷ ms) (suc n) h = full_by ms n (λ j l. h (suc j) (omega arith))
full_by (false ∷ ms) (suc n) h = absurd (false≢true (h 0 (omega arith)))

-- two masks that are the same at each of the first n places
abbrev pub Same : ℕ → List Bool → List Bool → Type 0
Same n ms ns = (j : ℕ) → j < n → get_or ms j false ≡ get_or ns j false

pub strike_same : {A : Type 0} (ms ns : List Bool) (xs : List A) → Same (length xs) ms ns → strike ms xs ≡ strike ns xs
strike_same [] [] xs h = refl
strike_same [] (n ∷ ns) [] h = refl
strike_same (m ∷ ms) [] [] h = refl
strike_same (m ∷ ms) (n ∷ ns) [] h = refl
strike_same [] (true ∷ ns) (x ∷ xs) h = absurd (false≢true (h 0 (omega arith)))
strike_same [] (false ∷ ns) (x ∷ xs) h = strike_same [] ns xs (λ k l. h (suc k) (omega arith))
strike_same (true ∷ ms) [] (x ∷ xs) h = absurd (true≢false (h 0 (omega arith)))
strike_same (false ∷ ms) [] (x ∷ xs) h = strike_same ms [] xs (λ k l. h (suc k) (omega arith))
strike_same (true ∷ ms) (true ∷ ns) (x ∷ xs) h = ap (λ ys. x ∷ ys) (strike_same ms ns xs (λ k l. h (suc k) (omega arith)))
strike_same (true ∷ ms) (false ∷ ns) (x ∷ xs) h = absurd (true≢false (h 0 (omega arith)))
strike_same (false ∷ ms) (true ∷ ns) (x ∷ xs) h = absurd (false≢true (h 0 (omega arith)))
strike_same (false ∷ ms) (false ∷ ns) (x ∷ xs) h = strike_same ms ns xs (λ k l. h (suc k) (omega arith))

pub place_same : (ms ns : List Bool) (n : ℕ) → Same n ms ns → place ms n ≡ place ns n
place_same [] [] n h = refl
place_same [] (b ∷ ns) zero h = refl
place_same (m ∷ ms) [] zero h = refl
place_same (m ∷ ms) (b ∷ ns) zero h = refl
place_same [] (true ∷ ns) (suc n) h = absurd (false≢true (h 0 (omega arith)))
place_same [] (false ∷ ns) (suc n) h = place_same [] ns n (λ k l. h (suc k) (omega arith))
place_same (true ∷ ms) [] (suc n) h = absurd (true≢false (h 0 (omega arith)))
place_same (false ∷ ms) [] (suc n) h = place_same ms [] n (λ k l. h (suc k) (omega arith))
place_same (true ∷ ms) (true ∷ ns) (suc n) h = ap suc (place_same ms ns n (λ k l. h (suc k) (omega arith)))
place_same (true ∷ ms) (false ∷ ns) (suc n) h = absurd (true≢false (h 0 (omega arith)))
place_same (false ∷ ms) (true ∷ ns) (suc n) h = absurd (false≢true (h 0 (omega arith)))
place_same (false ∷ ms) (false ∷ ns) (suc n) h = place_same ms ns n (λ k l. h (suc k) (omega arith))

-- what a plan tells of an equation
module _ {s : System} {folds : Bool} {what : ℕ → Equation → EquationChange} {each : ℕ → Equation → ℕ → ParameterChange} {P : Plan} (plan : Plans s folds what each P)
    (i : ℕ) (e : Equation) (p : at s.equations i ≡ Some e) where
  abbrev change : Change
  change = (plan.each_equation i e p).0

  change_is : change_of P i ≡ change
  change_is = get_or_some unchanged P.equations i change (plan.each_equation i e p).1.0

  pub equation_told : (change_of P i).equation ≡ what i e
  equation_told = ap (λ (c : Change). c.equation) change_is ∙ (plan.each_equation i e p).1.1.equation

  pub parameter_told : (n : ℕ) → n < length e.sorts → at (change_of P i).parameters n ≡ Some (each i e n)
  parameter_told n l = ap (λ (c : Change). at c.parameters n) change_is ∙ (plan.each_equation i e p).1.1.parameters n l

  pub remaining_told : get_or (remaining P) i false ≡ remains (what i e)
  remaining_told =
      get_or_some false (remaining P) i (remains change.equation) (at_mapped (λ (c : Change). remains c.equation) P.equations i change (plan.each_equation i e p).1.0) ∙
      ap remains (plan.each_equation i e p).1.1.equation

-- terms with the same put for each of their parameters
module _ (f g : ℕ → Kind) (P : ℕ → Type 0) (same : (n : ℕ) → P n → f n ≡ g n) where
  kind_same : (k : Kind) → OnParameters P k → on_parameter f k ≡ on_parameter g k
  kind_same (parameter n) h = same n h
  kind_same (variable n) h = refl
  kind_same (value s v) h = refl
  kind_same (operation o) h = refl
  kind_same not h = refl
  kind_same and h = refl
  kind_same or h = refl
  kind_same equal h = refl

  mutual
    replaced_same : (t : Term) → OnKinds t (OnParameters P) → replaced f t ≡ replaced g t
    replaced_same (node k ts) h = ap₂ term (kind_same k h.0) (replaced_sames ts h.1)

    replaced_sames : (ts : Terms) → OnAll ts (OnParameters P) →
        folds ts (λ q parts. term (on_parameter f q) parts) ≡ folds ts (λ q parts. term (on_parameter g q) parts)
    replaced_sames none h = refl
    replaced_sames (more t ts) h = ap₂ (λ x xs. x ∷ xs) (replaced_same t h.0) (replaced_sames ts h.1)

pub fits_same : (a : Alg) (c : Scope) (f g : ℕ → Kind) → ((n : ℕ) → n < length c.parameters → f n ≡ g n) → (d s : ℕ) (t : Term) → Fits a c d s t → replaced f t ≡ replaced g t
fits_same a c f g h d s t fit =
    replaced_same f g (λ n. (s : ℕ) × (at c.parameters n ≡ Some s)) (λ n p. h n (at_lt c.parameters n p.0 p.1)) t (fits_scoped a c fit)

-- folding brings no parameter
module _ (a : Alg) (Q : ℕ → Type 0) where
  either_on : (k : Kind) (o : Option ℕ) (ts : Terms) → OnParameters Q k → OnAll ts (OnParameters Q) → OnKinds (folded_as a k o ts) (OnParameters Q)
  either_on k None ts h g = (h, g)
  either_on k (Some v) ts h g = (tt, tt)

  mutual
    pub folded_on : (t : Term) → OnKinds t (OnParameters Q) → OnKinds (folded t a) (OnParameters Q)
    folded_on (node k ts) h = either_on k (known a [] (node k ts)) (foldeds ts a) h.0 (foldeds_on ts h.1)

    foldeds_on : (ts : Terms) → OnAll ts (OnParameters Q) → OnAll (foldeds ts a) (OnParameters Q)
    foldeds_on none h = tt
    foldeds_on (more t ts) h = (folded_on t h.0, foldeds_on ts h.1)

  pub folded_if_on : (b : Bool) (t : Term) → OnKinds t (OnParameters Q) → OnKinds (folded_if b a t) (OnParameters Q)
  folded_if_on true t h = folded_on t h
  folded_if_on false t h = h

-- an equation that stays, and one that becomes bare
abbrev pub whole_by : Alg → Plan → Change → Equation → Equation
whole_by a P c e =
    record {
      sign = e.sign;
      sorts = strike (mask c) e.sorts;
      quantified = e.quantified;
      h = term_by a P e.sorts c e.h;
      clauses = map (clause_by P (term_by a P e.sorts c)) (keep (clause_stays a P) e.clauses);
    }

abbrev pub bare_of : Equation → List ℕ → Equation
bare_of e ss = record { sign = e.sign; sorts = ss; quantified = []; h = truth_term 0; clauses = [] }

module _ (a : Alg) (P : Plan) (c : Change) (e : Equation) where
  abbrev by_change : EquationChange → Equation
  by_change q = elim q as (λ _. Equation) [ equation.Bare ↦ bare_of e (strike (mask c) e.sorts) | equation.Stays ↦ whole_by a P c e | equation.Goes ↦ whole_by a P c e ]

  pub made_bare : c.equation ≡ equation.Bare → equation_by a P c e ≡ bare_of e (strike (mask c) e.sorts)
  made_bare q = ap by_change q

  pub left_whole : c.equation ≡ equation.Stays → equation_by a P c e ≡ whole_by a P c e
  left_whole q = ap by_change q

  pub gone_whole : c.equation ≡ equation.Goes → equation_by a P c e ≡ whole_by a P c e
  gone_whole q = ap by_change q

-- a system, a clause and an occurrence by their parts, and an equation with other sorts, h and clauses
abbrev pub made_of : Equation → List ℕ → Term → List Clause → Equation
made_of e ss t ks = record { sign = e.sign; sorts = ss; quantified = e.quantified; h = t; clauses = ks }

abbrev pub system_of : List Equation → ℕ → List ℕ → System
system_of es n vs = record { equations = es; start = n; values = vs }

abbrev pub clause_of : Term → List Occurrence → Clause
clause_of t os = record { guard = t; occurrences = os }

abbrev pub occurrence_of : ℕ → List Term → Occurrence
occurrence_of j ts = record { target = j; arguments = ts }

-- a clause with its targets, its guard and its lists of arguments changed
module _ (to : ℕ → ℕ) (f : Term → Term) (fs : ℕ → List Term → List Term) where
  abbrev pub occurrence_to : Occurrence → Occurrence
  occurrence_to o = occurrence_of (to o.target) (fs o.target o.arguments)

  abbrev pub clause_to : Clause → Clause
  clause_to k = clause_of (f k.guard) (map occurrence_to k.occurrences)

-- what a plan makes of clauses that fit, by what it makes of terms, targets and lists of arguments
module _ (a : Alg) (s : System) (P : Plan) (c : Scope) (f g : Term → Term) (to : ℕ → ℕ) (fs : ℕ → List Term → List Term)
    (same : (r : ℕ) (t : Term) → Fits a c 32 r t → f t ≡ g t)
    (targets : (j : ℕ) → j < length s.equations → place (remaining P) j ≡ to j)
    (arguments : (j : ℕ) (e : Equation) → at s.equations j ≡ Some e → (ts : List Term) → length e.sorts ≡ length ts → Every (λ t. f t ≡ g t) ts → map f (strike (mask (change_of P j)) ts) ≡ fs j ts) where
  occurrence_told : (o : Occurrence) → OccurrenceFits a (map header_of s.equations) c o → occurrence_by P f o ≡ occurrence_to to g fs o
  occurrence_told o h =
      let (q, eq, eh) = at_map_some header_of s.equations o.target h.header h.there in
      ap₂ occurrence_of (targets o.target (at_lt s.equations o.target q eq))
      (arguments o.target q eq o.arguments (ap (λ (z : Header). length z.sorts) eh ∙ terms_long a c h.header.sorts o.arguments h.fit)
      (every_map o.arguments (λ t (p : (r : ℕ) × Fits a c 32 r t). same p.0 t p.1) (terms_fit a c h.header.sorts o.arguments h.fit)))

  clause_told : (k : Clause) → ClauseFits a (map header_of s.equations) c k → clause_by P f k ≡ clause_to to g fs k
  clause_told k h = ap₂ clause_of (same 0 k.guard h.guard) (map_alike (occurrence_by P f) (occurrence_to to g fs) k.occurrences (every_map k.occurrences occurrence_told h.fit))

-- the equation a system starts at
start_there : (a : Alg) (s : System) → SystemFits a s → (e : Equation) × (at s.equations s.start ≡ Some e) × (length e.sorts ≡ length s.values)
start_there a s fit =
    let (q, eq, eh) = at_map_some header_of s.equations s.start fit.header fit.there in
    (q, eq, ap (λ (z : Header). length z.sorts) eh ∙ values_long a fit.header.sorts s.values fit.values)

-- plans under which every parameter of the system stays
module _ (a : Alg) (s : System) (fit : SystemFits a s) (folds : Bool) (what : ℕ → Equation → EquationChange) (P : Plan) (plan : Plans s folds what (λ i e n. Stays) P) where
  mask_full : (i : ℕ) (e : Equation) → at s.equations i ≡ Some e → Full (mask (change_of P i)) (length e.sorts)
  mask_full i e p =
      full_by (mask (change_of P i)) (length e.sorts)
      (λ j l. get_or_some false (mask (change_of P i)) j true (at_mapped stays (change_of P i).parameters j Stays (parameter_told plan i e p j l)))

  cut_steady : {A : Type 0} (i : ℕ) (e : Equation) → at s.equations i ≡ Some e → (xs : List A) → length e.sorts ≡ length xs → strike (mask (change_of P i)) xs ≡ xs
  cut_steady i e p xs l = full_strike (mask (change_of P i)) xs (subst (Full (mask (change_of P i))) l (mask_full i e p))

  pub sorts_steady : (i : ℕ) (e : Equation) → at s.equations i ≡ Some e → strike (mask (change_of P i)) e.sorts ≡ e.sorts
  sorts_steady i e p = cut_steady i e p e.sorts refl

  module _ (i : ℕ) (e : Equation) (p : at s.equations i ≡ Some e) where
    kind_steady : (n : ℕ) → (q : ℕ) × (at e.sorts n ≡ Some q) → kind_by e.sorts (change_of P i) n ≡ parameter n
    kind_steady n (q, z) =
        let l = at_lt e.sorts n q z in
        kind_numbered e.sorts (change_of P i) n Stays (get_or_some Goes (change_of P i).parameters n Stays (parameter_told plan i e p n l)) (λ v y. absurd cc) ∙
        ap parameter (full_place (mask (change_of P i)) (length e.sorts) (mask_full i e p) n l)

    term_steady : {d q : ℕ} (t : Term) → Fits a (scope (header_of e)) d q t → term_by a P e.sorts (change_of P i) t ≡ folded_if folds a t
    term_steady t g =
        replaced_stays (kind_by e.sorts (change_of P i)) (folded_if P.fold a t)
        (on_map (on_parameters kind_steady) (folded_if P.fold a t)
        (folded_if_on a (λ n. (q : ℕ) × (at e.sorts n ≡ Some q)) P.fold t (fits_scoped a (scope (header_of e)) g))) ∙
        ap (λ b. folded_if b a t) plan.fold

  -- where targets become what is told, and folding makes of lists of terms what is told
  module _ (to : ℕ → ℕ) (targets : (j : ℕ) → j < length s.equations → place (remaining P) j ≡ to j) where
    pub system_steady : (es : List Equation) → strike (remaining P) (map_from 0 (λ i e. equation_by a P (change_of P i) e) s.equations) ≡ es →
        system_by a P s ≡ system_of es (to s.start) s.values
    system_steady es h =
        ap (λ es. system_of es (place (remaining P) s.start) (strike (mask (change_of P s.start)) s.values)) h ∙
        (let (q, eq, l) = start_there a s fit in ap₂ (system_of es) (targets s.start (at_lt s.equations s.start q eq)) (cut_steady s.start q eq s.values l))

    module _ (fs : ℕ → List Term → List Term) (all : (j : ℕ) (ts : List Term) → map (folded_if folds a) ts ≡ fs j ts) (i : ℕ) (e : Equation) (p : at s.equations i ≡ Some e) where
      abbrev r : Term → Term
      r = term_by a P e.sorts (change_of P i)

      clause_steady : (k : Clause) → ClauseFits a (map header_of s.equations) (scope (header_of e)) k → clause_by P r k ≡ clause_to to (folded_if folds a) fs k
      clause_steady =
          clause_told a s P (scope (header_of e)) r (folded_if folds a) to fs (λ q t. term_steady i e p t) targets
          (λ j q eq ts l h. ap (map r) (cut_steady j q eq ts l) ∙ map_alike r (folded_if folds a) ts h ∙ all j ts)

      abbrev clauses_left : Bool → List Clause
      clauses_left b = keep (λ (k : Clause). flip b || flip (is_false (known a [] k.guard))) e.clauses

      pub whole_steady : whole_by a P (change_of P i) e ≡ made_of e e.sorts (folded_if folds a e.h) (map (clause_to to (folded_if folds a) fs) (clauses_left folds))
      whole_steady =
          let b = every_at (BodyFits a (map header_of s.equations)) s.equations i e p fit.bodies in
          ap₂ (λ ss b. made_of e ss (r e.h) (map (clause_by P r) (clauses_left b))) (sorts_steady i e p) plan.fold ∙
          ap₂ (made_of e e.sorts) (term_steady i e p e.h b.h)
          (map_alike (clause_by P r) (clause_to to (folded_if folds a) fs) (clauses_left folds)
          (every_map (clauses_left folds) clause_steady
          (every_keep (ClauseFits a (map header_of s.equations) (scope (header_of e))) (λ (k : Clause). flip folds || flip (is_false (known a [] k.guard))) e.clauses b.fit)))

-- an equation with its terms changed and its occurrences' arguments struck
abbrev pub made : List (List Bool) → ℕ → (Term → Term) → Equation → Equation
made masks i f e = made_of e (strike (get_or masks i []) e.sorts) (f e.h) (map (on_clause (λ j ts. strike (get_or masks j []) ts) f) e.clauses)

abbrev pub given : List (List Bool) → (ℕ → Equation → Equation) → System → System
given masks F s = system_of (map_from 0 F s.equations) s.start (strike (get_or masks s.start []) s.values)

-- a plan under which no equation goes and nothing folds, and masks that say which parameters stay
pub record Steady (a : Alg) (s : System) (P : Plan) : Type 0 where
  pub fit : SystemFits a s
  pub what : ℕ → Equation → EquationChange
  pub each : ℕ → Equation → ℕ → ParameterChange
  pub plans : Plans s false what each P
  pub left : (i : ℕ) (e : Equation) → at s.equations i ≡ Some e → remains (what i e) ≡ true
  pub masks : List (List Bool)
  pub agree : (i : ℕ) (e : Equation) → at s.equations i ≡ Some e → (n : ℕ) → n < length e.sorts → stays (each i e n) ≡ get_or (get_or masks i []) n false

module _ (a : Alg) (s : System) (P : Plan) (y : Steady a s P) where
  remaining_full : Full (remaining P) (length s.equations)
  remaining_full =
      full_by (remaining P) (length s.equations)
      (λ k l. let (e, p) = at_some s.equations k l in remaining_told y.plans k e p ∙ y.left k e p)

  mask_agrees : (i : ℕ) (e : Equation) → at s.equations i ≡ Some e → (n : ℕ) → n < length e.sorts →
      get_or (mask (change_of P i)) n false ≡ get_or (get_or y.masks i []) n false
  mask_agrees i e p n l =
      get_or_some false (mask (change_of P i)) n (stays (y.each i e n)) (at_mapped stays (change_of P i).parameters n (y.each i e n) (parameter_told y.plans i e p n l)) ∙
      y.agree i e p n l

  pub struck : {A : Type 0} (i : ℕ) (e : Equation) → at s.equations i ≡ Some e → (xs : List A) → length e.sorts ≡ length xs →
      strike (mask (change_of P i)) xs ≡ strike (get_or y.masks i []) xs
  struck i e p xs l = strike_same (mask (change_of P i)) (get_or y.masks i []) xs (λ k m. mask_agrees i e p k (omega arith))

  pub placed : (i : ℕ) (e : Equation) → at s.equations i ≡ Some e → (n : ℕ) → n < length e.sorts → place (mask (change_of P i)) n ≡ place (get_or y.masks i []) n
  placed i e p n l = place_same (mask (change_of P i)) (get_or y.masks i []) n (λ k m. mask_agrees i e p k (omega arith))

  module _ (c : Scope) (f g : Term → Term) (same : (r : ℕ) (t : Term) → Fits a c 32 r t → f t ≡ g t) where
    clause_made : (k : Clause) → ClauseFits a (map header_of s.equations) c k → clause_by P f k ≡ on_clause (λ j ts. strike (get_or y.masks j []) ts) g k
    clause_made =
        clause_told a s P c f g (λ j. j) (λ j ts. map g (strike (get_or y.masks j []) ts)) same (full_place (remaining P) (length s.equations) remaining_full)
        (λ j q eq ts l h. ap (map f) (struck j q eq ts l) ∙ map_alike f g (strike (get_or y.masks j []) ts) (strike_every (λ t. f t ≡ g t) (get_or y.masks j []) ts h))

  unfolded : (t : Term) → folded_if P.fold a t ≡ t
  unfolded t = ap (λ b. folded_if b a t) y.plans.fold

  clause_left : (k : Clause) → clause_stays a P k ≡ true
  clause_left k = ap (λ b. flip b || flip (is_false (known a [] k.guard))) y.plans.fold

  module _ (i : ℕ) (e : Equation) (p : at s.equations i ≡ Some e) where
    -- an equation that stays
    pub stays_made : (f : Term → Term) → y.what i e ≡ equation.Stays → ((r : ℕ) (t : Term) → Fits a (scope (header_of e)) 32 r t → replaced (kind_by e.sorts (change_of P i)) t ≡ f t) →
        equation_by a P (change_of P i) e ≡ made y.masks i f e
    stays_made f w same =
        let c = change_of P i in
        let b = every_at (BodyFits a (map header_of s.equations)) s.equations i e p y.fit.bodies in
        let g = term_by a P e.sorts c in
        let is : (r : ℕ) (t : Term) → Fits a (scope (header_of e)) 32 r t → term_by a P e.sorts (change_of P i) t ≡ f t =
        λ r t h. ap (replaced (kind_by e.sorts (change_of P i))) (unfolded t) ∙ same r t h in
        left_whole a P (change_of P i) e (equation_told y.plans i e p ∙ w) ∙
        ap (λ ss. made_of e ss (g e.h) (map (clause_by P g) (keep (clause_stays a P) e.clauses))) (struck i e p e.sorts refl) ∙
        ap₂ (made_of e (strike (get_or y.masks i []) e.sorts)) (is 0 e.h b.h)
        (ap (map (clause_by P g)) (keep_every (clause_stays a P) e.clauses clause_left) ∙
        map_alike (clause_by P g) (on_clause (λ j ts. strike (get_or y.masks j []) ts) f) e.clauses
        (every_map e.clauses (clause_made (scope (header_of e)) g f is) b.fit))

    -- one that becomes bare
    pub bare_made : y.what i e ≡ equation.Bare → equation_by a P (change_of P i) e ≡ bare_of e (strike (get_or y.masks i []) e.sorts)
    bare_made w =
        made_bare a P (change_of P i) e (equation_told y.plans i e p ∙ w) ∙
        ap (bare_of e) (struck i e p e.sorts refl)

  pub system_made : (F : ℕ → Equation → Equation) → ((i : ℕ) (e : Equation) → at s.equations i ≡ Some e → equation_by a P (change_of P i) e ≡ F i e) → system_by a P s ≡ given y.masks F s
  system_made F h =
      let G : ℕ → Equation → Equation = λ i e. equation_by a P (change_of P i) e in
      let (q, eq, l) = start_there a s y.fit in
      let es : strike (remaining P) (map_from 0 G s.equations) ≡ map_from 0 F s.equations =
      full_strike (remaining P) (map_from 0 G s.equations) (subst (Full (remaining P)) (sym (map_from_long 0 G s.equations)) remaining_full) ∙
      map_from_numbered G F s.equations h in
      ap (λ es. system_of es (place (remaining P) s.start) (strike (mask (change_of P s.start)) s.values)) es ∙
      ap₂ (system_of (map_from 0 F s.equations)) (full_place (remaining P) (length s.equations) remaining_full s.start (at_lt s.equations s.start q eq)) (struck s.start q eq s.values l)
