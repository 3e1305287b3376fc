-- A pass that does not lower the weight of a system that fits changes nothing.
use Rattle.std.proofs.Common.{◌≡◌, ℕ, zero, suc, ◌+◌, ◌<◌, ◌≤◌, Bool, true, false, not as flip, ◌&&◌, eqb, List, [], ◌∷◌, map, length, get_or, Some, None, Option, sym, refl, ap, ◌∙◌, subst, ap₂, arith, eqb-true}
use Rattle.definitions.specs.Lists.{at, sum, map_from, strike, place, keep, is_some}
use Rattle.definitions.specs.Alg.{Alg}
use Rattle.definitions.specs.Systems.{Kind, parameter, variable, value, operation, not, and, or, equal, Term, Terms, node, none, more, terms, term, folds, Quantified, Occurrence, Clause, Equation, System}
use Rattle.definitions.specs.Values.{known, is_false}
use Rattle.definitions.specs.ReadSystem.{Scope, Header, scope}
use Rattle.definitions.specs.Fits.{Fits, FitsArgs, fit_parameter, fit_variable, fit_value, fit_operation, fit_not, fit_and, fit_or, fit_equal, fit_none, fit_more, OccurrenceFits, ClauseFits, BodyFits, SystemFits, header_of}
use Rattle.definitions.specs.Terms.{on_parameter, replaced, truth_term, on_occurrence, on_clause, cut_equation, cut}
use Rattle.definitions.specs.Constants.{Known, kind_for, bare, inserted, unknown_of, pass_c, least_knowledge}
use Rattle.definitions.specs.Passes.{folded, foldeds, folded_as, folded_equation, pass_f, needed, pass_r, renamed, reachable, pass_u}
use Rattle.definitions.specs.Settle.{kind_weight, term_weight, occurrence_weight, clause_weight, false_term, fullness, equation_weight, weight}
use Rattle.theorems.proofs.KeepsF.{opened}
use Rattle.theorems.proofs.Listing.{every_map, every_at, every_two, at_map_some, get_or_some, at_map_from, at_lt}
use Rattle.theorems.proofs.FitShapes.{values_long, terms_long}
use Rattle.theorems.proofs.Cut.{OnKinds, OnAll, OnParameters, on_map, fits_scoped, terms_fit}
use Rattle.theorems.proofs.KeepsC.{inserted_sorts}
use Rattle.theorems.proofs.Weights.{W, map_le, from_le, strike_le, keep_le, replaced_le, full_le, full_one, clause_le, occurrence_le, cut_le, inserted_le, renamed_same, folded_le, foldeds_le, full_folded, folded_equation_lem}
use Rattle.theorems.proofs.Tight.{map_tight, map_same, zero_plus, tight_0, same_0, Full, full_strike, full_place, full_of, full_weight, nothing, no_length, keep_tight}

-- terms whose parameters stay
module _ (f : ℕ → Kind) where
  kind_stays : (k : Kind) → OnParameters (λ n. f n ≡ parameter n) k → on_parameter f k ≡ k
  kind_stays (parameter n) h = h
  kind_stays (variable n) h = refl
  kind_stays (value s v) h = refl
  kind_stays (operation o) h = refl
  kind_stays not h = refl
  kind_stays and h = refl
  kind_stays or h = refl
  kind_stays equal h = refl

  mutual
    pub replaced_stays : (t : Term) → OnKinds t (OnParameters (λ n. f n ≡ parameter n)) → replaced f t ≡ t
    replaced_stays (node k ts) h = ap₂ (λ (k : Kind) (ts : Terms). node k ts) (kind_stays k h.0) (all_stay ts h.1)

    all_stay : (ts : Terms) → OnAll ts (OnParameters (λ n. f n ≡ parameter n)) → terms (folds ts (λ k parts. term (on_parameter f k) parts)) ≡ ts
    all_stay none h = refl
    all_stay (more t ts) h = ap₂ (λ (t : Term) (ts : Terms). more t ts) (replaced_stays t h.0) (all_stay ts h.1)

pub on_parameters : {P Q : ℕ → Type 0} → ((n : ℕ) → P n → Q n) → (k : Kind) → OnParameters P k → OnParameters Q k
on_parameters f (parameter n) h = f n h
on_parameters f (variable n) h = tt
on_parameters f (value s v) h = tt
on_parameters f (operation o) h = tt
on_parameters f not h = tt
on_parameters f and h = tt
on_parameters f or h = tt
on_parameters f equal h = tt

-- a term that fits stays where the parameters of its scope do
fits_stays : (a : Alg) (c : Scope) (f : ℕ → Kind) → ((n : ℕ) → n < length c.parameters → f n ≡ parameter n) → {d s : ℕ} {t : Term} → Fits a c d s t → replaced f t ≡ t
fits_stays a c f h {t = t} fit = replaced_stays f t (on_map (on_parameters (λ n (p : (s : ℕ) × (at c.parameters n ≡ Some s)). h n (at_lt c.parameters n p.0 p.1))) t (fits_scoped a c fit))

-- clauses whose terms and arguments stay
module _ (a : Alg) (hs : List Header) (c : Scope) (g : ℕ → List Term → List Term) (f : Term → Term)
    (hf : (s : ℕ) (t : Term) → Fits a c 32 s t → f t ≡ t)
    (hg : (o : Occurrence) → OccurrenceFits a hs c o → g o.target o.arguments ≡ o.arguments) where
  occurrence_stays : (o : Occurrence) → OccurrenceFits a hs c o → on_occurrence g f o ≡ o
  occurrence_stays o fit =
      let e : map f (g o.target o.arguments) ≡ o.arguments = ap (map f) (hg o fit) ∙ map_same f o.arguments (every_map o.arguments (λ t (p : (s : ℕ) × Fits a c 32 s t). hf p.0 t p.1) (terms_fit a c fit.header.sorts o.arguments fit.fit)) in
      ap (λ (ts : List Term). record { target = o.target; arguments = ts }) e

  clause_stays : (k : Clause) → ClauseFits a hs c k → on_clause g f k ≡ k
  clause_stays k fit =
      ap₂ (λ (t : Term) (os : List Occurrence). record { guard = t; occurrences = os }) (hf 0 k.guard fit.guard)
      (map_same (on_occurrence g f) k.occurrences (every_map k.occurrences occurrence_stays fit.fit))

equation_is : (e : Equation) {ss : List ℕ} {t : Term} {ks : List Clause} → ss ≡ e.sorts → t ≡ e.h → ks ≡ e.clauses →
    record { sign = e.sign; sorts = ss; quantified = e.quantified; h = t; clauses = ks } ≡ e
equation_is e {ss} {t} {ks} p q r =
    ap (λ (ss : List ℕ). record { sign = e.sign; sorts = ss; quantified = e.quantified; h = t; clauses = ks }) p ∙
    (ap (λ (t : Term). record { sign = e.sign; sorts = e.sorts; quantified = e.quantified; h = t; clauses = ks }) q ∙
    ap (λ (ks : List Clause). record { sign = e.sign; sorts = e.sorts; quantified = e.quantified; h = e.h; clauses = ks }) r)

-- removing nothing
abbrev Whole : List (List Bool) → List Equation → Type 0
Whole masks es = (i : ℕ) (e : Equation) → at es i ≡ Some e → Full (get_or masks i []) (length e.sorts)

module _ (a : Alg) (s : System) (fit : SystemFits a s) (masks : List (List Bool)) (w : Whole masks s.equations) where
  hs : List Header
  hs = map header_of s.equations

  target_full : (i : ℕ) (h : Header) → at (map header_of s.equations) i ≡ Some h → Full (get_or masks i []) (length h.sorts)
  target_full i h e =
      let x = at_map_some header_of s.equations i h e in
      subst (λ (h : Header). Full (get_or masks i []) (length h.sorts)) x.2 (w i x.0 x.1)

  cut_equation_stays : (i : ℕ) (e : Equation) → at s.equations i ≡ Some e → cut_equation masks i e ≡ e
  cut_equation_stays i e p =
      let full = w i e p in
      let mask = get_or masks i [] in
      let c = scope (header_of e) in
      let body = every_at (BodyFits a (map header_of s.equations)) s.equations i e p fit.bodies in
      let stays : (r : ℕ) (t : Term) → Fits a (scope (header_of e)) 32 r t → replaced (λ n. parameter (place (get_or masks i []) n)) t ≡ t =
      λ r t x. fits_stays a (scope (header_of e)) (λ n. parameter (place (get_or masks i []) n)) (λ n l. ap parameter (full_place (get_or masks i []) (length e.sorts) full n l)) x in
      equation_is e (full_strike mask e.sorts full) (stays 0 e.h body.h)
      (map_same (on_clause (λ j ts. strike (get_or masks j []) ts) (replaced (λ n. parameter (place (get_or masks i []) n)))) e.clauses
      (every_map e.clauses
      (clause_stays a (map header_of s.equations) c (λ j ts. strike (get_or masks j []) ts) (replaced (λ n. parameter (place (get_or masks i []) n))) stays
      (λ o x. full_strike (get_or masks o.target []) o.arguments (subst (Full (get_or masks o.target [])) (terms_long a c x.header.sorts o.arguments x.fit) (target_full o.target x.header x.there))))
      body.fit))

  cut_stays : cut masks s ≡ s
  cut_stays =
      let p : map_from 0 (cut_equation masks) s.equations ≡ s.equations = same_0 (cut_equation masks) s.equations cut_equation_stays in
      let v : strike (get_or masks s.start []) s.values ≡ s.values =
      full_strike (get_or masks s.start []) s.values (subst (Full (get_or masks s.start [])) (values_long a fit.header.sorts s.values fit.values) (target_full s.start fit.header fit.there)) in
      ap₂ (λ (es : List Equation) (vs : List ℕ). record { equations = es; start = s.start; values = vs }) p v

-- an equation as heavy after removing keeps its parameters
cut_keeps_all : (masks : List (List Bool)) (i : ℕ) (e : Equation) → equation_weight e ≤ equation_weight (cut_equation masks i e) → Full (get_or masks i []) (length e.sorts)
cut_keeps_all masks i e l =
    let mask = get_or masks i [] in
    let f : ℕ → Kind = λ n. parameter (place mask n) in
    let one : (n : ℕ) → kind_weight (f n) ≤ 1 = λ n. omega arith in
    full_of mask e.sorts (omega (
      arith,
      full_le e.h f,
      replaced_le e.h f one,
      map_le clause_weight (on_clause (λ j ts. strike (get_or masks j []) ts) (replaced f))
          (clause_le (λ j ts. strike (get_or masks j []) ts) (replaced f) (λ j ts. strike_le term_weight (get_or masks j []) ts) (λ t. replaced_le t f one)) e.clauses,
    ))

whole_masks : (masks : List (List Bool)) (es : List Equation) → sum (map equation_weight es) ≤ sum (map equation_weight (map_from 0 (cut_equation masks) es)) → Whole masks es
whole_masks masks es l i e p = cut_keeps_all masks i e (tight_0 equation_weight (cut_equation masks) (cut_le masks) es l i e p)

pub r_strict : (a : Alg) (s : System) → SystemFits a s → weight s ≤ weight (pass_r a s) → pass_r a s ≡ s
r_strict a s fit l = cut_stays a s fit (needed s) (whole_masks (needed s) s.equations l)

-- U
equation_heavy : (e : Equation) → 1 ≤ equation_weight e
equation_heavy e = omega (arith, full_one (false_term e.h))

clause_heavy : (c : Clause) → 1 ≤ clause_weight c
clause_heavy c = omega arith

module _ (f : ℕ → ℕ) where
  abbrev targeted : Occurrence → Occurrence
  targeted o = record { target = f o.target; arguments = o.arguments }

  abbrev retargeted : Clause → Clause
  retargeted c = record { guard = c.guard; occurrences = map targeted c.occurrences }

  renamed_stays : (a : Alg) (hs : List Header) → ((j : ℕ) (h : Header) → at hs j ≡ Some h → f j ≡ j) → (e : Equation) → BodyFits a hs e → renamed f e ≡ e
  renamed_stays a hs h e body =
      equation_is e refl refl
      (map_same retargeted e.clauses (every_map e.clauses (λ c (k : ClauseFits a hs (scope (header_of e)) c).
      ap (λ (os : List Occurrence). record { guard = c.guard; occurrences = os })
      (map_same targeted c.occurrences (every_map c.occurrences (λ o (x : OccurrenceFits a hs (scope (header_of e)) o).
      ap (λ (j : ℕ). record { target = j; arguments = o.arguments }) (h o.target x.header x.there)) k.fit))) body.fit))

pub u_strict : (a : Alg) (s : System) → SystemFits a s → weight s ≤ weight (pass_u a s) → pass_u a s ≡ s
u_strict a s fit l =
    let mask = reachable s in
    let es = s.equations in
    let full : Full mask (length es) = full_weight equation_weight equation_heavy mask es (omega (arith, map_le equation_weight (renamed (place mask)) (renamed_same (place mask)) (strike mask es))) in
    let same : (j : ℕ) (h : Header) → at (map header_of es) j ≡ Some h → place mask j ≡ j =
    λ j h e. let x = at_map_some header_of es j h e in full_place mask (length es) full j (at_lt es j x.0 x.1) in
    let eqs : map (renamed (place mask)) (strike mask es) ≡ es =
    ap (map (renamed (place mask))) (full_strike mask es full) ∙ map_same (renamed (place mask)) es (every_map es (renamed_stays (place mask) a (map header_of es) same) fit.bodies) in
    ap₂ (λ (es : List Equation) (n : ℕ). record { equations = es; start = n; values = s.values }) eqs (same s.start fit.header fit.there)

-- bare equations
false_is : (a : Alg) (c : Scope) {d s : ℕ} {t : Term} → Fits a c d s t → fullness (false_term t) ≤ 1 → truth_term 0 ≡ t
false_is a c (fit_parameter l e) f = absurd (omega arith)
false_is a c (fit_variable l e) f = absurd (omega arith)
false_is a c (fit_value {s = s} {v = v} l k e m) f = go (eqb s 0) refl (eqb v 0) refl f
  where
    go : (b : Bool) → eqb s 0 ≡ b → (c : Bool) → eqb v 0 ≡ c → fullness (b && c) ≤ 1 → truth_term 0 ≡ node (value s v) none
    go true p true q f = ap₂ (λ (s v : ℕ). node (value s v) none) (sym (eqb-true s 0 p)) (sym (eqb-true v 0 q))
    go true p false q f = absurd (omega arith)
    go false p c q f = absurd (omega arith)
false_is a c (fit_operation l e k h) f = absurd (omega arith)
false_is a c (fit_not h) f = absurd (omega arith)
false_is a c (fit_and h k) f = absurd (omega arith)
false_is a c (fit_or h k) f = absurd (omega arith)
false_is a c (fit_equal h k) f = absurd (omega arith)

bare_stays : (a : Alg) (c : Scope) (e : Equation) → Fits a c 32 0 e.h → equation_weight e ≤ equation_weight (bare e) → bare e ≡ e
bare_stays a c e fit l =
    let q : e.quantified ≡ [] = no_length e.quantified (omega (arith, full_one (false_term e.h))) in
    let k : e.clauses ≡ [] = nothing clause_weight clause_heavy e.clauses (omega (arith, full_one (false_term e.h))) in
    let t : truth_term 0 ≡ e.h = false_is a c fit (omega arith) in
    ap (λ (qs : List Quantified). record { sign = e.sign; sorts = e.sorts; quantified = qs; h = truth_term 0; clauses = [] }) (sym q) ∙ equation_is e refl t (sym k)

-- C
unknown_all : (ks : Known) (m : ℕ) → Full (map (λ k. flip (is_some k)) ks) m → (n : ℕ) → n < m → get_or ks n None ≡ None
unknown_all ks zero f n l = absurd (omega arith)
unknown_all [] (suc m) f n l = absurd f
unknown_all (None ∷ ks) (suc m) f zero l = refl
unknown_all (None ∷ ks) (suc m) f (suc n) l = unknown_all ks m f n (omega arith)
unknown_all (Some v ∷ ks) (suc m) f n l = absurd f

kind_for_lem : (ss : List ℕ) (ks : Known) (n : ℕ) → get_or ks n None ≡ None → kind_for ss ks n ≡ parameter n
kind_for_lem ss ks n e = rw (e, kind_for) refl

inserted_stays : (a : Alg) (hs : List Header) (e : Equation) (k : Option Known) → BodyFits a hs e → Full (unknown_of e k) (length e.sorts) →
    equation_weight e ≤ equation_weight (inserted e k) → inserted e k ≡ e
inserted_stays a hs e None body full l = bare_stays a (scope (header_of e)) e body.h l
inserted_stays a hs e (Some ks) body full l =
    let c = scope (header_of e) in
    let stays : (r : ℕ) (t : Term) → Fits a (scope (header_of e)) 32 r t → replaced (kind_for e.sorts ks) t ≡ t =
    λ r t x. fits_stays a (scope (header_of e)) (kind_for e.sorts ks) (λ n m. kind_for_lem e.sorts ks n (unknown_all ks (length e.sorts) full n m)) x in
    equation_is e refl (stays 0 e.h body.h)
    (map_same (on_clause (λ j ts. ts) (replaced (kind_for e.sorts ks))) e.clauses
    (every_map e.clauses (clause_stays a hs c (λ j ts. ts) (replaced (kind_for e.sorts ks)) stays (λ o x. refl)) body.fit))

pub c_strict : (a : Alg) (s : System) → SystemFits a s → weight s ≤ weight (pass_c a s) → pass_c a s ≡ s
c_strict a s fit l =
    let es = s.equations in
    let K = least_knowledge a s in
    let g : ℕ → Equation → Equation = λ i e. inserted e (get_or K i None) in
    let u : ℕ → Equation → List Bool = λ i e. unknown_of e (get_or K i None) in
    let masks = map_from 0 u es in
    let l₁ : sum (map equation_weight (map_from 0 g es)) ≤ sum (map equation_weight (map_from 0 (cut_equation masks) (map_from 0 g es))) =
    omega (arith, from_le equation_weight 0 g (λ i e. inserted_le e (get_or K i None)) es) in
    let l₂ : sum (map equation_weight es) ≤ sum (map equation_weight (map_from 0 g es)) =
    omega (arith, from_le equation_weight 0 (cut_equation masks) (cut_le masks) (map_from 0 g es)) in
    let whole : Whole masks es = λ i e p.
    subst (λ (ss : List ℕ). Full (get_or masks i []) (length ss)) (sym (inserted_sorts e (get_or K (0 + i) None)))
    (whole_masks masks (map_from 0 g es) l₁ i (g (0 + i) e) (at_map_from 0 g es i e p)) in
    let stays : (i : ℕ) (e : Equation) → at es i ≡ Some e → g i e ≡ e = λ i e p.
    let m : get_or masks i [] ≡ u i e = get_or_some [] masks i (u (0 + i) e) (at_map_from 0 u es i e p) ∙ ap (λ (j : ℕ). u j e) (zero_plus i) in
    inserted_stays a (map header_of es) e (get_or K i None) (every_at (BodyFits a (map header_of es)) es i e p fit.bodies)
    (subst (λ (mask : List Bool). Full mask (length e.sorts)) m (whole i e p))
    (tight_0 equation_weight g (λ i e. inserted_le e (get_or K i None)) es l₂ i e p) in
    ap (λ (es : List Equation). cut masks (record { equations = es; start = s.start; values = s.values })) (same_0 g es stays) ∙ cut_stays a s fit masks whole

-- F
open_node : (a : Alg) (k : Kind) (ts : Terms) → kind_weight k ≡ 1 → (sum (folds ts W) ≤ sum (folds (foldeds ts a) W) → foldeds ts a ≡ ts) →
    term_weight (node k ts) ≤ term_weight (folded (node k ts) a) → folded (node k ts) a ≡ node k ts
open_node a k ts one i l = go (known a [] (node k ts)) l
  where
    go : (o : Option ℕ) → term_weight (node k ts) ≤ term_weight (folded_as a k o (foldeds ts a)) → folded_as a k o (foldeds ts a) ≡ node k ts
    go None l = ap (node k) (i (omega arith))
    go (Some v) l = absurd (omega arith)

mutual
  folded_stays : (a : Alg) (c : Scope) {d s : ℕ} {t : Term} → Fits a c d s t → term_weight t ≤ term_weight (folded t a) → folded t a ≡ t
  folded_stays a c (fit_parameter {n = n} l e) w = open_node a (parameter n) none refl (λ _. refl) w
  folded_stays a c (fit_variable {n = n} l e) w = open_node a (variable n) none refl (λ _. refl) w
  folded_stays a c (fit_value l k e m) w = refl
  folded_stays a c (fit_operation {o = o} {ts = ts} l e k h) w = open_node a (operation o) ts refl (foldeds_stay a c h) w
  folded_stays a c (fit_not {t = t} h) w =
      open_node a not (more t none) refl (λ x. ap (λ (t : Term). more t none) (folded_stays a c h (omega (arith, x)))) w
  folded_stays a c (fit_and {t = t} {u = u} h k) w =
      open_node a and (more t (more u none)) refl
      (λ x. ap₂ (λ (t u : Term). more t (more u none)) (folded_stays a c h (omega (arith, x, folded_le u a))) (folded_stays a c k (omega (arith, x, folded_le t a)))) w
  folded_stays a c (fit_or {t = t} {u = u} h k) w =
      open_node a or (more t (more u none)) refl
      (λ x. ap₂ (λ (t u : Term). more t (more u none)) (folded_stays a c h (omega (arith, x, folded_le u a))) (folded_stays a c k (omega (arith, x, folded_le t a)))) w
  folded_stays a c (fit_equal {t = t} {u = u} h k) w =
      open_node a equal (more t (more u none)) refl
      (λ x. ap₂ (λ (t u : Term). more t (more u none)) (folded_stays a c h (omega (arith, x, folded_le u a))) (folded_stays a c k (omega (arith, x, folded_le t a)))) w

  foldeds_stay : (a : Alg) (c : Scope) {d o k n : ℕ} {ts : Terms} → FitsArgs a c d o k n ts → sum (folds ts W) ≤ sum (folds (foldeds ts a) W) → foldeds ts a ≡ ts
  foldeds_stay a c fit_none l = refl
  foldeds_stay a c (fit_more {t = t} {ts = ts} e h r) l =
      ap₂ (λ (t : Term) (ts : Terms). more t ts) (folded_stays a c h (omega (arith, l, foldeds_le ts a))) (foldeds_stay a c r (omega (arith, l, folded_le t a)))

module _ (a : Alg) (hs : List Header) (c : Scope) where
  abbrev folded_term : Term → Term
  folded_term t = folded t a

  folded_occurrence : (o : Occurrence) → OccurrenceFits a hs c o → occurrence_weight o ≤ occurrence_weight (on_occurrence (λ j ts. ts) folded_term o) →
      on_occurrence (λ j ts. ts) folded_term o ≡ o
  folded_occurrence o fit l =
      ap (λ (ts : List Term). record { target = o.target; arguments = ts })
      (map_same folded_term o.arguments (every_two o.arguments (λ t (p : (s : ℕ) × Fits a c 32 s t) (w : term_weight t ≤ term_weight (folded_term t)). folded_stays a c p.1 w)
      (terms_fit a c fit.header.sorts o.arguments fit.fit)
      (map_tight term_weight folded_term (λ t. folded_le t a) o.arguments (omega arith))))

  folded_clause : (k : Clause) → ClauseFits a hs c k → clause_weight k ≤ clause_weight (on_clause (λ j ts. ts) folded_term k) → on_clause (λ j ts. ts) folded_term k ≡ k
  folded_clause k fit l =
      let below : (o : Occurrence) → occurrence_weight (on_occurrence (λ j ts. ts) folded_term o) ≤ occurrence_weight o =
      occurrence_le (λ j ts. ts) folded_term (λ j ts. omega arith) (λ t. folded_le t a) in
      let m = map_le occurrence_weight (on_occurrence (λ j ts. ts) folded_term) below k.occurrences in
      ap₂ (λ (t : Term) (os : List Occurrence). record { guard = t; occurrences = os })
      (folded_stays a c fit.guard (omega (arith, m, l)))
      (map_same (on_occurrence (λ j ts. ts) folded_term) k.occurrences (every_two k.occurrences folded_occurrence fit.fit
      (map_tight occurrence_weight (on_occurrence (λ j ts. ts) folded_term) below k.occurrences (omega (arith, folded_le k.guard a, l)))))

opened_stays : (a : Alg) (hs : List Header) (e : Equation) → BodyFits a hs e → equation_weight e ≤ equation_weight (opened a e) → opened a e ≡ e
opened_stays a hs e body l =
    let p : Clause → Bool = λ c. flip (is_false (known a [] c.guard)) in
    let f : Clause → Clause = on_clause (λ j ts. ts) (λ t. folded t a) in
    let kept = keep p e.clauses in
    let below : (c : Clause) → clause_weight (f c) ≤ clause_weight c = clause_le (λ j ts. ts) (λ t. folded t a) (λ j ts. omega arith) (λ t. folded_le t a) in
    let b₁ = full_folded e.h a in
    let b₂ = folded_le e.h a in
    let b₃ = keep_le clause_weight p e.clauses in
    let b₄ = map_le clause_weight f below kept in
    let k : kept ≡ e.clauses = keep_tight clause_weight p clause_heavy e.clauses (omega (arith, b₁, b₂, b₄, l)) in
    let m : sum (map clause_weight e.clauses) ≤ sum (map clause_weight (map f kept)) = omega (arith, b₁, b₂, l) in
    let n : sum (map clause_weight e.clauses) ≤ sum (map clause_weight (map f e.clauses)) = subst (λ (cs : List Clause). sum (map clause_weight e.clauses) ≤ sum (map clause_weight (map f cs))) k m in
    equation_is e refl (folded_stays a (scope (header_of e)) body.h (omega (arith, b₁, b₃, b₄, l)))
    (ap (map f) k ∙ map_same f e.clauses (every_two e.clauses (folded_clause a hs (scope (header_of e))) body.fit (map_tight clause_weight f below e.clauses n)))

folded_equation_stays : (a : Alg) (hs : List Header) (e : Equation) → BodyFits a hs e → equation_weight e ≤ equation_weight (folded_equation a e) → folded_equation a e ≡ e
folded_equation_stays a hs e body l = go (is_false (known a [] e.h)) l
  where
    go : (b : Bool) → equation_weight e ≤ equation_weight (elim b as (λ _. Equation) [ true ↦ bare e | false ↦ opened a e ]) →
        elim b as (λ _. Equation) [ true ↦ bare e | false ↦ opened a e ] ≡ e
    go true l = bare_stays a (scope (header_of e)) e body.h l
    go false l = opened_stays a hs e body l

pub f_strict : (a : Alg) (s : System) → SystemFits a s → weight s ≤ weight (pass_f a s) → pass_f a s ≡ s
f_strict a s fit l =
    ap (λ (es : List Equation). record { equations = es; start = s.start; values = s.values })
    (map_same (folded_equation a) s.equations
    (every_two s.equations (folded_equation_stays a (map header_of s.equations)) fit.bodies
    (map_tight equation_weight (folded_equation a) (folded_equation_lem a) s.equations l)))
