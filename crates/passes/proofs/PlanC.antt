-- A plan for the pass C makes of a system what the pass means.
use Rattle.std.proofs.Common.{◌≡◌, ℕ, zero, suc, ◌<◌, Bool, true, false, not as flip, List, [], ◌∷◌, map, length, get_or, Some, None, Option, sym, refl, ap, ◌∙◌, ap₂, zero-add, arith}
use Rattle.definitions.specs.Lists.{at, times, is_some, map_from, strike, place}
use Rattle.definitions.specs.Alg.{Alg}
use Rattle.definitions.specs.Systems.{Kind, parameter, value, Term, Occurrence, Clause, Equation, System}
use Rattle.definitions.specs.ReadSystem.{scope}
use Rattle.definitions.specs.Terms.{on_parameter, replaced, on_occurrence, on_clause, cut_equation}
use Rattle.definitions.specs.Constants.{Known, Knowledge, brought, learnt_all, unreached, height, least_knowledge, kind_for, inserted, unknown_of, pass_c}
use Rattle.definitions.specs.Fits.{header_of, SystemFits}
use Rattle.theorems.specs.KnowledgeLaws.{arities, Shaped}
use Rattle.theorems.proofs.Listing.{get_or_some, some_same, none_some, at_mapped, at_map_from, map_from_twice, map_twice, every_of}
use Rattle.theorems.proofs.Cut.{strike_map}
use Rattle.theorems.proofs.Refit.{replaced_twice}
use Rattle.theorems.proofs.FitShapes.{fits_shaped}
use Rattle.theorems.proofs.Stable.{Shape, brought_shaped, learns_all, none_shaped}
use Rattle.passes.specs.declared.plan.ParameterChange.{ParameterChange}
use Rattle.passes.specs.declared.plan.ParameterChange.TheVariants.{Stays, Goes, Becomes}
use Rattle.passes.specs.declared.plan.EquationChange.{EquationChange}
use Rattle.passes.specs.declared.plan.EquationChange.TheVariants as equation
use Rattle.passes.specs.declared.plan.Plan.{Plan}
use Rattle.passes.specs.Planned.{stays, remains, change_of, kind_by, equation_by, system_by}
use Rattle.passes.specs.Plans.{becomes, knowing}
use Rattle.passes.proofs.Numbering.{kind_becomes, kind_numbered}
use Rattle.passes.proofs.PlanBasics.{map_alike, parameter_told, fits_same, Steady, placed, stays_made, bare_made, system_made, made}

-- the least knowledge has one entry for each parameter of a reached equation
module _ (a : Alg) (s : System) (h : Shaped s) where
  times_shaped : (n : ℕ) (K : Knowledge) → Shape (arities s.equations) K → Shape (arities s.equations) (times n (λ K. learnt_all K (brought a s K)) K)
  times_shaped zero K z = z
  times_shaped (suc n) K z = times_shaped n (learnt_all K (brought a s K)) (learns_all (brought a s K) z (brought_shaped a s K h)).shape

  least_shaped : Shape (arities s.equations) (least_knowledge a s)
  least_shaped = times_shaped (height s) (unreached s) (none_shaped s.equations)

shape_at : {ns : List ℕ} {K : Knowledge} → Shape ns K → (i : ℕ) (ks : Known) → get_or K i None ≡ Some ks → at ns i ≡ Some (length ks)
shape_at Shape.nil i ks e = none_some ks e
shape_at (Shape.new z) zero ks e = none_some ks e
shape_at (Shape.new z) (suc i) ks e = shape_at z i ks e
shape_at (Shape.old ls z) zero ks e = ap (λ (z : Known). Some (length z)) (some_same ls ks e)
shape_at (Shape.old ls z) (suc i) ks e = shape_at z i ks e

known_long : (a : Alg) (s : System) → SystemFits a s → (i : ℕ) (e : Equation) (ks : Known) → at s.equations i ≡ Some e → get_or (least_knowledge a s) i None ≡ Some ks → length e.sorts ≡ length ks
known_long a s fit i e ks p q =
    some_same (length e.sorts) (length ks)
    (sym (at_mapped (λ (e : Equation). length e.sorts) s.equations i e p) ∙ shape_at (least_shaped a s (fits_shaped a s fit)) i ks q)

-- what becomes of an equation and of a parameter
abbrev become : Option Known → EquationChange
become o = elim o [ None ↦ equation.Bare | Some ks ↦ equation.Stays ]

become_remains : (o : Option Known) → remains (become o) ≡ true
become_remains None = refl
become_remains (Some ks) = refl

abbrev put : Option ℕ → ParameterChange
put o = elim o [ None ↦ Stays | Some v ↦ Becomes v ]

put_stays : (o : Option ℕ) → stays (put o) ≡ flip (is_some o)
put_stays None = refl
put_stays (Some v) = refl

known_stays : (ks : Known) (n : ℕ) → n < length ks → stays (becomes (Some ks) n) ≡ get_or (map (λ k. flip (is_some k)) ks) n false
known_stays [] n l = absurd (omega arith)
known_stays (k ∷ ks) zero l = put_stays k
known_stays (k ∷ ks) (suc n) l = known_stays ks n (omega arith)

none_stays : (ss : List ℕ) (n : ℕ) → false ≡ get_or (map (λ _. false) ss) n false
none_stays [] n = refl
none_stays (r ∷ ss) zero = refl
none_stays (r ∷ ss) (suc n) = none_stays ss n

stays_unknown : (e : Equation) (o : Option Known) → ((ks : Known) → o ≡ Some ks → length e.sorts ≡ length ks) → (n : ℕ) → n < length e.sorts →
    stays (becomes o n) ≡ get_or (unknown_of e o) n false
stays_unknown e None h n l = none_stays e.sorts n
stays_unknown e (Some ks) h n l = let m = h ks refl in known_stays ks n (omega arith)

-- replaced after values were put in
module _ (g : ℕ → List Term → List Term) (natural : (j : ℕ) (p : Term → Term) (ts : List Term) → map p (g j ts) ≡ g j (map p ts)) (f p q : Term → Term) (twice : (t : Term) → q t ≡ f (p t)) where
  occurrence_twice : (o : Occurrence) → on_occurrence g q o ≡ on_occurrence g f (on_occurrence (λ j ts. ts) p o)
  occurrence_twice o =
      ap (λ (ts : List Term). record { target = o.target; arguments = ts })
      (map_alike q (λ t. f (p t)) (g o.target o.arguments) (every_of (g o.target o.arguments) twice) ∙
      sym (map_twice f p (g o.target o.arguments)) ∙ ap (map f) (natural o.target p o.arguments))

  clause_twice : (k : Clause) → on_clause g q k ≡ on_clause g f (on_clause (λ j ts. ts) p k)
  clause_twice k =
      ap₂ (λ (t : Term) (os : List Occurrence). record { guard = t; occurrences = os }) (twice k.guard)
      (map_alike (on_occurrence g q) (λ o. on_occurrence g f (on_occurrence (λ j ts. ts) p o)) k.occurrences (every_of k.occurrences occurrence_twice) ∙
      sym (map_twice (on_occurrence g f) (on_occurrence (λ j ts. ts) p) k.occurrences))

  clauses_twice : (ks : List Clause) → map (on_clause g q) ks ≡ map (on_clause g f) (map (on_clause (λ j ts. ts) p) ks)
  clauses_twice ks =
      map_alike (on_clause g q) (λ k. on_clause g f (on_clause (λ j ts. ts) p k)) ks (every_of ks clause_twice) ∙
      sym (map_twice (on_clause g f) (on_clause (λ j ts. ts) p) ks)

-- cutting after putting in makes each term once
cut_once : (masks : List (List Bool)) (i : ℕ) (e : Equation) (ks : Known) →
    made masks i (replaced (λ n. on_parameter (λ n. parameter (place (get_or masks i []) n)) (kind_for e.sorts ks n))) e ≡ cut_equation masks i (inserted e (Some ks))
cut_once masks i e ks =
    let r : ℕ → Kind = λ n. parameter (place (get_or masks i []) n) in
    let k : ℕ → Kind = kind_for e.sorts ks in
    let twice : (t : Term) → replaced (λ n. on_parameter (λ n. parameter (place (get_or masks i []) n)) (kind_for e.sorts ks n)) t ≡ replaced r (replaced k t) = λ t. sym (replaced_twice t r k) in
    ap₂ (λ (t : Term) (cs : List Clause). record { sign = e.sign; sorts = strike (get_or masks i []) e.sorts; quantified = e.quantified; h = t; clauses = cs })
    (twice e.h)
    (clauses_twice (λ j ts. strike (get_or masks j []) ts) (λ j p ts. strike_map p (get_or masks j []) ts) (replaced r) (replaced k) (replaced (λ n. on_parameter r (k n))) twice e.clauses)

module _ (a : Alg) (s : System) (P : Plan) (fit : SystemFits a s) (plans : knowing a s P) where
  abbrev K : Knowledge
  K = least_knowledge a s

  abbrev masks : List (List Bool)
  masks = map_from 0 (λ i e. unknown_of e (get_or K i None)) s.equations

  mask_of : (i : ℕ) (e : Equation) → at s.equations i ≡ Some e → get_or masks i [] ≡ unknown_of e (get_or K i None)
  mask_of i e p =
      get_or_some [] masks i _ (at_map_from 0 (λ i e. unknown_of e (get_or K i None)) s.equations i e p) ∙
      ap (λ z. unknown_of e (get_or K z None)) (zero-add i)

  agree : (i : ℕ) (e : Equation) → at s.equations i ≡ Some e → (n : ℕ) → n < length e.sorts → stays (becomes (get_or K i None) n) ≡ get_or (get_or masks i []) n false
  agree i e p n l =
      stays_unknown e (get_or K i None) (λ ks. known_long a s fit i e ks p) n l ∙ ap (λ m. get_or m n false) (sym (mask_of i e p))

  abbrev steady : Steady a s P
  steady =
      record {
        fit = fit;
        what = λ i e. become (get_or K i None);
        each = λ i e. becomes (get_or K i None);
        plans = plans;
        left = λ i e p. become_remains (get_or K i None);
        masks = masks;
        agree = agree;
      }

  module _ (i : ℕ) (e : Equation) (p : at s.equations i ≡ Some e) (ks : Known) (q : get_or K i None ≡ Some ks) where
    abbrev renumbered : ℕ → Kind
    renumbered n = parameter (place (get_or masks i []) n)

    change_at : (n : ℕ) → n < length e.sorts → get_or (change_of P i).parameters n Goes ≡ put (get_or ks n None)
    change_at n l =
        get_or_some Goes (change_of P i).parameters n (becomes (get_or K i None) n) (parameter_told plans i e p n l) ∙
        ap (λ o. becomes o n) q

    kind_is : (n : ℕ) → n < length e.sorts → kind_by e.sorts (change_of P i) n ≡ on_parameter renumbered (kind_for e.sorts ks n)
    kind_is n l = go (get_or ks n None) (change_at n l)
      where
        go : (o : Option ℕ) → get_or (change_of P i).parameters n Goes ≡ put o →
            kind_by e.sorts (change_of P i) n ≡ on_parameter renumbered (elim o as (λ _. Kind) [ None ↦ parameter n | Some v ↦ value (get_or e.sorts n 0) v ])
        go None h =
            kind_numbered e.sorts (change_of P i) n Stays h (λ v c. absurd cc) ∙ ap parameter (placed a s P steady i e p n l)
        go (Some v) h = kind_becomes e.sorts (change_of P i) n v h

    reached_made : equation_by a P (change_of P i) e ≡ cut_equation masks i (inserted e (Some ks))
    reached_made =
        stays_made a s P steady i e p (replaced (λ n. on_parameter renumbered (kind_for e.sorts ks n))) (ap become q)
        (fits_same a (scope (header_of e)) (kind_by e.sorts (change_of P i)) (λ n. on_parameter renumbered (kind_for e.sorts ks n)) kind_is 32) ∙
        cut_once masks i e ks

  equation_made : (i : ℕ) (e : Equation) → at s.equations i ≡ Some e → equation_by a P (change_of P i) e ≡ cut_equation masks i (inserted e (get_or K i None))
  equation_made i e p = go (get_or K i None) refl
    where
      go : (o : Option Known) → get_or K i None ≡ o → equation_by a P (change_of P i) e ≡ cut_equation masks i (inserted e o)
      go None q = bare_made a s P steady i e p (ap become q)
      go (Some ks) q = reached_made i e p ks q

  pub plan_c : system_by a P s ≡ pass_c a s
  plan_c =
      system_made a s P steady (λ i e. cut_equation masks i (inserted e (get_or K i None))) equation_made ∙
      ap (λ (es : List Equation). record { equations = es; start = s.start; values = strike (get_or masks s.start []) s.values })
      (sym (map_from_twice 0 (cut_equation masks) (λ i e. inserted e (get_or K i None)) s.equations))
