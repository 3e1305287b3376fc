-- What the pass C keeps: the truth of every instance of a reached equation that agrees with what is known, so the verdict.
use Rattle.std.proofs.Common.{◌≡◌, ℕ, zero, suc, ◌+◌, Bool, true, false, not as flip, List, [], ◌∷◌, map, length, get_or, Some, None, Option, sym, refl, ap, ◌∙◌, subst, subst₂, zero-add, arith}
use lib.ListN.{length-map}
use Rattle.definitions.specs.Lists.{at, flat, is_some, map_from, strike, place}
use Rattle.definitions.specs.Alg.{Alg, Lawful, within}
use Rattle.definitions.specs.Systems.{Kind, parameter, variable, value, operation, not, and, or, equal, Term, Quantified, Occurrence, Clause, Equation, System}
use Rattle.definitions.specs.ReadSystem.{Scope, Header, scope}
use Rattle.definitions.specs.Values.{known, is_false, is_true, holds, value_of, values_of}
use Rattle.definitions.specs.Terms.{on_parameter, replaced, on_occurrence, on_clause, cut_equation}
use Rattle.definitions.specs.Fits.{Every, Fits, TermsFit, header_of, OccurrenceFits, ClauseFits, BodyFits, SystemFits}
use Rattle.definitions.specs.Truth.{Instance, size_of, sizes_of, meant, clause_holds, inside_holds, equation_holds, body, block_of, truths, verdict}
use Rattle.definitions.specs.Constants.{Known, Knowledge, clause_brings, equation_brings, all_bring, brought, least_knowledge, kind_for, inserted, unknown_of, pass_c}
use Rattle.fixpoint.specs.Laws.{Agree, Matched}
use Rattle.theorems.proofs.Knows.{Unders, get_or_under, trans_unders, Met, All, to_all, all_left, all_right}
use Rattle.theorems.proofs.Stable.{stands}
use Rattle.theorems.proofs.Listing.{every_map, each_map, some_map, some_same, none_some, get_or_some, at_map_from, map_from_twice, map_twice, every_mapped, every_at, every_two, at_map_some}
use Rattle.theorems.proofs.Monotone.{equals, each_is, some_is, under_is, clause_is, inside_is}
use Rattle.theorems.proofs.Ranges.{arguments_low, arguments_there, values_low}
use Rattle.theorems.proofs.Agrees.{arguments_under, holds_not_false}
use Rattle.theorems.proofs.Cut.{OnParameters, on_map, on_mapped, fits_scoped, terms_fit, strike_map, strike_within, renumber_value, cut_values, insert_value, same_values, within_long, unders_long}
use Rattle.theorems.proofs.Blocks.{blocks_match, both_inside, truths_agree}
use Rattle.theorems.proofs.FitShapes.{fits_shaped}

-- what the knowledge brings is known
pub bring_at : (a : Alg) (L : Knowledge) (es : List Equation) (K : Knowledge) (n : ℕ) (e : Equation) (k : Option Known) →
    at es n ≡ Some e → at K n ≡ Some k → All L (all_bring a es K) → All L (equation_brings a e k)
bring_at a L [] K n e k p q h = absurd (none_some e p)
bring_at a L (x ∷ es) [] n e k p q h = absurd (none_some k q)
bring_at a L (x ∷ es) (l ∷ K) zero e k p q h =
    subst (λ z. All L (equation_brings a e z)) (some_same l k q)
    (subst (λ z. All L (equation_brings a z l)) (some_same x e p) (all_left L (equation_brings a x l) (all_bring a es K) h))
bring_at a L (x ∷ es) (l ∷ K) (suc n) e k p q h = bring_at a L es K n e k p q (all_right L (equation_brings a x l) (all_bring a es K) h)

clauses_bring : (a : Alg) (L : Knowledge) (ks : Known) (cs : List Clause) → All L (flat (map (clause_brings a ks) cs)) → Every (λ c. All L (clause_brings a ks c)) cs
clauses_bring a L ks [] h = tt
clauses_bring a L ks (c ∷ cs) h = (
  all_left L (clause_brings a ks c) (flat (map (clause_brings a ks) cs)) h,
  clauses_bring a L ks cs (all_right L (clause_brings a ks c) (flat (map (clause_brings a ks) cs)) h),
)

occurrences_bring : (a : Alg) (L : Knowledge) (ks : Known) (os : List Occurrence) → All L (map (λ (o : Occurrence). (o.target, map (known a ks) o.arguments)) os) →
    Every (λ (o : Occurrence). Met L (o.target, map (known a ks) o.arguments)) os
occurrences_bring a L ks [] h = tt
occurrences_bring a L ks (o ∷ os) h = (h.0, occurrences_bring a L ks os h.1)

-- of a reached equation whose h is not known false, under a guard not known false
equation_brings_lem : (a : Alg) (L : Knowledge) (e : Equation) (ks : Known) → is_false (known a ks e.h) ≡ false → All L (equation_brings a e (Some ks)) →
    Every (λ c. All L (clause_brings a ks c)) e.clauses
equation_brings_lem a L e ks p h = clauses_bring a L ks e.clauses (rw (p, equation_brings) at h)

clause_brings_lem : (a : Alg) (L : Knowledge) (c : Clause) (ks : Known) → is_false (known a ks c.guard) ≡ false → All L (clause_brings a ks c) →
    Every (λ (o : Occurrence). Met L (o.target, map (known a ks) o.arguments)) c.occurrences
clause_brings_lem a L c ks p h = occurrences_bring a L ks c.occurrences (rw (p, clause_brings) at h)

-- unknown parameters are kept
pub unknown_kept : (ss : List ℕ) (ks : Known) (n s : ℕ) → length ss ≡ length ks → at ss n ≡ Some s → get_or ks n None ≡ None →
    get_or (map (λ k. flip (is_some k)) ks) n false ≡ true
unknown_kept [] ks n s l e p = absurd (none_some s e)
unknown_kept (r ∷ ss) [] n s l e p = absurd (omega arith)
unknown_kept (r ∷ ss) (None ∷ ks) zero s l e p = refl
unknown_kept (r ∷ ss) (Some v ∷ ks) zero s l e p = absurd (none_some v (sym p))
unknown_kept (r ∷ ss) (k ∷ ks) (suc n) s l e p = unknown_kept ss ks n s (omega arith) e p

inserted_sign : (e : Equation) (k : Option Known) → e.sign ≡ (inserted e k).sign
inserted_sign e None = refl
inserted_sign e (Some ks) = refl

pub inserted_sorts : (e : Equation) (k : Option Known) → e.sorts ≡ (inserted e k).sorts
inserted_sorts e None = refl
inserted_sorts e (Some ks) = refl

module _ (a : Alg) (s : System) where
  abbrev pub what : Knowledge
  what = least_knowledge a s

  abbrev pub masks : List (List Bool)
  masks = map_from 0 (λ i e. unknown_of e (get_or what i None)) s.equations

  -- an instance of a reached equation that agrees with what is known, and what is left of it
  pub record Kept (x y : Instance) : Type 0 where
    pub equation : Equation
    pub there : at s.equations x.0 ≡ Some equation
    pub ks : Known
    pub reached : at what x.0 ≡ Some (Some ks)
    pub agrees : Unders (map Some x.1) ks
    pub fine : within (sizes_of a equation) x.1 ≡ true
    pub left : y ≡ (x.0, strike (get_or masks x.0 []) x.1)

  mask_of : (i : ℕ) (e : Equation) (ks : Known) → at s.equations i ≡ Some e → at what i ≡ Some (Some ks) →
      get_or masks i [] ≡ map (λ k. flip (is_some k)) ks
  mask_of i e ks p q =
      get_or_some [] masks i _ (at_map_from 0 (λ i e. unknown_of e (get_or what i None)) s.equations i e p) ∙
      ap (λ z. unknown_of e (get_or what z None)) (zero-add i) ∙ ap (unknown_of e) (get_or_some None what i (Some ks) q)

  written_at : (i : ℕ) (e : Equation) (ks : Known) → at s.equations i ≡ Some e → at what i ≡ Some (Some ks) →
      at (pass_c a s).equations i ≡ Some (cut_equation masks i (inserted e (Some ks)))
  written_at i e ks p q =
      ap (λ z. at z i) (map_from_twice 0 (cut_equation masks) (λ i e. inserted e (get_or what i None)) s.equations) ∙
      at_map_from 0 (λ i e. cut_equation masks i (inserted e (get_or what i None))) s.equations i e p ∙
      ap (λ z. Some (cut_equation masks z (inserted e (get_or what z None)))) (zero-add i) ∙
      ap (λ z. Some (cut_equation masks i (inserted e z))) (get_or_some None what i (Some ks) q)

  module _ (law : Lawful a) (fit : SystemFits a s) where
    all_met : All what (brought a s what)
    all_met = to_all what (brought a s what) (stands a s (fits_shaped a s fit))

    -- an occurrence's instance is related to what is left of it
    target_kept : (c : Scope) (ps vs : List ℕ) (ks : Known) → within (map (size_of a) c.parameters) ps ≡ true → within (map (size_of a) c.variables) vs ≡ true →
        Unders (map Some ps) ks → (o : Occurrence) → OccurrenceFits a (map header_of s.equations) c o → Met what (o.target, map (known a ks) o.arguments) →
        Kept (meant a ps vs o) (o.target, strike (get_or masks o.target []) (values_of a ps vs o.arguments))
    target_kept c ps vs ks wp wv u o f m =
        let (q, eq, eh) = at_map_some header_of s.equations o.target f.header f.there in
        record {
          equation = q;
          there = eq;
          ks = m.0;
          reached = m.1;
          agrees = trans_unders
              (subst (λ z. Unders z (map (known a ks) o.arguments)) (sym (arguments_there a law c ps vs wp wv f.header.sorts o.arguments f.fit))
              (arguments_under a ps ks vs (get_or_under u) o.arguments))
              m.2;
          fine = subst (λ (z : Header). within (map (size_of a) z.sorts) (values_of a ps vs o.arguments) ≡ true) (sym eh)
              (arguments_low a law c ps vs wp wv f.header.sorts o.arguments f.fit);
          left = refl;
        }

    start_kept : Kept (s.start, s.values) ((pass_c a s).start, (pass_c a s).values)
    start_kept =
        let (q, eq, eh) = at_map_some header_of s.equations s.start fit.header fit.there in
        record {
          equation = q;
          there = eq;
          ks = all_met.0.0;
          reached = all_met.0.1;
          agrees = all_met.0.2;
          fine = subst (λ (z : Header). within (map (size_of a) z.sorts) s.values ≡ true) (sym eh) (values_low a fit.header.sorts s.values fit.values);
          left = refl;
        }

    -- the bodies of one equation
    module _ (i : ℕ) (e : Equation) (ks : Known) (ps : List ℕ) (p : at s.equations i ≡ Some e) (q : at what i ≡ Some (Some ks))
        (u : Unders (map Some ps) ks) (wp : within (sizes_of a e) ps ≡ true) where
      abbrev mask : List Bool
      mask = get_or masks i []

      abbrev put_in : Term → Term
      put_in = replaced (kind_for e.sorts ks)

      abbrev renumbered : Term → Term
      renumbered = replaced (λ n. parameter (place mask n))

      abbrev cut_in : Clause → Clause
      cut_in c = on_clause (λ j ts. strike (get_or masks j []) ts) renumbered (on_clause (λ j ts. ts) put_in c)

      abbrev cut_occurrence : Occurrence → Occurrence
      cut_occurrence o = on_occurrence (λ j ts. strike (get_or masks j []) ts) renumbered (on_occurrence (λ j ts. ts) put_in o)

      long : length e.sorts ≡ length ks
      long = sym (length-map e.sorts (size_of a)) ∙ within_long (sizes_of a e) ps wp ∙ sym (length-map ps Some) ∙ unders_long u

      kind_kept : (k : Kind) → OnParameters (λ n. (r : ℕ) × (at e.sorts n ≡ Some r)) k →
          OnParameters (λ n. get_or mask n false ≡ true) (on_parameter (kind_for e.sorts ks) k)
      kind_kept (parameter n) h = go (get_or ks n None) refl
        where
          go : (o : Option ℕ) → get_or ks n None ≡ o →
              OnParameters (λ n. get_or mask n false ≡ true) (elim o as (λ _. Kind) [ None ↦ parameter n | Some v ↦ value (get_or e.sorts n 0) v ])
          go None z = ap (λ m. get_or m n false) (mask_of i e ks p q) ∙ unknown_kept e.sorts ks n h.0 long h.1 z
          go (Some v) z = tt
      kind_kept (variable n) h = tt
      kind_kept (value r v) h = tt
      kind_kept (operation o) h = tt
      kind_kept not h = tt
      kind_kept and h = tt
      kind_kept or h = tt
      kind_kept equal h = tt

      module _ (vs : List ℕ) (w : within (map (λ (x : Quantified). size_of a x.sort) e.quantified) vs ≡ true) where
        renumber_kept : {d r : ℕ} (t : Term) → Fits a (scope (header_of e)) d r t → value_of a (strike mask ps) vs (renumbered (put_in t)) ≡ value_of a ps vs (put_in t)
        renumber_kept t h =
            renumber_value a mask ps vs (put_in t)
            (on_mapped (on_parameter (kind_for e.sorts ks)) (OnParameters (λ n. get_or mask n false ≡ true)) t
            (on_map kind_kept t (fits_scoped a (scope (header_of e)) h)))

        -- a term keeps its value
        value_kept : {d r : ℕ} (t : Term) → Fits a (scope (header_of e)) d r t → value_of a (strike mask ps) vs (renumbered (put_in t)) ≡ value_of a ps vs t
        value_kept t h = renumber_kept t h ∙ insert_value a e.sorts ps ks vs u t

        holds_kept : {d r : ℕ} (t : Term) → Fits a (scope (header_of e)) d r t → holds a ps vs t ≡ holds a (strike mask ps) vs (renumbered (put_in t))
        holds_kept t h = ap is_true (sym (value_kept t h))

        arguments_kept : (to : List Bool) (ss : List ℕ) (ts : List Term) → TermsFit a (scope (header_of e)) ss ts →
            values_of a (strike mask ps) vs (map renumbered (strike to (map put_in ts))) ≡ strike to (values_of a ps vs ts)
        arguments_kept to ss ts h =
            cut_values a mask ps vs to renumbered (map put_in ts)
            (every_mapped (λ t. value_of a (strike mask ps) vs (renumbered t) ≡ value_of a ps vs t) put_in ts
            (every_map ts (λ t k. renumber_kept t k.1) (terms_fit a (scope (header_of e)) ss ts h))) ∙
            ap (strike to) (same_values a ps vs put_in ts (insert_value a e.sorts ps ks vs u))

        ranges : within (map (size_of a) (scope (header_of e)).variables) vs ≡ true
        ranges = subst (λ z. within z vs ≡ true) (sym (map_twice (size_of a) (λ (x : Quantified). x.sort) e.quantified)) w

        occurrence_kept : (o : Occurrence) → OccurrenceFits a (map header_of s.equations) (scope (header_of e)) o →
            Met what (o.target, map (known a ks) o.arguments) → Kept (meant a ps vs o) (meant a (strike mask ps) vs (cut_occurrence o))
        occurrence_kept o f m =
            subst (λ (z : List ℕ). Kept (meant a ps vs o) (o.target, z))
            (sym (arguments_kept (get_or masks o.target []) f.header.sorts o.arguments f.fit))
            (target_kept (scope (header_of e)) ps vs ks wp ranges u o f m)

        module _ (f g : Instance → Bool) (agree : Agree (λ x y. x ≡ y) Kept f g) where
          clause_kept : (c : Clause) → ClauseFits a (map header_of s.equations) (scope (header_of e)) c → All what (clause_brings a ks c) →
              clause_holds a f ps vs c ≡ clause_holds a g (strike mask ps) vs (cut_in c)
          clause_kept c k m =
              clause_is equals a f g ps (strike mask ps) vs c (cut_in c) (holds_kept c.guard k.guard) (λ t.
              some_is equals (λ o. f (meant a ps vs o)) (λ o. g (meant a (strike mask ps) vs (cut_occurrence o))) c.occurrences
              (every_two c.occurrences (λ o b n. agree (meant a ps vs o) (meant a (strike mask ps) vs (cut_occurrence o)) (occurrence_kept o b n)) k.fit
              (clause_brings_lem a what c ks (holds_not_false a ps ks vs (get_or_under u) c.guard t) m)) ∙
              sym (some_map (λ o. g (meant a (strike mask ps) vs o)) (on_occurrence (λ j ts. strike (get_or masks j []) ts) renumbered) (map (on_occurrence (λ j ts. ts) put_in) c.occurrences) ∙
              some_map (λ o. g (meant a (strike mask ps) vs (on_occurrence (λ j ts. strike (get_or masks j []) ts) renumbered o))) (on_occurrence (λ j ts. ts) put_in) c.occurrences))

          inside_kept : BodyFits a (map header_of s.equations) e →
              inside_holds a f e ps vs ≡ inside_holds a g (cut_equation masks i (inserted e (Some ks))) (strike mask ps) vs
          inside_kept b =
              inside_is equals a f g ps (strike mask ps) vs e (cut_equation masks i (inserted e (Some ks))) (holds_kept e.h b.h) (λ t.
              each_is equals (clause_holds a f ps vs) (λ c. clause_holds a g (strike mask ps) vs (cut_in c)) e.clauses
              (every_two e.clauses clause_kept b.fit
              (equation_brings_lem a what e ks (holds_not_false a ps ks vs (get_or_under u) e.h t)
              (bring_at a what s.equations what i e (Some ks) p q all_met.1))) ∙
              sym (each_map (clause_holds a g (strike mask ps) vs) (on_clause (λ j ts. strike (get_or masks j []) ts) renumbered) (map (on_clause (λ j ts. ts) put_in) e.clauses) ∙
              each_map (λ c. clause_holds a g (strike mask ps) vs (on_clause (λ j ts. strike (get_or masks j []) ts) renumbered c)) (on_clause (λ j ts. ts) put_in) e.clauses))

    bodies_kept : (f g : Instance → Bool) → Agree (λ p q. p ≡ q) Kept f g → Agree (λ p q. p ≡ q) Kept (body a s f) (body a (pass_c a s) g)
    bodies_kept f g h x y r =
        ap (λ z. equation_holds a f z x.1) r.there ∙
        under_is equals a r.equation.quantified [] (inside_holds a f r.equation x.1)
        (inside_holds a g (cut_equation masks x.0 (inserted r.equation (Some r.ks))) (strike (get_or masks x.0 []) x.1))
        (λ vs w. inside_kept x.0 r.equation r.ks x.1 r.there r.reached r.agrees r.fine vs w f g h
        (every_at (BodyFits a (map header_of s.equations)) s.equations x.0 r.equation r.there fit.bodies)) ∙
        sym (ap (λ (z : Instance). body a (pass_c a s) g z) r.left ∙
        ap (λ z. equation_holds a g z (strike (get_or masks x.0 []) x.1)) (written_at x.0 r.equation r.ks r.there r.reached))

    matched : Matched Kept (map_from 0 (block_of a) s.equations) (map_from 0 (block_of a) (pass_c a s).equations)
    matched =
        subst (λ z. Matched Kept (map_from 0 (block_of a) s.equations) (map_from 0 (block_of a) z))
        (sym (map_from_twice 0 (cut_equation masks) (λ i e. inserted e (get_or what i None)) s.equations))
        (blocks_match a Kept (λ i e. cut_equation masks i (inserted e (get_or what i None))) (λ i e. inserted_sign e (get_or what i None)) 0 s.equations
        (λ j e q x y r. insides (0 + j) e (ap (at s.equations) (zero-add j) ∙ q) x y r))
      where
        insides : (n : ℕ) (e : Equation) → at s.equations n ≡ Some e → (x y : Instance) → Kept x y →
            (block_of a n e).inside x ≡ (block_of a n (cut_equation masks n (inserted e (get_or what n None)))).inside y
        insides n e q x y r =
            both_inside n x y (sizes_of a e) (sizes_of a (cut_equation masks n (inserted e (get_or what n None)))) (sym (ap (λ (z : Instance). z.0) r.left)) fine
            (λ p.
            subst (λ (z : List ℕ). within (map (size_of a) (strike (get_or masks n []) z)) y.1 ≡ true) (inserted_sorts e (get_or what n None))
            (subst₂ (λ (z w : List ℕ). within z w ≡ true) (sym (strike_map (size_of a) (get_or masks n []) e.sorts))
            (ap (λ z. strike (get_or masks z []) x.1) (sym p) ∙ sym (ap (λ (z : Instance). z.1) r.left))
            (strike_within (get_or masks n []) (sizes_of a e) x.1 (fine p))))
          where
            fine : x.0 ≡ n → within (sizes_of a e) x.1 ≡ true
            fine p =
                subst (λ z. within (sizes_of a z) x.1 ≡ true)
                (some_same r.equation e (sym r.there ∙ ap (at s.equations) p ∙ q)) r.fine

    pub truth_kept : (x y : Instance) → Kept x y → truths a (pass_c a s) y ≡ truths a s x
    truth_kept x y k = sym (truths_agree a s (pass_c a s) Kept matched bodies_kept x y k)

    pub keeps : verdict a (pass_c a s) ≡ verdict a s
    keeps = truth_kept (s.start, s.values) ((pass_c a s).start, (pass_c a s).values) start_kept
