-- What the pass C writes fits.
use Rattle.std.proofs.Common.{◌≡◌, ℕ, zero, suc, ◌+◌, ◌<◌, ◌≤◌, Bool, true, false, not as flip, eqb, List, [], ◌∷◌, map, length, get_or, Some, None, Option, sym, refl, ap, ◌∙◌, subst, subst₂, zero-add, arith}
use lib.ListN.{length-map}
use Rattle.definitions.specs.Lists.{at, flat, is_some, map_from, strike, place, times}
use Rattle.definitions.specs.Alg.{Alg, Lawful}
use Rattle.definitions.specs.Systems.{Kind, parameter, value, Term, node, none, Occurrence, Clause, Equation, System}
use Rattle.definitions.specs.ReadSystem.{Scope, Header, scope}
use Rattle.definitions.specs.Values.{known, is_false}
use Rattle.definitions.specs.Terms.{on_parameter, replaced, on_occurrence, on_clause, cut_equation}
use Rattle.definitions.specs.Fits.{Every, Fits, fit_parameter, fit_value, TermsFit, ValuesFit, header_of, SortFits, HeaderFits, OccurrenceFits, ClauseFits, BodyFits, SystemFits}
use Rattle.definitions.specs.Constants.{Known, Knowledge, Brought, agreed, agreed_all, taken, learnt, learnt_all, clause_brings, equation_brings, all_bring, brought, unreached, height, least_knowledge, kind_for, inserted, unknown_of, pass_c}
use Rattle.fixpoint.proofs.Pull.{every_append}
use Rattle.theorems.proofs.Listing.{every_map, some_same, none_some, get_or_some, at_map_from, map_from_twice, map_twice, every_mapped, at_map_some, at_mapped, strike_short, map_from_long, every_unmapped}
use Rattle.theorems.proofs.Ranges.{InSort, known_low}
use Rattle.theorems.proofs.Cut.{strike_map}
use Rattle.theorems.proofs.Refit.{replaced_fits, replaced_twice, strike_at, place_low, strike_every, strike_values, strike_terms, every_map_from, value_fits}
use Rattle.theorems.proofs.KeepsC.{masks, what, inserted_sorts, unknown_kept}

-- known values in the range of their sorts, as many as there are sorts
abbrev OptFits : Alg → ℕ → Option ℕ → Type 0
OptFits a s None = Unit {0}
OptFits a s (Some v) = InSort a s v

abbrev pub KnownFits : Alg → List ℕ → Known → Type 0
KnownFits a [] [] = Unit {0}
KnownFits a [] (k ∷ ks) = ⊥
KnownFits a (s ∷ ss) [] = ⊥
KnownFits a (s ∷ ss) (k ∷ ks) = OptFits a s k × KnownFits a ss ks

abbrev OneFits : Alg → Equation → Option Known → Type 0
OneFits a e None = Unit {0}
OneFits a e (Some ks) = KnownFits a e.sorts ks

abbrev pub AllFit : Alg → List Equation → Knowledge → Type 0
AllFit a [] K = Unit {0}
AllFit a (e ∷ es) [] = Unit {0}
AllFit a (e ∷ es) (k ∷ K) = OneFits a e k × AllFit a es K

abbrev BroughtFits : Alg → List Equation → Brought → Type 0
BroughtFits a es b = (e : Equation) → at es b.0 ≡ Some e → KnownFits a e.sorts b.1

known_long : (a : Alg) (ss : List ℕ) (ks : Known) → KnownFits a ss ks → length ss ≡ length ks
known_long a [] [] h = refl
known_long a [] (k ∷ ks) h = absurd h
known_long a (s ∷ ss) [] h = absurd h
known_long a (s ∷ ss) (k ∷ ks) h = ap suc (known_long a ss ks h.1)

known_at : (a : Alg) (ss : List ℕ) (ks : Known) → KnownFits a ss ks → (n s v : ℕ) → at ss n ≡ Some s → get_or ks n None ≡ Some v → InSort a s v
known_at a [] ks h n s v e p = absurd (none_some s e)
known_at a (r ∷ ss) [] h n s v e p = absurd h
known_at a (r ∷ ss) (None ∷ ks) h zero s v e p = absurd (none_some v p)
known_at a (r ∷ ss) (Some w ∷ ks) h zero s v e p = subst₂ (InSort a) (some_same r s e) (some_same w v p) h.0
known_at a (r ∷ ss) (k ∷ ks) h (suc n) s v e p = known_at a ss ks h.1 n s v e p

agreed_fits : (a : Alg) (s : ℕ) (x y : Option ℕ) → OptFits a s x → OptFits a s (agreed x y)
agreed_fits a s None y h = tt
agreed_fits a s (Some v) None h = tt
agreed_fits a s (Some v) (Some w) h = go (eqb v w)
  where
    go : (b : Bool) → OptFits a s (elim b as (λ _. Option ℕ) [ true ↦ Some v | false ↦ None ])
    go true = h
    go false = tt

agreed_all_fits : (a : Alg) (ss : List ℕ) (xs ys : Known) → KnownFits a ss xs → KnownFits a ss ys → KnownFits a ss (agreed_all xs ys)
agreed_all_fits a [] [] ys h k = tt
agreed_all_fits a [] (x ∷ xs) ys h k = absurd h
agreed_all_fits a (s ∷ ss) [] ys h k = absurd h
agreed_all_fits a (s ∷ ss) (x ∷ xs) [] h k = absurd k
agreed_all_fits a (s ∷ ss) (x ∷ xs) (y ∷ ys) h k = (agreed_fits a s x y h.0, agreed_all_fits a ss xs ys h.1 k.1)

taken_fits : (a : Alg) (e : Equation) (k : Option Known) (ks : Known) → OneFits a e k → KnownFits a e.sorts ks → KnownFits a e.sorts (taken k ks)
taken_fits a e None ks h p = p
taken_fits a e (Some old) ks h p = agreed_all_fits a e.sorts old ks h p

learnt_fits : (a : Alg) (es : List Equation) (K : Knowledge) (j : ℕ) (ks : Known) → AllFit a es K → BroughtFits a es (j, ks) → AllFit a es (learnt K j ks)
learnt_fits a [] K j ks h b = tt
learnt_fits a (e ∷ es) [] j ks h b = tt
learnt_fits a (e ∷ es) (k ∷ K) zero ks h b = (taken_fits a e k ks h.0 (b e refl), h.1)
learnt_fits a (e ∷ es) (k ∷ K) (suc j) ks h b = (h.0, learnt_fits a es K j ks h.1 b)

learnt_all_fits : (a : Alg) (es : List Equation) (bs : List Brought) (K : Knowledge) → AllFit a es K → Every (BroughtFits a es) bs → AllFit a es (learnt_all K bs)
learnt_all_fits a es [] K h b = h
learnt_all_fits a es (x ∷ bs) K h b = learnt_all_fits a es bs (learnt K x.0 x.1) (learnt_fits a es K x.0 x.1 h b.0) b.1

none_fit : (a : Alg) (es : List Equation) → AllFit a es (map (λ _. None) es)
none_fit a [] = tt
none_fit a (e ∷ es) = (tt, none_fit a es)

all_at : (a : Alg) (es : List Equation) (K : Knowledge) → AllFit a es K → (i : ℕ) (e : Equation) → at es i ≡ Some e → OneFits a e (get_or K i None)
all_at a [] K h i e p = absurd (none_some e p)
all_at a (x ∷ es) [] h i e p = tt
all_at a (x ∷ es) (k ∷ K) h zero e p = subst (λ z. OneFits a z k) (some_same x e p) h.0
all_at a (x ∷ es) (k ∷ K) h (suc i) e p = all_at a es K h.1 i e p

start_fits : (a : Alg) (ss vs : List ℕ) → ValuesFit a ss vs → KnownFits a ss (map Some vs)
start_fits a [] [] h = tt
start_fits a [] (v ∷ vs) h = absurd h
start_fits a (s ∷ ss) [] h = absurd h
start_fits a (s ∷ ss) (v ∷ vs) h = (h.0.1, start_fits a ss vs h.1)

module _ (a : Alg) (law : Lawful a) where
  argument_fits : (c : Scope) (ks : Known) → KnownFits a c.parameters ks → (s : ℕ) (t : Term) → Fits a c 32 s t → OptFits a s (known a ks t)
  argument_fits c ks h s t f = go (known a ks t) refl
    where
      go : (o : Option ℕ) → known a ks t ≡ o → OptFits a s o
      go None e = tt
      go (Some v) e = known_low a law c ks (known_at a c.parameters ks h) f v e

  arguments_fit : (c : Scope) (ks : Known) → KnownFits a c.parameters ks → (ss : List ℕ) (ts : List Term) → TermsFit a c ss ts → KnownFits a ss (map (known a ks) ts)
  arguments_fit c ks h [] [] f = tt
  arguments_fit c ks h [] (t ∷ ts) f = absurd f
  arguments_fit c ks h (s ∷ ss) [] f = absurd f
  arguments_fit c ks h (s ∷ ss) (t ∷ ts) f = (argument_fits c ks h s t f.0, arguments_fit c ks h ss ts f.1)

  header_same : (es : List Equation) (n : ℕ) (e : Equation) (h : Header) → at es n ≡ Some e → at (map header_of es) n ≡ Some h → h.sorts ≡ e.sorts
  header_same es n e h p q = ap (λ (z : Header). z.sorts) (some_same h (header_of e) (sym q ∙ at_mapped header_of es n e p))

  module _ (es : List Equation) where
    occurrences_bring : (c : Scope) (ks : Known) → KnownFits a c.parameters ks → (os : List Occurrence) → Every (OccurrenceFits a (map header_of es) c) os →
        Every (BroughtFits a es) (map (λ (o : Occurrence). (o.target, map (known a ks) o.arguments)) os)
    occurrences_bring c ks h [] f = tt
    occurrences_bring c ks h (o ∷ os) f = (
      (λ e p. subst (λ z. KnownFits a z (map (known a ks) o.arguments)) (header_same es o.target e f.0.header p f.0.there)
          (arguments_fit c ks h f.0.header.sorts o.arguments f.0.fit)),
      occurrences_bring c ks h os f.1,
    )

    clause_bring : (c : Scope) (ks : Known) → KnownFits a c.parameters ks → (k : Clause) → ClauseFits a (map header_of es) c k → Every (BroughtFits a es) (clause_brings a ks k)
    clause_bring c ks h k f = go (is_false (known a ks k.guard)) refl
      where
        go : (b : Bool) → is_false (known a ks k.guard) ≡ b → Every (BroughtFits a es) (clause_brings a ks k)
        go true e = rw (e, clause_brings) tt
        go false e = rw (e, clause_brings) (occurrences_bring c ks h k.occurrences f.fit)

    clauses_bring : (c : Scope) (ks : Known) → KnownFits a c.parameters ks → (cs : List Clause) → Every (ClauseFits a (map header_of es) c) cs →
        Every (BroughtFits a es) (flat (map (clause_brings a ks) cs))
    clauses_bring c ks h [] f = tt
    clauses_bring c ks h (k ∷ cs) f =
        every_append (BroughtFits a es) (clause_brings a ks k) (flat (map (clause_brings a ks) cs)) (clause_bring c ks h k f.0) (clauses_bring c ks h cs f.1)

    equation_bring : (e : Equation) (k : Option Known) → OneFits a e k → BodyFits a (map header_of es) e → Every (BroughtFits a es) (equation_brings a e k)
    equation_bring e None h b = tt
    equation_bring e (Some ks) h b = go (is_false (known a ks e.h)) refl
      where
        go : (t : Bool) → is_false (known a ks e.h) ≡ t → Every (BroughtFits a es) (equation_brings a e (Some ks))
        go true p = rw (p, equation_brings) tt
        go false p = rw (p, equation_brings) (clauses_bring (scope (header_of e)) ks h e.clauses b.fit)

    all_bring_lem : (fs : List Equation) (K : Knowledge) → AllFit a fs K → Every (BodyFits a (map header_of es)) fs → Every (BroughtFits a es) (all_bring a fs K)
    all_bring_lem [] K h b = tt
    all_bring_lem (e ∷ fs) [] h b = tt
    all_bring_lem (e ∷ fs) (k ∷ K) h b =
        every_append (BroughtFits a es) (equation_brings a e k) (all_bring a fs K) (equation_bring e k h.0 b.0) (all_bring_lem fs K h.1 b.1)

  module _ (s : System) (fit : SystemFits a s) where
    step_fits : (K : Knowledge) → AllFit a s.equations K → AllFit a s.equations (learnt_all K (brought a s K))
    step_fits K h =
        learnt_all_fits a s.equations (brought a s K) K h (
          (λ e p. subst (λ z. KnownFits a z (map Some s.values)) (header_same s.equations s.start e fit.header p fit.there)
              (start_fits a fit.header.sorts s.values fit.values)),
          all_bring_lem s.equations s.equations K h fit.bodies,
        )

    times_fit : (n : ℕ) (K : Knowledge) → AllFit a s.equations K → AllFit a s.equations (times n (λ K. learnt_all K (brought a s K)) K)
    times_fit zero K h = h
    times_fit (suc n) K h = times_fit n (learnt_all K (brought a s K)) (step_fits K h)

    -- the least knowledge has values in range
    pub knowledge_fits : AllFit a s.equations (least_knowledge a s)
    knowledge_fits = times_fit (height s) (unreached s) (none_fit a s.equations)

    pub knowledge_long : (i : ℕ) (e : Equation) (ks : Known) → at s.equations i ≡ Some e → at (least_knowledge a s) i ≡ Some (Some ks) → length e.sorts ≡ length ks
    knowledge_long i e ks p q =
        known_long a e.sorts ks
        (subst (OneFits a e) (get_or_some None (least_knowledge a s) i (Some ks) q) (all_at a s.equations (least_knowledge a s) knowledge_fits i e p))

    abbrev after : ℕ → Equation → Equation
    after i e = cut_equation (masks a s) i (inserted e (get_or (what a s) i None))

    abbrev them : List Equation
    them = map_from 0 after s.equations

    -- the header of an equation that was there
    header_left : (j : ℕ) (h : Header) → at (map header_of s.equations) j ≡ Some h →
        (h' : Header) × (at (map header_of them) j ≡ Some h') × (strike (get_or (masks a s) j []) h.sorts ≡ h'.sorts)
    header_left j h p =
        let (q, eq, eh) = at_map_some header_of s.equations j h p in (
          header_of (after j q),
          at_mapped header_of them j (after j q) (at_map_from 0 after s.equations j q eq ∙ ap (λ z. Some (after z q)) (zero-add j)),
          ap (strike (get_or (masks a s) j [])) (sym (ap (λ (z : Header). z.sorts) eh) ∙ inserted_sorts q (get_or (what a s) j None)),
        )

    header_fits : (i : ℕ) (e : Equation) (k : Option Known) → HeaderFits a (header_of e) → HeaderFits a (header_of (cut_equation (masks a s) i (inserted e k)))
    header_fits i e None h =
        record {
          few = omega (arith, strike_short (get_or (masks a s) i []) e.sorts, h.few);
          sorts = strike_every (SortFits a) (get_or (masks a s) i []) e.sorts h.sorts;
          few_quantified = omega arith;
          quantified = tt;
        }
    header_fits i e (Some ks) h =
        record {
          few = omega (arith, strike_short (get_or (masks a s) i []) e.sorts, h.few);
          sorts = strike_every (SortFits a) (get_or (masks a s) i []) e.sorts h.sorts;
          few_quantified = h.few_quantified;
          quantified = h.quantified;
        }

    module _ (i : ℕ) (e : Equation) (ks : Known) (mask_is : get_or (masks a s) i [] ≡ map (λ k. flip (is_some k)) ks) (kf : KnownFits a e.sorts ks) where
      abbrev mask : List Bool
      mask = get_or (masks a s) i []

      abbrev put_in : Term → Term
      put_in = replaced (kind_for e.sorts ks)

      abbrev renumbered : Term → Term
      renumbered = replaced (λ n. parameter (place mask n))

      abbrev old : Scope
      old = scope (header_of e)

      abbrev new : Scope
      new = scope (header_of (cut_equation (masks a s) i (inserted e (Some ks))))

      parameter_fits : (d n r : ℕ) → n < 16 → at e.sorts n ≡ Some r →
          Fits a new (suc d) r (node (on_parameter (λ n. parameter (place mask n)) (kind_for e.sorts ks n)) none)
      parameter_fits d n r l p = go (get_or ks n None) refl
        where
          go : (o : Option ℕ) → get_or ks n None ≡ o →
              Fits a new (suc d) r (node (on_parameter (λ n. parameter (place mask n)) (elim o as (λ _. Kind) [ None ↦ parameter n | Some v ↦ value (get_or e.sorts n 0) v ])) none)
          go None q =
              fit_parameter (omega (arith, place_low mask n))
              (strike_at mask n e.sorts r
              (ap (λ m. get_or m n false) mask_is ∙ unknown_kept e.sorts ks n r (known_long a e.sorts ks kf) p q) p)
          go (Some v) q =
              subst (λ z. Fits a new (suc d) r (node (value z v) none)) (sym (get_or_some 0 e.sorts n r p))
              (value_fits a law new d r v (known_at a e.sorts ks kf n r v p q))

      refits : (d r : ℕ) (t : Term) → Fits a old d r t → Fits a new d r (renumbered (put_in t))
      refits d r t h =
          subst (Fits a new d r) (sym (replaced_twice t (λ n. parameter (place mask n)) (kind_for e.sorts ks)))
          (replaced_fits a old new (λ n. on_parameter (λ n. parameter (place mask n)) (kind_for e.sorts ks n)) (λ n r q. q) parameter_fits h)

      occurrence_fits : (o : Occurrence) → OccurrenceFits a (map header_of s.equations) old o →
          OccurrenceFits a (map header_of them) new (on_occurrence (λ j ts. strike (get_or (masks a s) j []) ts) renumbered (on_occurrence (λ j ts. ts) put_in o))
      occurrence_fits o f =
          let (h, eh, es) = header_left o.target f.header f.there in
          let m = get_or (masks a s) o.target [] in
          record {
            small = f.small;
            header = h;
            there = eh;
            fit = subst₂ (TermsFit a new) es
                (sym (map_twice renumbered put_in (strike m o.arguments)) ∙ ap (map renumbered) (strike_map put_in m o.arguments))
                (strike_terms a old new (λ t. renumbered (put_in t)) (refits 32) m f.header.sorts o.arguments f.fit);
          }

      long_same : {A B C : Type 0} (f : B → C) (g : A → B) (xs : List A) → length (map f (map g xs)) ≡ length xs
      long_same f g xs = length-map (map g xs) f ∙ length-map xs g

      clause_fits : (c : Clause) → ClauseFits a (map header_of s.equations) old c →
          ClauseFits a (map header_of them) new (on_clause (λ j ts. strike (get_or (masks a s) j []) ts) renumbered (on_clause (λ j ts. ts) put_in c))
      clause_fits c f =
          record {
            guard = refits 32 0 c.guard f.guard;
            some = subst (λ n. 1 ≤ n) (sym (long_same (on_occurrence (λ j ts. strike (get_or (masks a s) j []) ts) renumbered) (on_occurrence (λ j ts. ts) put_in) c.occurrences)) f.some;
            few = subst (λ n. n ≤ 8) (sym (long_same (on_occurrence (λ j ts. strike (get_or (masks a s) j []) ts) renumbered) (on_occurrence (λ j ts. ts) put_in) c.occurrences)) f.few;
            fit = every_mapped (OccurrenceFits a (map header_of them) new) (on_occurrence (λ j ts. strike (get_or (masks a s) j []) ts) renumbered) (map (on_occurrence (λ j ts. ts) put_in) c.occurrences)
                (every_mapped (λ o. OccurrenceFits a (map header_of them) new (on_occurrence (λ j ts. strike (get_or (masks a s) j []) ts) renumbered o)) (on_occurrence (λ j ts. ts) put_in) c.occurrences
                (every_map c.occurrences occurrence_fits f.fit));
          }

      body_fits : BodyFits a (map header_of s.equations) e → BodyFits a (map header_of them) (cut_equation (masks a s) i (inserted e (Some ks)))
      body_fits b =
          record {
            h = refits 32 0 e.h b.h;
            few = subst (λ n. n < 16) (sym (long_same (on_clause (λ j ts. strike (get_or (masks a s) j []) ts) renumbered) (on_clause (λ j ts. ts) put_in) e.clauses)) b.few;
            fit = every_mapped (ClauseFits a (map header_of them) new) (on_clause (λ j ts. strike (get_or (masks a s) j []) ts) renumbered) (map (on_clause (λ j ts. ts) put_in) e.clauses)
                (every_mapped (λ c. ClauseFits a (map header_of them) new (on_clause (λ j ts. strike (get_or (masks a s) j []) ts) renumbered c)) (on_clause (λ j ts. ts) put_in) e.clauses
                (every_map e.clauses clause_fits b.fit));
          }

    any_body_fits : (i : ℕ) (e : Equation) → at s.equations i ≡ Some e → (k : Option Known) → get_or (what a s) i None ≡ k → OneFits a e k →
        BodyFits a (map header_of s.equations) e → BodyFits a (map header_of them) (cut_equation (masks a s) i (inserted e k))
    any_body_fits i e p None q h b =
        record { h = fit_value (omega arith) (omega arith) law.truths (omega arith); few = omega arith; fit = tt }
    any_body_fits i e p (Some ks) q h b =
        body_fits i e ks
        (get_or_some [] (masks a s) i _ (at_map_from 0 (λ i e. unknown_of e (get_or (what a s) i None)) s.equations i e p) ∙
        ap (λ z. unknown_of e (get_or (what a s) z None)) (zero-add i) ∙ ap (unknown_of e) q) h b

    pub fits : SystemFits a (pass_c a s)
    fits =
        subst (λ z. SystemFits a (record { equations = z; start = s.start; values = strike (get_or (masks a s) s.start []) s.values }))
        (sym (map_from_twice 0 (cut_equation (masks a s)) (λ i e. inserted e (get_or (what a s) i None)) s.equations))
        (let (h, eh, es) = header_left s.start fit.header fit.there in
        record {
          some = subst (λ n. 1 ≤ n) (sym (map_from_long 0 after s.equations)) fit.some;
          few = subst (λ n. n < 32) (sym (map_from_long 0 after s.equations)) fit.few;
          headers = every_mapped (HeaderFits a) header_of them
              (every_map_from (λ e. HeaderFits a (header_of e)) 0 after s.equations (λ j e p h. header_fits (0 + j) e (get_or (what a s) (0 + j) None) h)
              (every_unmapped (HeaderFits a) header_of s.equations fit.headers));
          bodies = every_map_from (BodyFits a (map header_of them)) 0 after s.equations
              (λ j e p b. subst (λ n. BodyFits a (map header_of them) (after n e)) (sym (zero-add j))
              (any_body_fits j e p (get_or (what a s) j None) refl (all_at a s.equations (what a s) knowledge_fits j e p) b)) fit.bodies;
          small = fit.small;
          header = h;
          there = eh;
          values = subst (λ z. ValuesFit a z (strike (get_or (masks a s) s.start []) s.values)) es
              (strike_values a (get_or (masks a s) s.start []) fit.header.sorts s.values fit.values);
        })
