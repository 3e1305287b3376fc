-- What is left after removing parameters that nothing kept depends on fits.
use Rattle.std.proofs.Common.{◌≡◌, ℕ, ◌+◌, ◌<◌, ◌≤◌, Bool, true, false, List, [], ◌∷◌, map, get_or, Some, sym, ap, ◌∙◌, subst, zero-add, arith}
use lib.ListN.{length-map}
use Rattle.definitions.specs.Lists.{at, map_from, strike, place}
use Rattle.definitions.specs.Alg.{Alg}
use Rattle.definitions.specs.Systems.{parameter, Term, Terms, term, terms, folds, Occurrence, Clause, Equation, System}
use Rattle.definitions.specs.ReadSystem.{Scope, Header, scope}
use Rattle.definitions.specs.Terms.{on_parameter, replaced, on_occurrence, on_clause, cut_equation, cut}
use Rattle.definitions.specs.Fits.{Fits, fit_parameter, fit_variable, fit_value, fit_operation, fit_not, fit_and, fit_or, fit_equal, FitsArgs, fit_none, fit_more, TermsFit, ValuesFit, Every, header_of, SortFits, HeaderFits, OccurrenceFits, ClauseFits, BodyFits, SystemFits}
use Rattle.theorems.proofs.Listing.{at_map_from, every_mapped, every_two, at_map_some, at_mapped, strike_short, map_from_long, every_unmapped}
use Rattle.theorems.proofs.Cut.{OnKinds, OnAll, OnParameters}
use Rattle.theorems.proofs.Refit.{strike_at, place_low, strike_every, strike_values, every_map_from}
use Rattle.theorems.proofs.KeepsCut.{Keeps, ClosedClause, Closed}

module _ (a : Alg) (c c' : Scope) (ms : List Bool) (variables : (n s : ℕ) → at c.variables n ≡ Some s → at c'.variables n ≡ Some s)
    (parameters : (n s : ℕ) → get_or ms n false ≡ true → at c.parameters n ≡ Some s → at c'.parameters (place ms n) ≡ Some s) where
  mutual
    pub renumber_fits : {d s : ℕ} {t : Term} → Fits a c d s t → OnKinds t (OnParameters (λ n. get_or ms n false ≡ true)) → Fits a c' d s (replaced (λ n. parameter (place ms n)) t)
    renumber_fits (fit_parameter {s = s} {n} l e) k = fit_parameter (omega (arith, place_low ms n)) (parameters n s k.0 e)
    renumber_fits (fit_variable {s = s} {n} l e) k = fit_variable l (variables n s e)
    renumber_fits (fit_value l m e o) k = fit_value l m e o
    renumber_fits (fit_operation l e m h) k = fit_operation l e m (renumber_args h k.1)
    renumber_fits (fit_not h) k = fit_not (renumber_fits h k.1.0)
    renumber_fits (fit_and h g) k = fit_and (renumber_fits h k.1.0) (renumber_fits g k.1.1.0)
    renumber_fits (fit_or h g) k = fit_or (renumber_fits h k.1.0) (renumber_fits g k.1.1.0)
    renumber_fits (fit_equal h g) k = fit_equal (renumber_fits h k.1.0) (renumber_fits g k.1.1.0)

    renumber_args : {d o k n : ℕ} {ts : Terms} → FitsArgs a c d o k n ts → OnAll ts (OnParameters (λ n. get_or ms n false ≡ true)) →
        FitsArgs a c' d o k n (terms (folds ts (λ q parts. term (on_parameter (λ n. parameter (place ms n)) q) parts)))
    renumber_args fit_none k = fit_none
    renumber_args (fit_more e h r) k = fit_more e (renumber_fits h k.0) (renumber_args r k.1)

struck_fit : (a : Alg) (c c' : Scope) (r : Term → Term) (P : Term → Type 0) → ((s : ℕ) (t : Term) → Fits a c 32 s t → P t → Fits a c' 32 s (r t)) →
    (ms : List Bool) (ss : List ℕ) (ts : List Term) → TermsFit a c ss ts → Every P (strike ms ts) → TermsFit a c' (strike ms ss) (map r (strike ms ts))
struck_fit a c c' r P f [] ss ts h k = tt
struck_fit a c c' r P f (true ∷ ms) [] [] h k = tt
struck_fit a c c' r P f (false ∷ ms) [] [] h k = tt
struck_fit a c c' r P f (m ∷ ms) [] (t ∷ ts) h k = absurd h
struck_fit a c c' r P f (m ∷ ms) (s ∷ ss) [] h k = absurd h
struck_fit a c c' r P f (true ∷ ms) (s ∷ ss) (t ∷ ts) h k = (f s t h.0 k.0, struck_fit a c c' r P f ms ss ts h.1 k.1)
struck_fit a c c' r P f (false ∷ ms) (s ∷ ss) (t ∷ ts) h k = struck_fit a c c' r P f ms ss ts h.1 k

module _ (a : Alg) (s : System) (masks : List (List Bool)) (fit : SystemFits a s) (closed : (i : ℕ) (e : Equation) → at s.equations i ≡ Some e → Closed masks i e) where
  abbrev them : List Equation
  them = map_from 0 (cut_equation masks) s.equations

  header_left : (j : ℕ) (h : Header) → at (map header_of s.equations) j ≡ Some h →
      (h' : Header) × (at (map header_of them) j ≡ Some h') × (strike (get_or masks j []) h.sorts ≡ h'.sorts)
  header_left j h p =
      let (q, eq, eh) = at_map_some header_of s.equations j h p in (
        header_of (cut_equation masks j q),
        at_mapped header_of them j (cut_equation masks j q) (at_map_from 0 (cut_equation masks) s.equations j q eq ∙ ap (λ z. Some (cut_equation masks z q)) (zero-add j)),
        ap (strike (get_or masks j [])) (sym (ap (λ (z : Header). z.sorts) eh)),
      )

  header_fits : (i : ℕ) (e : Equation) → HeaderFits a (header_of e) → HeaderFits a (header_of (cut_equation masks i e))
  header_fits i e h =
      record {
        few = omega (arith, strike_short (get_or masks i []) e.sorts, h.few);
        sorts = strike_every (SortFits a) (get_or masks i []) e.sorts h.sorts;
        few_quantified = h.few_quantified;
        quantified = h.quantified;
      }

  module _ (i : ℕ) (e : Equation) where
    abbrev mask : List Bool
    mask = get_or masks i []

    abbrev renumbered : Term → Term
    renumbered = replaced (λ n. parameter (place mask n))

    abbrev old : Scope
    old = scope (header_of e)

    abbrev new : Scope
    new = scope (header_of (cut_equation masks i e))

    refits : (r : ℕ) (t : Term) → Fits a old 32 r t → Keeps masks i t → Fits a new 32 r (renumbered t)
    refits r t h k = renumber_fits a old new mask (λ n s q. q) (λ n s m q. strike_at mask n e.sorts s m q) h k

    occurrence_fits : (o : Occurrence) → OccurrenceFits a (map header_of s.equations) old o → Every (Keeps masks i) (strike (get_or masks o.target []) o.arguments) →
        OccurrenceFits a (map header_of them) new (on_occurrence (λ j ts. strike (get_or masks j []) ts) renumbered o)
    occurrence_fits o f k =
        let (h, eh, es) = header_left o.target f.header f.there in
        record {
          small = f.small;
          header = h;
          there = eh;
          fit = subst (λ z. TermsFit a new z (map renumbered (strike (get_or masks o.target []) o.arguments))) es
              (struck_fit a old new renumbered (Keeps masks i) refits (get_or masks o.target []) f.header.sorts o.arguments f.fit k);
        }

    clause_fits : (c : Clause) → ClauseFits a (map header_of s.equations) old c → ClosedClause masks i c →
        ClauseFits a (map header_of them) new (on_clause (λ j ts. strike (get_or masks j []) ts) renumbered c)
    clause_fits c f k =
        record {
          guard = refits 0 c.guard f.guard k.guard;
          some = subst (λ n. 1 ≤ n) (sym (length-map c.occurrences (on_occurrence (λ j ts. strike (get_or masks j []) ts) renumbered))) f.some;
          few = subst (λ n. n ≤ 8) (sym (length-map c.occurrences (on_occurrence (λ j ts. strike (get_or masks j []) ts) renumbered))) f.few;
          fit = every_mapped (OccurrenceFits a (map header_of them) new) (on_occurrence (λ j ts. strike (get_or masks j []) ts) renumbered) c.occurrences
              (every_two c.occurrences occurrence_fits f.fit k.arguments);
        }

    body_fits : BodyFits a (map header_of s.equations) e → Closed masks i e → BodyFits a (map header_of them) (cut_equation masks i e)
    body_fits b k =
        record {
          h = refits 0 e.h b.h k.h;
          few = subst (λ n. n < 16) (sym (length-map e.clauses (on_clause (λ j ts. strike (get_or masks j []) ts) renumbered))) b.few;
          fit = every_mapped (ClauseFits a (map header_of them) new) (on_clause (λ j ts. strike (get_or masks j []) ts) renumbered) e.clauses
              (every_two e.clauses clause_fits b.fit k.clauses);
        }

  pub fits : SystemFits a (cut masks s)
  fits =
      let (h, eh, es) = header_left s.start fit.header fit.there in
      record {
        some = subst (λ n. 1 ≤ n) (sym (map_from_long 0 (cut_equation masks) s.equations)) fit.some;
        few = subst (λ n. n < 32) (sym (map_from_long 0 (cut_equation masks) s.equations)) fit.few;
        headers = every_mapped (HeaderFits a) header_of them
            (every_map_from (λ e. HeaderFits a (header_of e)) 0 (cut_equation masks) s.equations (λ j e p h. header_fits (0 + j) e h)
            (every_unmapped (HeaderFits a) header_of s.equations fit.headers));
        bodies = every_map_from (BodyFits a (map header_of them)) 0 (cut_equation masks) s.equations
            (λ j e p b. subst (λ n. BodyFits a (map header_of them) (cut_equation masks n e)) (sym (zero-add j)) (body_fits j e b (closed j e p))) fit.bodies;
        small = fit.small;
        header = h;
        there = eh;
        values = subst (λ z. ValuesFit a z (strike (get_or masks s.start []) s.values)) es
            (strike_values a (get_or masks s.start []) fit.header.sorts s.values fit.values);
      }
