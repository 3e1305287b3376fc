-- What the pass F writes fits.
use Rattle.std.proofs.Common.{◌≡◌, ℕ, suc, ◌<◌, ◌≤◌, Bool, true, false, not as flip, List, [], ◌∷◌, map, Some, None, Option, sym, refl, ap, ◌∙◌, subst, arith}
use lib.ListN.{length-map}
use Rattle.definitions.specs.Lists.{at, keep, or_else}
use Rattle.definitions.specs.Alg.{Alg, Lawful}
use Rattle.definitions.specs.Systems.{Kind, value, operation, not, and, or, equal, Term, Terms, node, none, more, Occurrence, Clause, Equation, System}
use Rattle.definitions.specs.ReadSystem.{Scope, Header, scope}
use Rattle.definitions.specs.Values.{known, is_false}
use Rattle.definitions.specs.Terms.{on_occurrence, on_clause}
use Rattle.definitions.specs.Passes.{sort_of, folded_as, folded, foldeds, folded_equation, pass_f}
use Rattle.definitions.specs.Fits.{Fits, fit_parameter, fit_variable, fit_value, fit_operation, fit_not, fit_and, fit_or, fit_equal, FitsArgs, fit_none, fit_more, TermsFit, ValuesFit, header_of, HeaderFits, OccurrenceFits, ClauseFits, BodyFits, SystemFits}
use Rattle.theorems.proofs.Listing.{every_map, every_keep, keep_short, none_some, every_mapped, at_map_some, at_mapped, every_unmapped}
use Rattle.theorems.proofs.Ranges.{InSort, known_low}
use Rattle.theorems.proofs.Refit.{value_fits}
use Rattle.theorems.proofs.KeepsF.{shut, opened}

module _ (a : Alg) (law : Lawful a) (c : Scope) where
  -- where a value is known, its term, else the term with its parts folded
  either_fits : (d s : ℕ) (k : Kind) (ts : Terms) (o : Option ℕ) → (((v : ℕ) → o ≡ Some v → (sort_of a k ≡ s) × InSort a s v)) → Fits a c (suc d) s (node k ts) → Fits a c (suc d) s (folded_as a k o ts)
  either_fits d s k ts None h f = f
  either_fits d s k ts (Some v) h f =
      subst (λ z. Fits a c (suc d) s (node (value z v) none)) (sym (h v refl).0) (value_fits a law c d s v (h v refl).1)

  low : {d s : ℕ} {t : Term} → Fits a c d s t → (v : ℕ) → known a [] t ≡ Some v → InSort a s v
  low f v p = known_low a law c [] (λ n s w e q. absurd (none_some w q)) f v p

  some_sort : {o s : ℕ} → a.res_sort o ≡ Some s → or_else (a.res_sort o) 0 ≡ s
  some_sort e = ap (λ z. or_else z 0) e

  mutual
    pub folded_fits : {d s : ℕ} {t : Term} → Fits a c d s t → Fits a c d s (folded t a)
    folded_fits (fit_parameter l e) = fit_parameter l e
    folded_fits (fit_variable l e) = fit_variable l e
    folded_fits (fit_value l k e m) = fit_value l k e m
    folded_fits (fit_operation {d} {s} {o} {ts = ts} l e k h) =
        either_fits d s (operation o) (foldeds ts a) (known a [] (node (operation o) ts))
        (λ v p. (some_sort k, low (fit_operation l e k h) v p)) (fit_operation l e k (folded_args h))
    folded_fits (fit_not {d} {t} h) = either_fits d 0 not _ (known a [] (node not (more t none))) (λ v p. (refl, low (fit_not h) v p)) (fit_not (folded_fits h))
    folded_fits (fit_and {d} {t} {u} h k) =
        either_fits d 0 and _ (known a [] (node and (more t (more u none)))) (λ v p. (refl, low (fit_and h k) v p)) (fit_and (folded_fits h) (folded_fits k))
    folded_fits (fit_or {d} {t} {u} h k) =
        either_fits d 0 or _ (known a [] (node or (more t (more u none)))) (λ v p. (refl, low (fit_or h k) v p)) (fit_or (folded_fits h) (folded_fits k))
    folded_fits (fit_equal {d} {s} {t} {u} h k) =
        either_fits d 0 equal _ (known a [] (node equal (more t (more u none)))) (λ v p. (refl, low (fit_equal h k) v p)) (fit_equal (folded_fits h) (folded_fits k))

    folded_args : {d o k n : ℕ} {ts : Terms} → FitsArgs a c d o k n ts → FitsArgs a c d o k n (foldeds ts a)
    folded_args fit_none = fit_none
    folded_args (fit_more e h r) = fit_more e (folded_fits h) (folded_args r)

module _ (a : Alg) (law : Lawful a) where
  terms_folded : (c : Scope) (ss : List ℕ) (ts : List Term) → TermsFit a c ss ts → TermsFit a c ss (map (λ t. folded t a) ts)
  terms_folded c [] [] h = tt
  terms_folded c [] (t ∷ ts) h = absurd h
  terms_folded c (s ∷ ss) [] h = absurd h
  terms_folded c (s ∷ ss) (t ∷ ts) h = (folded_fits a law c h.0, terms_folded c ss ts h.1)

  module _ (hs hs' : List Header) (same : (j : ℕ) (h : Header) → at hs j ≡ Some h → (h' : Header) × (at hs' j ≡ Some h') × (h.sorts ≡ h'.sorts)) (c : Scope) where
    occurrence_fits : (o : Occurrence) → OccurrenceFits a hs c o → OccurrenceFits a hs' c (on_occurrence (λ j ts. ts) (λ t. folded t a) o)
    occurrence_fits o f =
        let (h, eh, es) = same o.target f.header f.there in
        record {
          small = f.small;
          header = h;
          there = eh;
          fit = subst (λ z. TermsFit a c z (map (λ t. folded t a) o.arguments)) es (terms_folded c f.header.sorts o.arguments f.fit);
        }

    clause_fits : (k : Clause) → ClauseFits a hs c k → ClauseFits a hs' c (on_clause (λ j ts. ts) (λ t. folded t a) k)
    clause_fits k f =
        record {
          guard = folded_fits a law c f.guard;
          some = subst (λ n. 1 ≤ n) (sym (length-map k.occurrences (on_occurrence (λ j ts. ts) (λ t. folded t a)))) f.some;
          few = subst (λ n. n ≤ 8) (sym (length-map k.occurrences (on_occurrence (λ j ts. ts) (λ t. folded t a)))) f.few;
          fit = every_mapped (OccurrenceFits a hs' c) (on_occurrence (λ j ts. ts) (λ t. folded t a)) k.occurrences (every_map k.occurrences occurrence_fits f.fit);
        }

  -- either form fits
  by_form : (e : Equation) (P : Equation → Type 0) → P (shut e) → P (opened a e) → P (folded_equation a e)
  by_form e P p q = go (is_false (known a [] e.h))
    where
      go : (b : Bool) → P (elim b as (λ _. Equation) [ true ↦ shut e | false ↦ opened a e ])
      go true = p
      go false = q

  header_fits : (e : Equation) → HeaderFits a (header_of e) → HeaderFits a (header_of (folded_equation a e))
  header_fits e h =
      by_form e (λ e. HeaderFits a (header_of e)) (record { few = h.few; sorts = h.sorts; few_quantified = omega arith; quantified = tt })
      (record { few = h.few; sorts = h.sorts; few_quantified = h.few_quantified; quantified = h.quantified })

  body_fits : (hs hs' : List Header) (same : (j : ℕ) (h : Header) → at hs j ≡ Some h → (h' : Header) × (at hs' j ≡ Some h') × (h.sorts ≡ h'.sorts)) (e : Equation) →
      BodyFits a hs e → BodyFits a hs' (folded_equation a e)
  body_fits hs hs' same e b =
      by_form e (BodyFits a hs')
      (record { h = fit_value (omega arith) (omega arith) law.truths (omega arith); few = omega arith; fit = tt })
      (record {
        h = folded_fits a law (scope (header_of e)) b.h;
        few = omega (
          arith,
          b.few,
          keep_short (λ (c : Clause). flip (is_false (known a [] c.guard))) e.clauses,
          length-map (keep (λ (c : Clause). flip (is_false (known a [] c.guard))) e.clauses) (on_clause (λ j ts. ts) (λ t. folded t a)),
        );
        fit = every_mapped (ClauseFits a hs' (scope (header_of e))) (on_clause (λ j ts. ts) (λ t. folded t a)) (keep (λ (c : Clause). flip (is_false (known a [] c.guard))) e.clauses)
            (every_map (keep (λ (c : Clause). flip (is_false (known a [] c.guard))) e.clauses) (clause_fits hs hs' same (scope (header_of e)))
            (every_keep (ClauseFits a hs (scope (header_of e))) (λ (c : Clause). flip (is_false (known a [] c.guard))) e.clauses b.fit));
      })

  pub fits : (s : System) → SystemFits a s → SystemFits a (pass_f a s)
  fits s fit =
      let (h, eh, es) = left s.start fit.header fit.there in
      record {
        some = subst (λ n. 1 ≤ n) (sym (length-map s.equations (folded_equation a))) fit.some;
        few = subst (λ n. n < 32) (sym (length-map s.equations (folded_equation a))) fit.few;
        headers = every_mapped (HeaderFits a) header_of (map (folded_equation a) s.equations)
            (every_mapped (λ e. HeaderFits a (header_of e)) (folded_equation a) s.equations
            (every_map s.equations header_fits (every_unmapped (HeaderFits a) header_of s.equations fit.headers)));
        bodies = every_mapped (BodyFits a (map header_of (map (folded_equation a) s.equations))) (folded_equation a) s.equations
            (every_map s.equations (body_fits (map header_of s.equations) (map header_of (map (folded_equation a) s.equations)) left) fit.bodies);
        small = fit.small;
        header = h;
        there = eh;
        values = subst (λ z. ValuesFit a z s.values) es fit.values;
      }
    where
      left : (j : ℕ) (h : Header) → at (map header_of s.equations) j ≡ Some h →
          (h' : Header) × (at (map header_of (map (folded_equation a) s.equations)) j ≡ Some h') × (h.sorts ≡ h'.sorts)
      left j h p =
          let (q, eq, eh) = at_map_some header_of s.equations j h p in (
            header_of (folded_equation a q),
            at_mapped header_of (map (folded_equation a) s.equations) j (folded_equation a q) (at_mapped (folded_equation a) s.equations j q eq),
            sym (ap (λ (z : Header). z.sorts) eh) ∙ by_form q (λ z. q.sorts ≡ z.sorts) refl refl,
          )
