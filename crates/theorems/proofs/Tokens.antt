-- The tokens of a body of an instance in range name instances in range.
use Rattle.std.proofs.Common.{◌≡◌, ℕ, zero, suc, ◌+◌, ◌<◌, Bool, true, false, List, [], ◌∷◌, ◌++◌, map, Some, Option, sym, refl, ◌∙◌, subst, append_assoc, append-nil, arith}
use Rattle.definitions.specs.Lists.{at, or_else, keep, from, up_to}
use Rattle.definitions.specs.Alg.{Alg, Lawful}
use Rattle.definitions.specs.Systems.{Quantifier, exists, forall, Quantified, Occurrence, Clause, Equation, System}
use Rattle.definitions.specs.ReadSystem.{Header, scope}
use Rattle.definitions.specs.Values.{holds}
use Rattle.definitions.specs.Truth.{Instance, meant}
use Rattle.definitions.specs.Boolean.{Form, known, var, forms, vars, vars_all, over, spread, all_of, clause_form, inside_form, equation_form, form}
use Rattle.definitions.specs.Fits.{Every, SortFits, HeaderFits, header_of, OccurrenceFits, ClauseFits, BodyFits, SystemFits}
use Rattle.theorems.specs.PassLaws.{InRange}
use Rattle.theorems.specs.Evaluation.{Ranges}
use Rattle.fixpoint.proofs.Pull.{every_append}
use Rattle.theorems.proofs.Listing.{every_at, every_unmapped, every_mapped, every_with, every_keep, at_map_some}
use Rattle.theorems.proofs.Ranges.{ranges_snoc, values_low, arguments_low}

module _ {I : Type 0} (P : I → Type 0) where
  pub vars_forms : (l : List (Form I)) → Every (λ p. Every P (vars p)) l → Every P (vars_all (forms l))
  vars_forms [] h = tt
  vars_forms (p ∷ l) h = every_append P (vars p) (vars_all (forms l)) h.0 (vars_forms l h.1)

pub every_from : {B : Type 0} (P : B → Type 0) (g : ℕ → B) (k n : ℕ) → ((v : ℕ) → v < k + n → P (g v)) → Every P (map g (from k n))
every_from P g k zero h = tt
every_from P g k (suc n) h = (h k (omega arith), every_from P g (suc k) n (λ v l. h v (omega arith)))

module _ (P : Instance → Type 0) where
  over_vars : (q : Quantifier) (l : List (Form Instance)) → Every (λ p. Every P (vars p)) l → Every P (vars (over q l))
  over_vars exists l h = vars_forms P l h
  over_vars forall l h = vars_forms P l h

  all_of_vars : (l : List (Form Instance)) → Every (λ p. Every P (vars p)) l → Every P (vars (all_of l))
  all_of_vars [] h = tt
  all_of_vars (p ∷ l) h = vars_forms P (p ∷ l) h

-- what holds inside, in range, holds of the whole
module _ (a : Alg) (Q : Form Instance → Type 0)
    (q_over : (q : Quantified) (z : ℕ) (g : ℕ → Form Instance) → a.size q.sort ≡ Some z → ((v : ℕ) → v < z → Q (g v)) → Q (over q.quantifier (map g (up_to z)))) where
  pub spread_by : (qs : List Quantified) (vs ss ws : List ℕ) (p : List ℕ → Form Instance) → ss ++ map (λ (q : Quantified). q.sort) qs ≡ ws →
      Every (λ (q : Quantified). SortFits a q.sort) qs → Ranges a ss vs → ((us : List ℕ) → Ranges a ws us → Q (p us)) → Q (spread a qs vs p)
  spread_by [] vs ss ws p e n r h = h vs (subst (λ z. Ranges a z vs) (sym (append-nil ss) ∙ e) r)
  spread_by (q ∷ qs) vs ss ws p e n r h =
      subst (λ (o : Option ℕ). Q (over q.quantifier (map (λ v. spread a qs (vs ++ (v ∷ [])) p) (up_to (or_else o 0))))) (sym n.0.1.1)
      (q_over q n.0.1.0 (λ v. spread a qs (vs ++ (v ∷ [])) p) n.0.1.1
      (λ v l. spread_by qs (vs ++ (v ∷ [])) (ss ++ (q.sort ∷ [])) ws p (append_assoc ss (q.sort ∷ []) (map (λ (k : Quantified). k.sort) qs) ∙ e) n.1
      (ranges_snoc a ss vs q.sort v n.0.1.0 r n.0.1.1 l) h))

module _ (a : Alg) (P : Instance → Type 0) where
  pub spread_vars : (qs : List Quantified) (p : List ℕ → Form Instance) → Every (λ (q : Quantified). SortFits a q.sort) qs →
      ((us : List ℕ) → Ranges a (map (λ (q : Quantified). q.sort) qs) us → Every P (vars (p us))) → Every P (vars (spread a qs [] p))
  spread_vars qs p n h =
      spread_by a (λ k. Every P (vars k))
      (λ q z g e k. over_vars P q.quantifier (map g (up_to z)) (every_from (λ f. Every P (vars f)) g 0 z (λ v l. k v (omega arith))))
      qs [] [] (map (λ (q : Quantified). q.sort) qs) p refl n refl h

  pub inside_vars : (e : Equation) (ps vs : List ℕ) → Every (λ (c : Clause). Every (λ o. P (meant a ps vs o)) c.occurrences) e.clauses →
      Every P (vars (inside_form a e ps vs))
  inside_vars e ps vs h = go (holds a ps vs e.h)
    where
      clause : (c : Clause) → Every (λ o. P (meant a ps vs o)) c.occurrences → Every P (vars (clause_form a ps vs c))
      clause c k =
          vars_forms P (map (λ o. var (meant a ps vs o)) c.occurrences)
          (every_mapped (λ f. Every P (vars f)) (λ o. var (meant a ps vs o)) c.occurrences
          (every_with (λ o. P (meant a ps vs o)) (λ o. P (meant a ps vs o) × Unit {0}) c.occurrences k (λ o m. (m, tt))))

      go : (b : Bool) → Every P (vars (elim b [ true ↦ all_of (map (clause_form a ps vs) (keep (λ (c : Clause). holds a ps vs c.guard) e.clauses)) | false ↦ known false ]))
      go true =
          all_of_vars P (map (clause_form a ps vs) (keep (λ (c : Clause). holds a ps vs c.guard) e.clauses))
          (every_mapped (λ f. Every P (vars f)) (clause_form a ps vs) (keep (λ (c : Clause). holds a ps vs c.guard) e.clauses)
          (every_keep (λ c. Every P (vars (clause_form a ps vs c))) (λ (c : Clause). holds a ps vs c.guard) e.clauses
          (every_with (λ (c : Clause). Every (λ o. P (meant a ps vs o)) c.occurrences) (λ c. Every P (vars (clause_form a ps vs c))) e.clauses h clause)))
      go false = tt

module _ (a : Alg) (law : Lawful a) (s : System) (fits : SystemFits a s) where
  pub start_fits : InRange a s (s.start, s.values)
  start_fits =
      let (e, there, is) = at_map_some header_of s.equations s.start fits.header fits.there in
      record { equation = e; there = there; fine = subst (λ (h : Header). Ranges a h.sorts s.values) (sym is) (values_low a fits.header.sorts s.values fits.values) }

  pub header_at : (i : ℕ) (e : Equation) → at s.equations i ≡ Some e → HeaderFits a (header_of e)
  header_at i e h = every_at (λ (e' : Equation). HeaderFits a (header_of e')) s.equations i e h (every_unmapped (HeaderFits a) header_of s.equations fits.headers)

  pub body_at : (i : ℕ) (e : Equation) → at s.equations i ≡ Some e → BodyFits a (map header_of s.equations) e
  body_at i e h = every_at (BodyFits a (map header_of s.equations)) s.equations i e h fits.bodies

  module _ (e : Equation) (ps vs : List ℕ) (pr : Ranges a e.sorts ps) (vr : Ranges a (map (λ (q : Quantified). q.sort) e.quantified) vs) where
    occurrence_fits : (o : Occurrence) → OccurrenceFits a (map header_of s.equations) (scope (header_of e)) o → InRange a s (meant a ps vs o)
    occurrence_fits o h =
        let (t, there, is) = at_map_some header_of s.equations o.target h.header h.there in
        record {
          equation = t;
          there = there;
          fine = subst (λ (k : Header). Ranges a k.sorts (meant a ps vs o).1) (sym is)
              (arguments_low a law (scope (header_of e)) ps vs pr vr h.header.sorts o.arguments h.fit);
        }

  pub tokens_fit : (x : Instance) → InRange a s x → Every (InRange a s) (vars (form a s x))
  tokens_fit x h =
      subst (λ o. Every (InRange a s) (vars (equation_form a o x.1))) (sym h.there)
      (spread_vars a (InRange a s) e.quantified (inside_form a e x.1) (header_at x.0 e h.there).quantified
      (λ vs r. inside_vars a (InRange a s) e x.1 vs
      (every_with (ClauseFits a (map header_of s.equations) (scope (header_of e))) (λ (c : Clause). Every (λ o. InRange a s (meant a x.1 vs o)) c.occurrences) e.clauses
      (body_at x.0 e h.there).fit
      (λ c k. every_with (OccurrenceFits a (map header_of s.equations) (scope (header_of e))) (λ o. InRange a s (meant a x.1 vs o)) c.occurrences k.fit
      (occurrence_fits e x.1 vs h.fine r)))))
    where
      e : Equation
      e = h.equation
