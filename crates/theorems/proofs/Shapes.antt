-- What expanding makes fits a Boolean file.
use Rattle.std.proofs.Common.{◌≡◌, ℕ, suc, ◌+◌, ◌-◌, ◌<◌, ◌≤◌, Bool, true, false, List, [], ◌∷◌, ◌++◌, map, length, Some, Option, sym, refl, ap, ◌∙◌, subst, arith}
use lib.ListN.{length-map}
use Rattle.definitions.specs.Lists.{at, keep, up_to, or_else}
use Rattle.definitions.specs.Alg.{Alg, Lawful}
use Rattle.definitions.specs.Systems.{Quantifier, exists, forall, Quantified, Clause, Equation, System}
use Rattle.definitions.specs.ReadSystem.{scope}
use Rattle.definitions.specs.Values.{holds}
use Rattle.definitions.specs.Truth.{Instance, meant}
use Rattle.definitions.specs.Boolean.{Form, known, all, any, var, Forms, nil, cons, forms, count, vars, vars_all, renamed, renamed_all, over, spread, all_of, clause_form, inside_form, equation_form, form, number_in, Variable, sign_at, variable_of}
use Rattle.definitions.specs.Fits.{Every, SortFits, header_of, ClauseFits, SystemFits}
use Rattle.definitions.specs.FileFits.{FormFits, fit_known, fit_all, fit_any, fit_var, FormsFit, fit_nil, fit_cons, BooleanFits}
use Rattle.theorems.proofs.Listing.{every_at, every_mapped, every_with, every_of, every_keep, every_left, every_right, at_lt, from_long, keep_short}
use Rattle.theorems.proofs.Ranges.{size_range}
use Rattle.theorems.specs.PassLaws.{InRange}
use Rattle.theorems.proofs.Tokens.{header_at, body_at}
use Rattle.theorems.proofs.Numbers.{Has, Numbering, number_at, every_has}

-- depth at most d, one to 256 parts in each all and any
mutual
  pub data Shape {I : Type 0} : ℕ → Form I → Type 0 where
    shape_known : {d : ℕ} {b : Bool} → Shape (suc d) (known b)
    shape_all : {d : ℕ} {ps : Forms I} → 1 ≤ count ps → count ps ≤ 256 → Shapes d ps → Shape (suc d) (all ps)
    shape_any : {d : ℕ} {ps : Forms I} → 1 ≤ count ps → count ps ≤ 256 → Shapes d ps → Shape (suc d) (any ps)
    shape_var : {d : ℕ} {i : I} → Shape (suc d) (var i)

  pub data Shapes {I : Type 0} : ℕ → Forms I → Type 0 where
    shapes_nil : {d : ℕ} → Shapes d nil
    shapes_cons : {d : ℕ} {p : Form I} {ps : Forms I} → Shape d p → Shapes d ps → Shapes d (cons p ps)

pub renamed_count : {I J : Type 0} (ps : Forms I) (g : I → J) → count (renamed_all ps g) ≡ count ps
renamed_count nil g = refl
renamed_count (cons p ps) g = ap suc (renamed_count ps g)

module _ {I : Type 0} (n : ℕ) (g : I → ℕ) where
  mutual
    pub shape_fits : {d : ℕ} {p : Form I} → Shape d p → Every (λ i. g i < n) (vars p) → FormFits n d (renamed p g)
    shape_fits shape_known h = fit_known
    shape_fits (shape_all {ps = ps} l u s) h = fit_all (rw (renamed_count ps g) l) (rw (renamed_count ps g) u) (shapes_fit s h)
    shape_fits (shape_any {ps = ps} l u s) h = fit_any (rw (renamed_count ps g) l) (rw (renamed_count ps g) u) (shapes_fit s h)
    shape_fits shape_var h = fit_var h.0

    shapes_fit : {d : ℕ} {ps : Forms I} → Shapes d ps → Every (λ i. g i < n) (vars_all ps) → FormsFit n d (renamed_all ps g)
    shapes_fit shapes_nil h = fit_nil
    shapes_fit (shapes_cons {p = p} {ps} s ss) h =
        fit_cons (shape_fits s (every_left (λ i. g i < n) (vars p) (vars_all ps) h)) (shapes_fit ss (every_right (λ i. g i < n) (vars p) (vars_all ps) h))

pub forms_count : {I : Type 0} (l : List (Form I)) → count (forms l) ≡ length l
forms_count [] = refl
forms_count (p ∷ l) = ap suc (forms_count l)

forms_shapes : {I : Type 0} (d : ℕ) (l : List (Form I)) → Every (Shape d) l → Shapes d (forms l)
forms_shapes d [] h = shapes_nil
forms_shapes d (p ∷ l) h = shapes_cons h.0 (forms_shapes d l h.1)

over_shape : (d : ℕ) (q : Quantifier) (l : List (Form Instance)) → 1 ≤ length l → length l ≤ 256 → Every (Shape d) l → Shape (suc d) (over q l)
over_shape d exists l low up h = shape_any (rw (forms_count l) low) (rw (forms_count l) up) (forms_shapes d l h)
over_shape d forall l low up h = shape_all (rw (forms_count l) low) (rw (forms_count l) up) (forms_shapes d l h)

module _ (a : Alg) (law : Lawful a) where
  spread_shape : (qs : List Quantified) (d m : ℕ) (vs : List ℕ) (p : List ℕ → Form Instance) → length qs + d ≡ m → Every (λ (q : Quantified). SortFits a q.sort) qs →
      ((us : List ℕ) → Shape d (p us)) → Shape m (spread a qs vs p)
  spread_shape [] d m vs p e n h = subst (λ k. Shape k (p vs)) (let w : d ≡ m = omega arith in w) (h vs)
  spread_shape (q ∷ qs) d m vs p e n h =
      subst (λ k. Shape k (spread a (q ∷ qs) vs p)) (let w : suc (length qs + d) ≡ m = omega arith in w)
      (subst (λ (o : Option ℕ). Shape (suc (length qs + d)) (over q.quantifier (map (λ v. spread a qs (vs ++ (v ∷ [])) p) (up_to (or_else o 0))))) (sym n.0.1.1)
      (over_shape (length qs + d) q.quantifier (map (λ v. spread a qs (vs ++ (v ∷ [])) p) (up_to z)) (rw (long) (size_range a law q.sort z n.0.1.1).0) (rw long (size_range a law q.sort z n.0.1.1).1)
      (every_mapped (Shape (length qs + d)) (λ v. spread a qs (vs ++ (v ∷ [])) p) (up_to z)
      (every_of (up_to z) (λ v. spread_shape qs d (length qs + d) (vs ++ (v ∷ [])) p refl n.1 h)))))
    where
      z : ℕ
      z = n.0.1.0

      long : length (map (λ v. spread a qs (vs ++ (v ∷ [])) p) (up_to z)) ≡ z
      long = length-map (up_to z) (λ v. spread a qs (vs ++ (v ∷ [])) p) ∙ from_long 0 z

  module _ (ps vs : List ℕ) where
    clause_shape : (d : ℕ) (c : Clause) → 1 ≤ length c.occurrences → length c.occurrences ≤ 8 → Shape (suc (suc d)) (clause_form a ps vs c)
    clause_shape d c low up =
        shape_any (rw (forms_count, length-map) low) (rw (forms_count, length-map) (omega arith))
        (forms_shapes (suc d) (map (λ o. var (meant a ps vs o)) c.occurrences)
        (every_mapped (Shape (suc d)) (λ o. var (meant a ps vs o)) c.occurrences (every_of c.occurrences (λ o. shape_var))))

    all_of_shape : (d : ℕ) (l : List (Form Instance)) → length l ≤ 256 → Every (Shape d) l → Shape (suc d) (all_of l)
    all_of_shape d [] up h = shape_known
    all_of_shape d (p ∷ l) up h = shape_all (rw forms_count (omega arith)) (rw forms_count up) (forms_shapes d (p ∷ l) h)

    inside_shape : (d : ℕ) (e : Equation) → length e.clauses < 16 → Every (λ (c : Clause). (1 ≤ length c.occurrences) × (length c.occurrences ≤ 8)) e.clauses →
        Shape (suc (suc (suc d))) (inside_form a e ps vs)
    inside_shape d e up h = go (holds a ps vs e.h)
      where
        go : (b : Bool) → Shape {I = Instance} (suc (suc (suc d))) (elim b [ true ↦ all_of (map (clause_form a ps vs) (keep (λ (c : Clause). holds a ps vs c.guard) e.clauses)) | false ↦ known false ])
        go true =
            all_of_shape (suc (suc d)) (map (clause_form a ps vs) (keep (λ (c : Clause). holds a ps vs c.guard) e.clauses))
            (rw length-map (let k : length (keep (λ (c : Clause). holds a ps vs c.guard) e.clauses) ≤ length e.clauses = keep_short (λ (c : Clause). holds a ps vs c.guard) e.clauses in omega arith))
            (every_mapped (Shape (suc (suc d))) (clause_form a ps vs) (keep (λ (c : Clause). holds a ps vs c.guard) e.clauses)
            (every_keep (λ c. Shape (suc (suc d)) (clause_form a ps vs c)) (λ (c : Clause). holds a ps vs c.guard) e.clauses
            (every_with (λ (c : Clause). (1 ≤ length c.occurrences) × (length c.occurrences ≤ 8)) (λ c. Shape (suc (suc d)) (clause_form a ps vs c)) e.clauses h
            (λ c k. clause_shape d c k.0 k.1))))
        go false = shape_known

  module _ (s : System) (fits : SystemFits a s) where
    pub form_shape : (x : Instance) → InRange a s x → Shape 8 (form a s x)
    form_shape x h =
        subst (λ o. Shape 8 (equation_form a o x.1)) (sym h.there)
        (spread_shape h.equation.quantified (suc (suc (suc (5 - length h.equation.quantified)))) 8 [] (inside_form a h.equation x.1)
        (let q : length h.equation.quantified < 4 = (header_at a law s fits x.0 h.equation h.there).few_quantified in omega arith)
        (header_at a law s fits x.0 h.equation h.there).quantified
        (λ vs. inside_shape x.1 vs (5 - length h.equation.quantified) h.equation (body_at a law s fits x.0 h.equation h.there).few
        (every_with (ClauseFits a (map header_of s.equations) (scope (header_of h.equation))) (λ (c : Clause). (1 ≤ length c.occurrences) × (length c.occurrences ≤ 8))
        h.equation.clauses (body_at a law s fits x.0 h.equation h.there).fit (λ c k. (k.some, k.few)))))

    module _ (r : List Instance) (n : Numbering a s r) (fit : Every (InRange a s) r) where
      body_fits : (x : Instance) (j : ℕ) → at r j ≡ Some x → FormFits (length (map (variable_of a s r) r)) 8 (renamed (form a s x) (number_in r))
      body_fits x j e =
          subst (λ m. FormFits m 8 (renamed (form a s x) (number_in r))) (sym (length-map r (variable_of a s r)))
          (shape_fits (length r) (number_in r) (form_shape x (every_at (InRange a s) r j x e fit))
          (every_with (Has r) (λ i. number_in r i < length r) (vars (form a s x)) (n.closed j x e) (λ y m. at_lt r (number_in r y) y (number_at r y m))))

      pub variables_fit : length r ≤ 4096 → BooleanFits (map (variable_of a s r) r)
      variables_fit up =
          record {
            some = rw length-map (let w : 0 < length r = at_lt r 0 (s.start, s.values) n.first in omega arith);
            few = rw length-map up;
            ranks = every_mapped (λ (v : Variable). v.rank < 32) (variable_of a s r) r
                (every_with (InRange a s) (λ x. x.0 < 32) r fit
                (λ x h. let w : x.0 < length s.equations = at_lt s.equations x.0 h.equation h.there in let u : length s.equations < 32 = fits.few in omega arith));
            sign_by = λ q. sign_at (at s.equations q);
            signs = every_mapped (λ (v : Variable). v.sign ≡ sign_at (at s.equations v.rank)) (variable_of a s r) r
                (every_of r (λ x. refl));
            bodies = every_mapped (λ (v : Variable). FormFits (length (map (variable_of a s r) r)) 8 v.body) (variable_of a s r) r
                (every_has (λ x. FormFits (length (map (variable_of a s r) r)) 8 (renamed (form a s x) (number_in r))) r (λ j x e. body_fits x j e));
          }
