-- The pass F keeps what bodies say and the truth of every instance, so the verdict.
use Rattle.std.proofs.Common.{◌≡◌, ℕ, zero, suc, ◌<◌, ◌≤◌, Bool, true, false, not as flip, ◌&&◌, eqb, ◌⊎◌, List, [], ◌∷◌, ◌++◌, map, Some, None, Option, sym, refl, ap, ◌∙◌, ap₂, inl, inr, true≢false, arith}
use mathlib.Core.Path.{fun_ext}
use mathlib.Core.Bool.{false≢true}
use Rattle.std.proofs.lemmas.Bool.{cases_lt, eqb-true}
use Rattle.definitions.specs.Lists.{at, map_from, each, some, keep, from, up_to}
use Rattle.definitions.specs.Alg.{Alg, Lawful, within}
use Rattle.definitions.specs.Systems.{Kind, Term, Terms, node, none, more, folds, Quantifier, exists, forall, Quantified, Clause, Equation, System}
use Rattle.definitions.specs.Values.{known, kind_known, is_false, is_true, holds, value_of}
use Rattle.definitions.specs.Terms.{truth_term, on_occurrence, on_clause}
use Rattle.definitions.specs.Fits.{Every, header_of, SortFits, HeaderFits, SystemFits}
use Rattle.definitions.specs.Truth.{Instance, size_of, ranging, under, meant, clause_holds, inside_holds, equation_holds, body, block_of, verdict}
use Rattle.definitions.specs.Passes.{folded_as, folded, foldeds, folded_equation, pass_f}
use Rattle.fixpoint.specs.Laws.{Agree, Matched}
use Rattle.theorems.specs.PassLaws.{FKeepsBodies, FKeepsTruths}
use Rattle.theorems.proofs.Knows.{Under, same, unknown}
use Rattle.fixpoint.proofs.Rounds.{pick}
use Rattle.theorems.proofs.Listing.{every_map, every_of, each_map, some_map, none_some, every_at, every_unmapped}
use Rattle.theorems.proofs.Monotone.{equals, each_is, some_is, under_is, clause_is, inside_is}
use Rattle.theorems.proofs.Agrees.{plain_under, under_some}
use Rattle.theorems.proofs.Cut.{same_values}
use Rattle.theorems.proofs.Blocks.{truths_agree}

module _ (a : Alg) (ps vs : List ℕ) where
  as_known : (o : Option ℕ) (k : Kind) (ts : Terms) → Under (value_of a ps vs (node k ts)) o →
      folds (foldeds ts a) (kind_known a (map Some ps) (map Some vs)) ≡ folds ts (kind_known a (map Some ps) (map Some vs)) →
      value_of a ps vs (folded_as a k o (foldeds ts a)) ≡ value_of a ps vs (node k ts)
  as_known None k ts u h = ap (kind_known a (map Some ps) (map Some vs) k) h
  as_known (Some v) k ts u h = sym (under_some u v refl)

  mutual
    -- a folded term keeps its value
    pub folded_value : (t : Term) → value_of a ps vs (folded t a) ≡ value_of a ps vs t
    folded_value (node k ts) = as_known (known a [] (node k ts)) k ts (plain_under a ps vs (node k ts)) (foldeds_value ts)

    foldeds_value : (ts : Terms) → folds (foldeds ts a) (kind_known a (map Some ps) (map Some vs)) ≡ folds ts (kind_known a (map Some ps) (map Some vs))
    foldeds_value none = refl
    foldeds_value (more t ts) = ap₂ (λ x xs. x ∷ xs) (folded_value t) (foldeds_value ts)

-- dropping what holds anyway
pub each_keep : {A : Type 0} (p q : A → Bool) (xs : List A) → Every (λ x. q x ≡ false → p x ≡ true) xs → each p (keep q xs) ≡ each p xs
each_keep p q [] h = refl
each_keep {A} p q (x ∷ xs) h = go (q x) h.0 (each_keep p q xs h.1)
  where
    go : (b : Bool) → (b ≡ false → p x ≡ true) → each p (keep q xs) ≡ each p xs →
        each p (elim b as (λ _. List A) [ true ↦ x ∷ keep q xs | false ↦ keep q xs ]) ≡ each p (x ∷ xs)
    go true k ih = ap (λ z. pick (p x) z false) ih
    go false k ih = ih ∙ sym (ap (λ z. pick z (each p xs) false) (k refl))

-- quantifiers over sorts with values change nothing where the body is one truth
each_false : (n : ℕ) → 0 < n → (p : ℕ → Bool) → ((v : ℕ) → p v ≡ false) → each p (from 0 n) ≡ false
each_false zero l p h = absurd (omega arith)
each_false (suc n) l p h = ap (λ z. pick z (each p (from 1 n)) false) (h 0)

some_false : (vs : List ℕ) (p : ℕ → Bool) → ((v : ℕ) → p v ≡ false) → some p vs ≡ false
some_false [] p h = refl
some_false (v ∷ vs) p h = ap (λ z. pick z true (some p vs)) (h v) ∙ some_false vs p h

ranging_false : (q : Quantifier) (n : ℕ) → 0 < n → (p : ℕ → Bool) → ((v : ℕ) → p v ≡ false) → ranging q p (up_to n) ≡ false
ranging_false exists n l p h = some_false (up_to n) p h
ranging_false forall n l p h = each_false n l p h

pub under_false : (a : Alg) (qs : List Quantified) → Every (λ (q : Quantified). 0 < size_of a q.sort) qs → (vs : List ℕ) (p : List ℕ → Bool) →
    ((ws : List ℕ) → p ws ≡ false) → under a qs vs p ≡ false
under_false a [] h vs p k = k vs
under_false a (q ∷ qs) h vs p k =
    ranging_false q.quantifier (size_of a q.sort) h.0 (λ v. under a qs (vs ++ (v ∷ [])) p) (λ v. under_false a qs h.1 (vs ++ (v ∷ [])) p k)

-- a sort that is there has a value
pub sort_some : (a : Alg) → Lawful a → (s : ℕ) → SortFits a s → 0 < size_of a s
sort_some a law s f = go (cases_lt s a.sorts)
  where
    go : (s < a.sorts) ⊎ (a.sorts ≤ s) → 0 < size_of a s
    go (inl l) = let (n, en, low, high) = law.sort s l in rw en low
    go (inr l) = absurd (none_some f.1.0 (sym (law.no_sort s l) ∙ f.1.1))

false_holds : (o : Option ℕ) → is_false o ≡ true → is_true o ≡ false
false_holds None e = refl
false_holds (Some v) e = rw (eqb-true v 0 e) refl

false_under : {x y : Option ℕ} → Under x y → is_false y ≡ true → is_true x ≡ false
false_under {x} same e = false_holds x e
false_under unknown e = absurd (false≢true e)

-- what is known false does not hold
pub plain_false : (a : Alg) (ps vs : List ℕ) (t : Term) → is_false (known a [] t) ≡ true → holds a ps vs t ≡ false
plain_false a ps vs t e = false_under (plain_under a ps vs t) e

module _ (a : Alg) (f : Instance → Bool) (ps vs : List ℕ) where
  abbrev fold_clause : Clause → Clause
  fold_clause = on_clause (λ j ts. ts) (λ t. folded t a)

  clause_kept : (c : Clause) → clause_holds a f ps vs (fold_clause c) ≡ clause_holds a f ps vs c
  clause_kept c =
      clause_is equals a f f ps ps vs (fold_clause c) c (ap is_true (folded_value a ps vs c.guard)) (λ _.
      some_map (λ o. f (meant a ps vs o)) (on_occurrence (λ j ts. ts) (λ t. folded t a)) c.occurrences ∙
      some_is equals (λ o. f (meant a ps vs (on_occurrence (λ j ts. ts) (λ t. folded t a) o))) (λ o. f (meant a ps vs o)) c.occurrences
      (every_of c.occurrences (λ o. ap (λ (z : List ℕ). f (o.target, z)) (same_values a ps vs (λ t. folded t a) o.arguments (folded_value a ps vs)))))

  dropped : (c : Clause) → flip (is_false (known a [] c.guard)) ≡ false → clause_holds a f ps vs c ≡ true
  dropped c e = ap (λ z. pick z (some (λ o. f (meant a ps vs o)) c.occurrences) true) (plain_false a ps vs c.guard (flipped (is_false (known a [] c.guard)) e))
    where
      flipped : (b : Bool) → flip b ≡ false → b ≡ true
      flipped true e = refl
      flipped false e = absurd (true≢false e)

  clauses_kept : (cs : List Clause) →
      each (clause_holds a f ps vs) (map fold_clause (keep (λ (c : Clause). flip (is_false (known a [] c.guard))) cs)) ≡ each (clause_holds a f ps vs) cs
  clauses_kept cs =
      each_map (clause_holds a f ps vs) fold_clause (keep (λ (c : Clause). flip (is_false (known a [] c.guard))) cs) ∙
      each_is equals (λ c. clause_holds a f ps vs (fold_clause c)) (clause_holds a f ps vs) (keep (λ (c : Clause). flip (is_false (known a [] c.guard))) cs)
      (every_of (keep (λ (c : Clause). flip (is_false (known a [] c.guard))) cs) clause_kept) ∙
      each_keep (clause_holds a f ps vs) (λ (c : Clause). flip (is_false (known a [] c.guard))) cs (every_of cs dropped)

abbrev pub shut : Equation → Equation
shut e = record { sign = e.sign; sorts = e.sorts; quantified = []; h = truth_term 0; clauses = [] }

abbrev pub opened : Alg → Equation → Equation
opened a e =
    record {
      sign = e.sign;
      sorts = e.sorts;
      quantified = e.quantified;
      h = folded e.h a;
      clauses = map (on_clause (λ j ts. ts) (λ t. folded t a)) (keep (λ (c : Clause). flip (is_false (known a [] c.guard))) e.clauses);
    }

equation_kept : (a : Alg) → Lawful a → (f : Instance → Bool) (e : Equation) → HeaderFits a (header_of e) → (ps : List ℕ) →
    equation_holds a f (Some (folded_equation a e)) ps ≡ equation_holds a f (Some e) ps
equation_kept a law f e h ps = go (is_false (known a [] e.h)) refl
  where
    go : (b : Bool) → is_false (known a [] e.h) ≡ b → equation_holds a f (Some (elim b as (λ _. Equation) [ true ↦ shut e | false ↦ opened a e ])) ps ≡ equation_holds a f (Some e) ps
    go true p =
        sym (under_false a e.quantified (every_map e.quantified (λ q k. sort_some a law q.sort k) h.quantified) [] (inside_holds a f e ps)
        (λ vs. ap (λ z. pick z (each (clause_holds a f ps vs) e.clauses) false) (plain_false a ps vs e.h p)))
    go false p =
        under_is equals a e.quantified [] (inside_holds a f (opened a e) ps) (inside_holds a f e ps) (λ vs _.
        inside_is equals a f f ps ps vs (opened a e) e (ap is_true (folded_value a ps vs e.h)) (λ _. clauses_kept a f ps vs e.clauses))

folded_same : {X : Type 0} (a : Alg) (e : Equation) (get : Equation → X) → get (shut e) ≡ get e → get (opened a e) ≡ get e → get (folded_equation a e) ≡ get e
folded_same a e get p q = go (is_false (known a [] e.h))
  where
    go : (b : Bool) → get (elim b as (λ _. Equation) [ true ↦ shut e | false ↦ opened a e ]) ≡ get e
    go true = p
    go false = q

at_all : (a : Alg) (es : List Equation) (n : ℕ) (f : Instance → Bool) (ps : List ℕ) → ((e : Equation) → at es n ≡ Some e → equation_holds a f (Some (folded_equation a e)) ps ≡ equation_holds a f (Some e) ps) →
    equation_holds a f (at es n) ps ≡ equation_holds a f (at (map (folded_equation a) es) n) ps
at_all a [] n f ps h = refl
at_all a (e ∷ es) zero f ps h = sym (h e refl)
at_all a (e ∷ es) (suc n) f ps h = at_all a es n f ps h

blocks_same : (a : Alg) (k : ℕ) (es : List Equation) → Matched (λ (x y : Instance). x ≡ y) (map_from k (block_of a) es) (map_from k (block_of a) (map (folded_equation a) es))
blocks_same a k [] = Matched.done
blocks_same a k (e ∷ es) =
    Matched.both (sym (folded_same a e (λ (z : Equation). z.sign) refl refl))
    (λ x y p. ap (λ z. (block_of a k e).inside z) p ∙
    sym (ap (λ z. eqb y.0 k && within (map (size_of a) z) y.1) (folded_same a e (λ (z : Equation). z.sorts) refl refl)))
    (blocks_same a (suc k) es)

pub bodies_kept : FKeepsBodies
bodies_kept a law s fit f x =
    sym (at_all a s.equations x.0 f x.1 (λ e p. equation_kept a law f e
    (every_at (λ e. HeaderFits a (header_of e)) s.equations x.0 e p (every_unmapped (HeaderFits a) header_of s.equations fit.headers)) x.1))

pub truth_kept : FKeepsTruths
truth_kept a law s fit x =
    sym (truths_agree a s (pass_f a s) (λ x y. x ≡ y) (blocks_same a 0 s.equations) bodies x x refl)
  where
    bodies : (f g : Instance → Bool) → Agree (λ p q. p ≡ q) (λ (x y : Instance). x ≡ y) f g → Agree (λ p q. p ≡ q) (λ (x y : Instance). x ≡ y) (body a s f) (body a (pass_f a s) g)
    bodies f g h x y r = ap (λ z. body a s z x) (fun_ext (λ z. h z z refl)) ∙ ap (body a s g) r ∙ sym (bodies_kept a law s fit g y)

pub keeps : (a : Alg) → Lawful a → (s : System) → SystemFits a s → verdict a (pass_f a s) ≡ verdict a s
keeps a law s fit = truth_kept a law s fit (s.start, s.values)
