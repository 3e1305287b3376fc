-- Removing parameters that nothing kept depends on keeps the truth of every instance, so the verdict.
use Rattle.std.proofs.Common.{◌≡◌, ℕ, ◌+◌, Bool, true, false, List, [], ◌∷◌, map, get_or, Some, sym, refl, ap, ◌∙◌, subst, ap₂, subst₂, zero-add}
use Rattle.definitions.specs.Lists.{at, map_from, strike, place, or_else}
use Rattle.definitions.specs.Alg.{Alg, Lawful, within}
use Rattle.definitions.specs.Systems.{parameter, Term, Quantified, Occurrence, Clause, Equation, System}
use Rattle.definitions.specs.ReadSystem.{Header, scope}
use Rattle.definitions.specs.Values.{is_true, value_of, values_of}
use Rattle.definitions.specs.Terms.{replaced, on_occurrence, on_clause, cut_equation, cut}
use Rattle.definitions.specs.Fits.{Every, header_of, OccurrenceFits, ClauseFits, BodyFits, SystemFits}
use Rattle.definitions.specs.Truth.{Instance, size_of, sizes_of, meant, clause_holds, inside_holds, equation_holds, body, block_of, truths, verdict}
use Rattle.fixpoint.specs.Laws.{Agree, Matched}
use Rattle.theorems.specs.PassLaws.{InRange, left}
use Rattle.theorems.proofs.Listing.{every_map, each_map, some_map, some_same, at_map_from, map_twice, every_at, every_two, at_map_some}
use Rattle.theorems.proofs.Monotone.{equals, each_is, some_is, under_is, clause_is, inside_is}
use Rattle.theorems.proofs.Ranges.{arguments_low, values_low}
use Rattle.theorems.proofs.Cut.{OnKinds, OnParameters, strike_map, strike_within, renumber_value}
use Rattle.theorems.proofs.Blocks.{blocks_match, both_inside, truths_agree}

-- a term of equation i that names kept parameters alone
abbrev pub Keeps : List (List Bool) → ℕ → Term → Type 0
Keeps masks i t = OnKinds t (OnParameters (λ n. get_or (get_or masks i []) n false ≡ true))

pub record ClosedClause (masks : List (List Bool)) (i : ℕ) (c : Clause) : Type 0 where
  pub guard : Keeps masks i c.guard
  pub arguments : Every (λ (o : Occurrence). Every (Keeps masks i) (strike (get_or masks o.target []) o.arguments)) c.occurrences

-- h, the guards and the arguments for kept parameters do
pub record Closed (masks : List (List Bool)) (i : ℕ) (e : Equation) : Type 0 where
  pub h : Keeps masks i e.h
  pub clauses : Every (ClosedClause masks i) e.clauses

pub values_by : (a : Alg) (ps ps' vs : List ℕ) (f : Term → Term) (ts : List Term) → Every (λ t. value_of a ps' vs (f t) ≡ value_of a ps vs t) ts →
    values_of a ps' vs (map f ts) ≡ values_of a ps vs ts
values_by a ps ps' vs f [] h = refl
values_by a ps ps' vs f (t ∷ ts) h = ap₂ (λ x xs. or_else x 0 ∷ xs) h.0 (values_by a ps ps' vs f ts h.1)

module _ (a : Alg) (s : System) (masks : List (List Bool)) where
  -- an instance and what is left of it
  pub record Struck (x y : Instance) : Type 0 where
    pub equation : Equation
    pub there : at s.equations x.0 ≡ Some equation
    pub fine : within (sizes_of a equation) x.1 ≡ true
    pub left : y ≡ (x.0, strike (get_or masks x.0 []) x.1)

  module _ (law : Lawful a) (fit : SystemFits a s) (closed : (i : ℕ) (e : Equation) → at s.equations i ≡ Some e → Closed masks i e) where
    module _ (i : ℕ) (e : Equation) (ps : List ℕ) (wp : within (sizes_of a e) ps ≡ true)
        (vs : List ℕ) (w : within (map (λ (x : Quantified). size_of a x.sort) e.quantified) vs ≡ true)
        (f g : Instance → Bool) (agree : Agree (λ x y. x ≡ y) Struck f g) where
      abbrev mask : List Bool
      mask = get_or masks i []

      abbrev renumbered : Term → Term
      renumbered = replaced (λ n. parameter (place mask n))

      abbrev cut_occurrence : Occurrence → Occurrence
      cut_occurrence = on_occurrence (λ j ts. strike (get_or masks j []) ts) renumbered

      abbrev cut_clause : Clause → Clause
      cut_clause = on_clause (λ j ts. strike (get_or masks j []) ts) renumbered

      ranges : within (map (size_of a) (scope (header_of e)).variables) vs ≡ true
      ranges = subst (λ z. within z vs ≡ true) (sym (map_twice (size_of a) (λ (x : Quantified). x.sort) e.quantified)) w

      occurrence_kept : (o : Occurrence) → OccurrenceFits a (map header_of s.equations) (scope (header_of e)) o →
          Every (Keeps masks i) (strike (get_or masks o.target []) o.arguments) → Struck (meant a ps vs o) (meant a (strike mask ps) vs (cut_occurrence o))
      occurrence_kept o b k =
          let (q, eq, eh) = at_map_some header_of s.equations o.target b.header b.there in
          let m = get_or masks o.target [] in
          record {
            equation = q;
            there = eq;
            fine = subst (λ (z : Header). within (map (size_of a) z.sorts) (values_of a ps vs o.arguments) ≡ true) (sym eh)
                (arguments_low a law (scope (header_of e)) ps vs wp ranges b.header.sorts o.arguments b.fit);
            left = ap (λ (z : List ℕ). (o.target, z))
                (values_by a ps (strike mask ps) vs renumbered (strike m o.arguments) (every_map (strike m o.arguments) (renumber_value a mask ps vs) k) ∙
                strike_map (λ t. or_else (value_of a ps vs t) 0) m o.arguments);
          }

      clause_kept : (c : Clause) → ClauseFits a (map header_of s.equations) (scope (header_of e)) c → ClosedClause masks i c →
          clause_holds a f ps vs c ≡ clause_holds a g (strike mask ps) vs (cut_clause c)
      clause_kept c b k =
          clause_is equals a f g ps (strike mask ps) vs c (cut_clause c) (ap is_true (sym (renumber_value a mask ps vs c.guard k.guard))) (λ _.
          some_is equals (λ o. f (meant a ps vs o)) (λ o. g (meant a (strike mask ps) vs (cut_occurrence o))) c.occurrences
          (every_two c.occurrences (λ o d n. agree (meant a ps vs o) (meant a (strike mask ps) vs (cut_occurrence o)) (occurrence_kept o d n)) b.fit k.arguments) ∙
          sym (some_map (λ o. g (meant a (strike mask ps) vs o)) cut_occurrence c.occurrences))

      inside_kept : BodyFits a (map header_of s.equations) e → Closed masks i e → inside_holds a f e ps vs ≡ inside_holds a g (cut_equation masks i e) (strike mask ps) vs
      inside_kept b k =
          inside_is equals a f g ps (strike mask ps) vs e (cut_equation masks i e) (ap is_true (sym (renumber_value a mask ps vs e.h k.h))) (λ _.
          each_is equals (clause_holds a f ps vs) (λ c. clause_holds a g (strike mask ps) vs (cut_clause c)) e.clauses
          (every_two e.clauses clause_kept b.fit k.clauses) ∙
          sym (each_map (clause_holds a g (strike mask ps) vs) cut_clause e.clauses))

    written_at : (i : ℕ) (e : Equation) → at s.equations i ≡ Some e → at (cut masks s).equations i ≡ Some (cut_equation masks i e)
    written_at i e p = at_map_from 0 (cut_equation masks) s.equations i e p ∙ ap (λ z. Some (cut_equation masks z e)) (zero-add i)

    bodies_kept : (f g : Instance → Bool) → Agree (λ p q. p ≡ q) Struck f g → Agree (λ p q. p ≡ q) Struck (body a s f) (body a (cut masks s) g)
    bodies_kept f g h x y r =
        ap (λ z. equation_holds a f z x.1) r.there ∙
        under_is equals a r.equation.quantified [] (inside_holds a f r.equation x.1)
        (inside_holds a g (cut_equation masks x.0 r.equation) (strike (get_or masks x.0 []) x.1))
        (λ vs w. inside_kept x.0 r.equation x.1 r.fine vs w f g h
        (every_at (BodyFits a (map header_of s.equations)) s.equations x.0 r.equation r.there fit.bodies) (closed x.0 r.equation r.there)) ∙
        sym (ap (λ (z : Instance). body a (cut masks s) g z) r.left ∙
        ap (λ z. equation_holds a g z (strike (get_or masks x.0 []) x.1)) (written_at x.0 r.equation r.there))

    matched : Matched Struck (map_from 0 (block_of a) s.equations) (map_from 0 (block_of a) (cut masks s).equations)
    matched =
        blocks_match a Struck (cut_equation masks) (λ i e. refl) 0 s.equations (λ j e q x y r. insides (0 + j) e (ap (at s.equations) (zero-add j) ∙ q) x y r)
      where
        insides : (n : ℕ) (e : Equation) → at s.equations n ≡ Some e → (x y : Instance) → Struck x y → (block_of a n e).inside x ≡ (block_of a n (cut_equation masks n e)).inside y
        insides n e q x y r =
            both_inside n x y (sizes_of a e) (sizes_of a (cut_equation masks n e)) (sym (ap (λ (z : Instance). z.0) r.left)) fine
            (λ p.
            subst₂ (λ (z w : List ℕ). within z w ≡ true) (sym (strike_map (size_of a) (get_or masks n []) e.sorts))
            (ap (λ z. strike (get_or masks z []) x.1) (sym p) ∙ sym (ap (λ (z : Instance). z.1) r.left))
            (strike_within (get_or masks n []) (sizes_of a e) x.1 (fine p)))
          where
            fine : x.0 ≡ n → within (sizes_of a e) x.1 ≡ true
            fine p =
                subst (λ z. within (sizes_of a z) x.1 ≡ true)
                (some_same r.equation e (sym r.there ∙ ap (at s.equations) p ∙ q)) r.fine

    -- an instance keeps its truth, the removed places dropped
    pub truth_kept : (x : Instance) → InRange a s x → truths a (cut masks s) (left masks x) ≡ truths a s x
    truth_kept x h =
        sym (truths_agree a s (cut masks s) Struck matched bodies_kept x (left masks x) (record { equation = h.equation; there = h.there; fine = h.fine; left = refl }))

    pub keeps : verdict a (cut masks s) ≡ verdict a s
    keeps =
        let (q, eq, eh) = at_map_some header_of s.equations s.start fit.header fit.there in
        truth_kept (s.start, s.values)
        (record {
          equation = q;
          there = eq;
          fine = subst (λ (z : Header). within (map (size_of a) z.sorts) s.values ≡ true) (sym eh) (values_low a fit.header.sorts s.values fit.values);
        })
