-- Bodies, clauses and occurrences that are read are found.
use Rattle.std.proofs.Common.{◌≡◌, ℕ, zero, suc, ◌+◌, ◌-◌, ◌<◌, ◌≤◌, List, [], ◌∷◌, ◌++◌, map, length, get_or, Some, None, Option, sym, refl, ap, ◌∙◌, subst, arith, append_assoc, append-nil}
use Rattle.std.specs.Option.{option_map}
use Rattle.faults.specs.declared.Reason.TheVariants.{NoSuchName}
use Rattle.definitions.specs.Lists.{at, bind}
use Rattle.definitions.specs.Alg.{Alg}
use Rattle.definitions.specs.Systems.{Term, Occurrence, Clause, Equation}
use Rattle.definitions.specs.Reading.{next, Reader, follow, take, given, repeated, one_by_one}
use Rattle.definitions.specs.ReadSystem.{Scope, Sorted, Header, scope, greatest_depth, read_term, read_of, read_target, read_occurrence, read_clause, read_body}
use Rattle.rows.specs.declared.row.Row.{Row}
use Rattle.rows.specs.Listed.{listed}
use Rattle.terms.specs.Shapes.{field_at, shape, what, behind, standing}
use Rattle.terms.proofs.Laws.{followed, term_stands, field_is}
use Rattle.system.proofs.ByPlace.{repeated_length}
use Rattle.system.specs.declared.places.BodyAt.{BodyAt}
use Rattle.system.specs.declared.places.ClauseAt.{ClauseAt}
use Rattle.system.specs.declared.places.OccurrenceAt.{OccurrenceAt}
use Rattle.system.specs.Walks.{term_end, counted, term_places, target_place, occurrence_places, occurrences_end, clause_end, BodyPlaces, ClausePlaces, OccurrencePlaces, BodyFound, ClauseFound, OccurrenceFound, EndFound, in_row, ended, occurrence_next, clause_next, occurrence_told, clause_told, Found, Pairs, OccurrenceOf, ClauseOf, occurrences_of, RowPlaces, RowFound, OccurrencesPlaces, OccurrencesFound, ClausesPlaces, ClausesFound}

abbrev stood : {A : Type 0} → A → ℕ → Option (A × ℕ)
stood x q = Some (x, q)

abbrev tuple : ℕ → List ℕ → ℕ → Option (ℕ × (List ℕ × ℕ))
tuple i ps q = Some (i, (ps, q))

abbrev built : Header → Term → List Clause → Equation
built h g cs = record { sign = h.sign; sorts = h.sorts; quantified = h.quantified; h = g; clauses = cs }

abbrev pub prefixed : {X : Type 0} → List X → Option (List X × ℕ) → Option (List X × ℕ)
prefixed xs None = None
prefixed xs (Some y) = Some (xs ++ y.0, y.1)

two : (n v m w : ℕ) → stood n v ≡ stood m w → (n ≡ m) × (v ≡ w)
two n v m w e =
    let p : ◌≡◌ {A = ℕ × ℕ} (n, v) (m, w) = cc in
    (ap (λ (z : ℕ × ℕ). z.0) p, ap (λ (z : ℕ × ℕ). z.1) p)

three : (i : ℕ) (ps : List ℕ) (q j : ℕ) (qs : List ℕ) (w : ℕ) → tuple i ps q ≡ tuple j qs w → (i ≡ j) × ((ps ≡ qs) × (q ≡ w))
three i ps q j qs w e =
    let p : ◌≡◌ {A = ℕ × (List ℕ × ℕ)} (i, (ps, q)) (j, (qs, w)) = cc in
    (ap (λ (z : ℕ × (List ℕ × ℕ)). z.0) p, (ap (λ (z : ℕ × (List ℕ × ℕ)). z.1.0) p, ap (λ (z : ℕ × (List ℕ × ℕ)). z.1.1) p))

same_step : {A : Type 0} (x y : A) (p q : ℕ) → next x p ≡ next y q → stood x p ≡ stood y q
same_step x y p q e =
    let i : x ≡ y = cc in
    let j : p ≡ q = cc in
    ap (λ z. stood z p) i ∙ ap (λ z. stood y z) j

module _ (a : Alg) (f : List ℕ) (short : length f ≤ 65536) where
  -- a term that is read stands
  of_stands : (c : Scope) (s p : ℕ) (t : Term) (q : ℕ) → read_of a c s f p ≡ next t q → shape a greatest_depth f p ≡ Some (t, q)
  of_stands c s p t q e =
      let d = followed (read_term a c greatest_depth (Some s) f p) (λ (x : Sorted) u. next x.the_term u) t q e in
      term_stands a c f short greatest_depth (Some s) p d.0 d.1.0 d.1.1.0 ∙ same_step d.0.the_term t d.1.0 q d.1.1.1

  counted_is : (w p : ℕ) (t : Term) (u n v : ℕ) → shape a greatest_depth f p ≡ Some (t, u) → take w f u ≡ next n v → counted a w f p ≡ Some (n, v)
  counted_is w p t u n v e h = ap (λ (o : Option (Term × ℕ)). bind {B = ℕ × ℕ} (behind o) (field_at w f)) e ∙ field_is f short w u n v h

  terms_placed : (c : Scope) (ss : List ℕ) (p : ℕ) (ts : List Term) (q : ℕ) → one_by_one (read_of a c) ss f p ≡ next ts q →
      (ps : List ℕ) × ((term_places a (length ss) f p ≡ Some (ps, q)) × ((length ps ≡ length ts) × ((k : ℕ) (t : Term) → at ts k ≡ Some t → standing a greatest_depth f (get_or ps k 0) ≡ Some t)))
  terms_placed c [] p ts q e =
      let i : ts ≡ [] = cc in
      let j : p ≡ q = cc in
      ([], (ap (λ z. stood [] z) j, (sym (ap length i), λ k t h. let z : ◌≡◌ {A = Option Term} None (Some t) = ap (λ z. at z k) (sym i) ∙ h in absurd cc)))
  terms_placed c (s ∷ ss) p ts q e =
      let d = followed (read_of a c s f p) (λ y t. follow (one_by_one (read_of a c) ss f t) (λ ys u. next (y ∷ ys) u)) ts q e in
      let b = followed (one_by_one (read_of a c) ss f d.1.0) (λ ys u. next (d.0 ∷ ys) u) ts q d.1.1.1 in
      let r = terms_placed c ss d.1.0 b.0 b.1.0 b.1.1.0 in
      let h : next (d.0 ∷ b.0) b.1.0 ≡ next ts q = b.1.1.1 in
      let i : ts ≡ d.0 ∷ b.0 = cc in
      let j : b.1.0 ≡ q = cc in
      let s_stands = of_stands c s p d.0 d.1.0 d.1.1.0 in (
        p ∷ r.0,
        (
          ap (λ (o : Option (Term × ℕ)). bind {B = List ℕ × ℕ} (behind o) (λ q. bind (term_places a (length ss) f q) (λ x. Some (p ∷ x.0, x.1)))) s_stands ∙
              ap (λ (o : Option (List ℕ × ℕ)). bind {B = List ℕ × ℕ} o (λ x. Some (p ∷ x.0, x.1))) r.1.0 ∙ ap (λ z. stood (p ∷ r.0) z) j,
          (ap suc r.1.1.0 ∙ sym (ap length i), λ k t h. each p d.0 d.1.0 s_stands b.0 r.0 r.1.1.1 k t (ap (λ z. at z k) (sym i) ∙ h)),
        ),
      )
    where
      each : (p : ℕ) (x : Term) (u : ℕ) → shape a greatest_depth f p ≡ Some (x, u) → (ts : List Term) (ps : List ℕ) → ((k : ℕ) (t : Term) → at ts k ≡ Some t → standing a greatest_depth f (get_or ps k 0) ≡ Some t) →
          (k : ℕ) (t : Term) → at (x ∷ ts) k ≡ Some t → standing a greatest_depth f (get_or (p ∷ ps) k 0) ≡ Some t
      each p x u e ts ps h zero t i = ap what e ∙ i
      each p x u e ts ps h (suc k) t i = h k t i

  target_there : (i p v : ℕ) (o : Option Header) (t : ℕ × Header) (u : ℕ) → given (bind o (λ h. Some (i, h))) NoSuchName p f v ≡ next t u → (o ≡ Some t.1) × ((i ≡ t.0) × (v ≡ u))
  target_there i p v None t u e = absurd cc
  target_there i p v (Some h) t u e =
      let k : (i, h) ≡ t = pair_of e in
      (ap (λ (z : ℕ × Header). Some z.1) k, (ap (λ (z : ℕ × Header). z.0) k, cc))
    where
      pair_of : next (i, h) v ≡ next t u → (i, h) ≡ t
      pair_of e = cc

  -- an occurrence that is read
  occurrence_read : (hs : List Header) (c : Scope) (p : ℕ) (o : Occurrence) (q : ℕ) → read_occurrence a hs c f p ≡ next o q →
      (ps : List ℕ) × ((occurrence_places a hs f p ≡ Some (o.target, (ps, q))) × ((length ps ≡ length o.arguments) × ((k : ℕ) (t : Term) → at o.arguments k ≡ Some t → standing a greatest_depth f (get_or ps k 0) ≡ Some t)))
  occurrence_read hs c p o q e =
      let d = followed (read_target hs f p) (λ (t : ℕ × Header) u. follow (one_by_one (read_of a c) t.1.sorts f u) (λ ts w. next (record { target = t.0; arguments = ts }) w)) o q e in
      let t = d.0 in
      let u = d.1.0 in
      let n = followed (take 5 f p) (λ i v. given (bind (at hs i) (λ h. Some (i, h))) NoSuchName p f v) t u d.1.1.0 in
      let g = target_there n.0 p n.1.0 (at hs n.0) t u n.1.1.1 in
      let b = followed (one_by_one (read_of a c) t.1.sorts f u) (λ ts w. next (record { target = t.0; arguments = ts }) w) o q d.1.1.1 in
      let r = terms_placed c t.1.sorts u b.0 b.1.0 b.1.1.0 in
      whole hs p o q n.0 n.1.0 (field_is f short 5 p n.0 n.1.0 n.1.1.0) t.0 t.1 u g.0 g.1.0 g.1.1 b.0 b.1.0 b.1.1.1 r.0 r.1.0 r.1.1.0 r.1.1.1
    where
      whole : (hs : List Header) (p : ℕ) (o : Occurrence) (q i v : ℕ) → field_at 5 f p ≡ Some (i, v) → (j : ℕ) (h : Header) (u : ℕ) → at hs i ≡ Some h → i ≡ j → v ≡ u → (ts : List Term) (w : ℕ) →
          next (record { target = j; arguments = ts }) w ≡ next o q → (ps : List ℕ) → term_places a (length h.sorts) f u ≡ Some (ps, w) → length ps ≡ length ts →
          ((k : ℕ) (t : Term) → at ts k ≡ Some t → standing a greatest_depth f (get_or ps k 0) ≡ Some t) →
          (ps : List ℕ) × ((occurrence_places a hs f p ≡ Some (o.target, (ps, q))) × ((length ps ≡ length o.arguments) × ((k : ℕ) (t : Term) → at o.arguments k ≡ Some t → standing a greatest_depth f (get_or ps k 0) ≡ Some t)))
      whole hs p o q i v e j h u k l m ts w n ps r s z =
          let x : Occurrence = record { target = j; arguments = ts } in
          let y : x ≡ o = occ x o w q n in
          let wq : w ≡ q = place x o w q n in
          let args : ts ≡ o.arguments = ap (λ (z : Occurrence). z.arguments) y in
          let tg : j ≡ o.target = ap (λ (z : Occurrence). z.target) y in (
            ps,
            (
              ap (λ (o : Option (ℕ × ℕ)). bind {B = ℕ × (List ℕ × ℕ)} o (λ i. bind (at hs i.0) (λ h. bind (term_places a (length h.sorts) f i.1) (λ x. Some (i.0, x))))) e ∙
                  ap (λ (o : Option Header). bind {B = ℕ × (List ℕ × ℕ)} o (λ h. bind (term_places a (length h.sorts) f v) (λ x. Some (i, x)))) k ∙
                  ap (λ z. bind {A = List ℕ × ℕ} {B = ℕ × (List ℕ × ℕ)} (term_places a (length h.sorts) f z) (λ x. Some (i, x))) m ∙
                  ap (λ (o : Option (List ℕ × ℕ)). bind {B = ℕ × (List ℕ × ℕ)} o (λ x. Some (i, x))) r ∙
                  ap (λ z. tuple z ps w) (l ∙ tg) ∙ ap (λ z. tuple o.target ps z) wq,
              (s ∙ ap length args, λ k t e. z k t (ap (λ z. at z k) args ∙ e)),
            ),
          )
        where
          occ : (x o : Occurrence) (w q : ℕ) → next x w ≡ next o q → x ≡ o
          occ x o w q e = cc

          place : (x o : Occurrence) (w q : ℕ) → next x w ≡ next o q → w ≡ q
          place x o w q e = cc

  occurrences_end_lem : (hs : List Header) (c : Scope) (n p : ℕ) (os : List Occurrence) (q : ℕ) → repeated (read_occurrence a hs c) n f p ≡ next os q → occurrences_end a hs n f p ≡ Some q
  occurrences_end_lem hs c zero p os q e = let j : p ≡ q = cc in ap Some j
  occurrences_end_lem hs c (suc n) p os q e =
      let d = followed (read_occurrence a hs c f p) (λ y t. follow (repeated (read_occurrence a hs c) n f t) (λ ys u. next (y ∷ ys) u)) os q e in
      let b = followed (repeated (read_occurrence a hs c) n f d.1.0) (λ ys u. next (d.0 ∷ ys) u) os q d.1.1.1 in
      let r = occurrence_read hs c p d.0 d.1.0 d.1.1.0 in
      let h : next (d.0 ∷ b.0) b.1.0 ≡ next os q = b.1.1.1 in
      let j : b.1.0 ≡ q = cc in
      ap (λ (o : Option (ℕ × (List ℕ × ℕ))). bind {B = ℕ} o (λ x. occurrences_end a hs n f x.1.1)) r.1.0 ∙
      occurrences_end_lem hs c n d.1.0 b.0 b.1.0 b.1.1.0 ∙ ap Some j

  -- a clause that is read: where its guard ends, how many occurrences it has, and how they are read
  clause_read : (hs : List Header) (c : Scope) (p : ℕ) (k : Clause) (q : ℕ) → read_clause a hs c f p ≡ next k q →
      (n : ℕ) × ((v : ℕ) × ((counted a 3 f p ≡ Some (n, v)) × ((standing a greatest_depth f p ≡ Some k.guard) × ((suc n ≡ length k.occurrences) × (repeated (read_occurrence a hs c) (suc n) f v ≡ next k.occurrences q)))))
  clause_read hs c p k q e =
      let d = followed (read_of a c 0 f p) (λ g u. follow (take 3 f u) (λ n v. follow (repeated (read_occurrence a hs c) (suc n) f v) (λ os w. next (record { guard = g; occurrences = os }) w))) k q e in
      let n = followed (take 3 f d.1.0) (λ n v. follow (repeated (read_occurrence a hs c) (suc n) f v) (λ os w. next (record { guard = d.0; occurrences = os }) w)) k q d.1.1.1 in
      let b = followed (repeated (read_occurrence a hs c) (suc n.0) f n.1.0) (λ os w. next (record { guard = d.0; occurrences = os }) w) k q n.1.1.1 in
      let s = of_stands c 0 p d.0 d.1.0 d.1.1.0 in
      let x : Clause = record { guard = d.0; occurrences = b.0 } in
      let y : x ≡ k = clause_of x k b.1.0 q b.1.1.1 in
      let j : b.1.0 ≡ q = place_of x k b.1.0 q b.1.1.1 in
      let os : b.0 ≡ k.occurrences = ap (λ (z : Clause). z.occurrences) y in (
        n.0,
        (
          n.1.0,
          (
            counted_is 3 p d.0 d.1.0 n.0 n.1.0 s n.1.1.0,
            (
              ap what s ∙ ap (λ (z : Clause). Some z.guard) y,
              (sym (repeated_length (read_occurrence a hs c) f (suc n.0) n.1.0 b.0 b.1.0 b.1.1.0) ∙ ap length os, b.1.1.0 ∙ ap (λ z. next z b.1.0) os ∙ ap (λ z. next k.occurrences z) j),
            ),
          ),
        ),
      )
    where
      clause_of : (x k : Clause) (w q : ℕ) → next x w ≡ next k q → x ≡ k
      clause_of x k w q e = cc

      place_of : (x k : Clause) (w q : ℕ) → next x w ≡ next k q → w ≡ q
      place_of x k w q e = cc

  body_read : (hs : List Header) (h : Header) (p : ℕ) (k : Equation) (q : ℕ) → read_body a hs h f p ≡ next k q →
      (n : ℕ) × ((v : ℕ) × ((counted a 4 f p ≡ Some (n, v)) × ((standing a greatest_depth f p ≡ Some k.h) × ((n ≡ length k.clauses) × (repeated (read_clause a hs (scope h)) n f v ≡ next k.clauses q)))))
  body_read hs h p k q e =
      let d = followed (read_of a (scope h) 0 f p) (λ g u. follow (take 4 f u) (λ n v. follow (repeated (read_clause a hs (scope h)) n f v) (λ cs w. next (built h g cs) w))) k q e in
      let n = followed (take 4 f d.1.0) (λ n v. follow (repeated (read_clause a hs (scope h)) n f v) (λ cs w. next (built h d.0 cs) w)) k q d.1.1.1 in
      let b = followed (repeated (read_clause a hs (scope h)) n.0 f n.1.0) (λ cs w. next (built h d.0 cs) w) k q n.1.1.1 in
      let s = of_stands (scope h) 0 p d.0 d.1.0 d.1.1.0 in
      let x = built h d.0 b.0 in
      let y : x ≡ k = equation_of x k b.1.0 q b.1.1.1 in
      let j : b.1.0 ≡ q = place_of x k b.1.0 q b.1.1.1 in
      let cs : b.0 ≡ k.clauses = ap (λ (z : Equation). z.clauses) y in (
        n.0,
        (
          n.1.0,
          (
            counted_is 4 p d.0 d.1.0 n.0 n.1.0 s n.1.1.0,
            (
              ap what s ∙ ap (λ (z : Equation). Some z.h) y,
              (sym (repeated_length (read_clause a hs (scope h)) f n.0 n.1.0 b.0 b.1.0 b.1.1.0) ∙ ap length cs, b.1.1.0 ∙ ap (λ z. next z b.1.0) cs ∙ ap (λ z. next k.clauses z) j),
            ),
          ),
        ),
      )
    where
      equation_of : (x k : Equation) (w q : ℕ) → next x w ≡ next k q → x ≡ k
      equation_of x k w q e = cc

      place_of : (x k : Equation) (w q : ℕ) → next x w ≡ next k q → w ≡ q
      place_of x k w q e = cc

module _ (a : Alg) (f : List ℕ) (p : ℕ) where
  never : {A : Type 0} (x : A) (o : Option A) → o ≡ None → o ≡ Some x → ⊥
  never x o e h = cc

  pub body_found : (r : Option BodyAt) → BodyPlaces a f p r → BodyFound a f p r
  body_found None places hs h e q short k =
      let d = body_read a f short hs h p e q k in
      never (d.0, d.1.0) (counted a 4 f p) places d.1.1.0
  body_found (Some b) places hs h e q short k =
      let d = body_read a f short hs h p e q k in
      let c = two d.0 d.1.0 b.count b.next (sym d.1.1.0 ∙ places.1) in
      record {
        h_stands = ap (standing a greatest_depth f) places.0 ∙ d.1.1.1.0;
        count = sym c.0 ∙ d.1.1.1.1.0;
        clauses = ap (λ z. repeated (read_clause a hs (scope h)) z f b.next) (sym c.0) ∙ ap (λ z. repeated (read_clause a hs (scope h)) d.0 f z) (sym c.1) ∙ d.1.1.1.1.1;
      }

  pub clause_found : (r : Option ClauseAt) → ClausePlaces a f p r → ClauseFound a f p r
  clause_found None places hs s k q short e =
      let d = clause_read a f short hs s p k q e in
      never (d.0, d.1.0) (counted a 3 f p) places d.1.1.0
  clause_found (Some x) places hs s k q short e =
      let d = clause_read a f short hs s p k q e in
      let c = two d.0 d.1.0 places.1.0 x.next (sym d.1.1.0 ∙ places.1.1.1) in
      let n : x.count ≡ suc d.0 = places.1.1.0 ∙ ap suc (sym c.0) in
      record {
        guard = ap (standing a greatest_depth f) places.0 ∙ d.1.1.1.0;
        count = n ∙ d.1.1.1.1.0;
        occurrences = ap (λ z. repeated (read_occurrence a hs s) z f x.next) n ∙ ap (λ z. repeated (read_occurrence a hs s) (suc d.0) f z) (sym c.1) ∙ d.1.1.1.1.1;
      }

  module _ (hs : List Header) where
    pub occurrence_found : (r : Option OccurrenceAt) → OccurrencePlaces a hs f p r → OccurrenceFound a hs f p r
    occurrence_found None places s o q short e =
        let d = occurrence_read a f short hs s p o q e in
        never (o.target, (d.0, q)) (occurrence_places a hs f p) places d.1.0
    occurrence_found (Some x) places s o q short e =
        let d = occurrence_read a f short hs s p o q e in
        let c = three o.target d.0 q x.target (listed x.arguments) x.next (sym d.1.0 ∙ places) in
        record {
          target = sym c.0;
          count = ap length (sym c.1.0) ∙ d.1.1.0;
          arguments = λ k t h. ap (λ z. standing a greatest_depth f (get_or z k 0)) (sym c.1.0) ∙ d.1.1.1 k t h;
          end = sym c.1.1;
        }

    pub end_found : (r : Option ℕ) → r ≡ clause_end a hs f p → EndFound a hs f p r
    end_found r places s k q short e =
        let d = clause_read a f short hs s p k q e in
        places ∙ ap (λ (o : Option (ℕ × ℕ)). bind {B = ℕ} o (λ n. occurrences_end a hs (suc n.0) f n.1)) d.1.1.0 ∙
        occurrences_end_lem a f short hs s (suc d.0) d.1.0 k.occurrences q d.1.1.1.1.1

-- things in a row, one more at a time
module _ {X : Type 0} (s : ℕ → Option (X × ℕ)) where
  pub row_begin : (n p : ℕ) → in_row s n p ≡ prefixed [] (in_row s (n - 0) p)
  row_begin n p = begin (in_row s n p) ∙ ap (λ k. prefixed [] (in_row s k p)) (sub-zero n)
    where
      begin : (o : Option (List X × ℕ)) → o ≡ prefixed [] o
      begin None = refl
      begin (Some y) = refl

      sub-zero : (n : ℕ) → n ≡ n - 0
      sub-zero n = omega arith

  more : (xs : List X) (x : X) (o : Option (List X × ℕ)) → prefixed xs (bind o (λ r. Some (x ∷ r.0, r.1))) ≡ prefixed (xs ++ (x ∷ [])) o
  more xs x None = refl
  more xs x (Some y) = ap (λ z. stood z y.1) (sym (append_assoc xs (x ∷ []) y.0))

  pub row_next : (xs zs : List X) (n i p : ℕ) (x : X) (q : ℕ) → i < n → s p ≡ Some (x, q) → zs ≡ xs ++ (x ∷ []) → prefixed xs (in_row s (n - i) p) ≡ prefixed zs (in_row s (n - (i + 1)) q)
  row_next xs zs n i p x q h e k = go (n - i) (n - (i + 1)) (omega arith)
    where
      go : (u v : ℕ) → u ≡ v + 1 → prefixed xs (in_row s u p) ≡ prefixed zs (in_row s v q)
      go zero v l = absurd (omega arith)
      go (suc u) v l =
          let j : u ≡ v = omega arith in
          ap (λ (o : Option (X × ℕ)). prefixed xs (bind o (λ x. bind (in_row s u x.1) (λ r. Some (x.0 ∷ r.0, r.1))))) e ∙
          more xs x (in_row s u q) ∙ ap (λ z. prefixed z (in_row s u q)) (sym k) ∙ ap (λ z. prefixed zs (in_row s z q)) j

  pub row_none : (xs : List X) (n i p : ℕ) → i < n → s p ≡ None → prefixed xs (in_row s (n - i) p) ≡ None
  row_none xs n i p h e = go (n - i) (omega arith)
    where
      go : (u : ℕ) → 0 < u → prefixed xs (in_row s u p) ≡ None
      go zero l = absurd (omega arith)
      go (suc u) l = ap (λ (o : Option (X × ℕ)). prefixed xs (bind o (λ x. bind (in_row s u x.1) (λ r. Some (x.0 ∷ r.0, r.1))))) e

  pub row_end : (xs : List X) (n i p : ℕ) → n ≡ i → prefixed xs (in_row s (n - i) p) ≡ Some (xs, p)
  row_end xs n i p h = let e : n - i ≡ 0 = omega arith in ap (λ z. prefixed xs (in_row s z p)) e ∙ ap (λ z. stood z p) (append-nil xs)

  last : (x : X) (o : Option (List X × ℕ)) → ended (bind o (λ r. Some (x ∷ r.0, r.1))) ≡ ended o
  last x None = refl
  last x (Some r) = refl

  -- the same of the place behind the last alone
  pub end_begin : (n p : ℕ) → ended (in_row s n p) ≡ ended (in_row s (n - 0) p)
  end_begin n p = let e : n ≡ n - 0 = omega arith in ap (λ k. ended (in_row s k p)) e

  pub end_next : (n i p q : ℕ) → i < n → Some q ≡ ended (s p) → ended (in_row s (n - i) p) ≡ ended (in_row s (n - (i + 1)) q)
  end_next n i p q h e = go (n - i) (n - (i + 1)) (omega arith)
    where
      found : (u : ℕ) (o : Option (X × ℕ)) → Some q ≡ ended o → ended (bind o (λ x. bind (in_row s u x.1) (λ r. Some (x.0 ∷ r.0, r.1)))) ≡ ended (in_row s u q)
      found u None e = absurd cc
      found u (Some x) e = let j : x.1 ≡ q = cc in last x.0 (in_row s u x.1) ∙ ap (λ z. ended (in_row s u z)) j

      go : (u v : ℕ) → u ≡ v + 1 → ended (in_row s u p) ≡ ended (in_row s v q)
      go zero v l = absurd (omega arith)
      go (suc u) v l = let j : u ≡ v = omega arith in found u (s p) e ∙ ap (λ z. ended (in_row s z q)) j

  pub end_none : (n i p : ℕ) → i < n → None ≡ ended (s p) → ended (in_row s (n - i) p) ≡ None
  end_none n i p h e = go (n - i) (omega arith)
    where
      missing : (u : ℕ) (o : Option (X × ℕ)) → None ≡ ended o → ended (bind o (λ x. bind (in_row s u x.1) (λ r. Some (x.0 ∷ r.0, r.1)))) ≡ None
      missing u None e = refl
      missing u (Some x) e = absurd cc

      go : (u : ℕ) → 0 < u → ended (in_row s u p) ≡ None
      go zero l = absurd (omega arith)
      go (suc u) l = missing u (s p) e

  pub end_end : (n i p : ℕ) → n ≡ i → ended (in_row s (n - i) p) ≡ Some p
  end_end n i p h = let e : n - i ≡ 0 = omega arith in ap (λ z. ended (in_row s z p)) e

  -- what is read one by one is found one by one
  pub row_found : {Y : Type 0} (r : Reader Y) (f : List ℕ) (P : X → Y → Type 0) → ((p : ℕ) (y : Y) (q : ℕ) → r f p ≡ next y q → (x : X) × ((s p ≡ Some (x, q)) × P x y)) →
      (n p : ℕ) (ys : List Y) (q : ℕ) → repeated r n f p ≡ next ys q → (xs : List X) × ((in_row s n p ≡ Some (xs, q)) × Pairs P xs ys)
  row_found {Y} r f P found zero p ys q e =
      let j : p ≡ q = cc in
      let i : ys ≡ [] = cc in
      ([], (ap (λ z. stood [] z) j, none ys i))
    where
      none : (ys : List Y) → ys ≡ [] → Pairs P [] ys
      none [] i = tt
      none (y ∷ ys) i = let z : suc (length ys) ≡ 0 = ap length i in absurd (omega arith)
  row_found {Y} r f P found (suc n) p ys q e =
      let d = followed (r f p) (λ y t. follow (repeated r n f t) (λ ys u. next (y ∷ ys) u)) ys q e in
      let b = followed (repeated r n f d.1.0) (λ ys u. next (d.0 ∷ ys) u) ys q d.1.1.1 in
      let h : next (d.0 ∷ b.0) b.1.0 ≡ next ys q = b.1.1.1 in
      let i : ys ≡ d.0 ∷ b.0 = cc in
      let j : b.1.0 ≡ q = cc in
      let x = found p d.0 d.1.0 d.1.1.0 in
      let rest = row_found r f P found n d.1.0 b.0 b.1.0 b.1.1.0 in (
        x.0 ∷ rest.0,
        (
          ap (λ (o : Option (X × ℕ)). bind {B = List X × ℕ} o (λ x. bind (in_row s n x.1) (λ r. Some (x.0 ∷ r.0, r.1)))) x.1.0 ∙
              ap (λ (o : Option (List X × ℕ)). bind {B = List X × ℕ} o (λ r. Some (x.0 ∷ r.0, r.1))) rest.1.0 ∙ ap (λ z. stood (x.0 ∷ rest.0) z) j,
          both ys d.0 b.0 i x.0 rest.0 x.1.1 rest.1.1,
        ),
      )
    where
      both : (ys : List Y) (y : Y) (zs : List Y) → ys ≡ y ∷ zs → (x : X) (xs : List X) → P x y → Pairs P xs zs → Pairs P (x ∷ xs) ys
      both [] y zs i x xs h k = let z : 0 ≡ suc (length zs) = ap length i in absurd (omega arith)
      both (w ∷ ws) y zs i x xs h k =
          let g : y ≡ w = cc in
          let l : zs ≡ ws = cc in
          (subst (λ z. P x z) g h, subst (λ z. Pairs P xs z) l k)

-- of things told, each told pair is a pair
pub told_pairs : {T X Y : Type 0} (told : T → X) (P : X → Y → Type 0) (Q : T → Y → Type 0) → ((t : T) (y : Y) → P (told t) y → Q t y) → (ts : List T) (ys : List Y) → Pairs P (map told ts) ys → Pairs Q ts ys
told_pairs told P Q h [] [] k = tt
told_pairs told P Q h [] (y ∷ ys) k = absurd k
told_pairs told P Q h (t ∷ ts) [] k = absurd k
told_pairs told P Q h (t ∷ ts) (y ∷ ys) k = (h t y k.0, told_pairs told P Q h ts ys k.1)

-- what the code finds, step by step
module _ (a : Alg) (f : List ℕ) where
  pub counted_no_term : (w p : ℕ) → None ≡ term_end a f p → counted a w f p ≡ None
  counted_no_term w p e = ap (λ (o : Option ℕ). bind {B = ℕ × ℕ} o (field_at w f)) (sym e)

  pub counted_term : (w p u : ℕ) (o : Option (ℕ × ℕ)) → Some u ≡ term_end a f p → o ≡ field_at w f u → counted a w f p ≡ o
  counted_term w p u o e h = ap (λ (o : Option ℕ). bind {B = ℕ × ℕ} o (field_at w f)) (sym e) ∙ sym h

  module _ (hs : List Header) where
    pub target_none : (p : ℕ) → None ≡ field_at 5 f p → target_place hs f p ≡ None
    target_none p e = ap (λ (o : Option (ℕ × ℕ)). bind {B = ℕ × ℕ × ℕ} o (λ i. bind (at hs i.0) (λ h. Some (i.0, length h.sorts, i.1)))) (sym e)

    pub target_found : (p i u : ℕ) → Some (i, u) ≡ field_at 5 f p → (o : Option Header) → o ≡ at hs i → target_place hs f p ≡ bind o (λ h. Some (i, length h.sorts, u))
    target_found p i u e o h =
        ap (λ (o : Option (ℕ × ℕ)). bind {B = ℕ × ℕ × ℕ} o (λ i. bind (at hs i.0) (λ h. Some (i.0, length h.sorts, i.1)))) (sym e) ∙
        ap (λ (o : Option Header). bind {B = ℕ × ℕ × ℕ} o (λ h. Some (i, length h.sorts, u))) (sym h)

    -- an occurrence is its target and its arguments
    abbrev of_target : Option (ℕ × ℕ × ℕ) → Option (ℕ × (List ℕ × ℕ))
    of_target o = bind o (λ t. bind (term_places a t.1 f t.2) (λ x. Some (t.0, x)))

    targeted : (p : ℕ) → occurrence_places a hs f p ≡ of_target (target_place hs f p)
    targeted p = go (field_at 5 f p)
      where
        inner : (i : ℕ × ℕ) (o : Option Header) → bind {B = ℕ × (List ℕ × ℕ)} o (λ h. bind (term_places a (length h.sorts) f i.1) (λ x. Some (i.0, x))) ≡ of_target (bind {B = ℕ × ℕ × ℕ} o (λ h. Some (i.0, length h.sorts, i.1)))
        inner i None = refl
        inner i (Some h) = refl

        go : (o : Option (ℕ × ℕ)) → bind {B = ℕ × (List ℕ × ℕ)} o (λ i. bind (at hs i.0) (λ h. bind (term_places a (length h.sorts) f i.1) (λ x. Some (i.0, x)))) ≡
            of_target (bind {B = ℕ × ℕ × ℕ} o (λ i. bind (at hs i.0) (λ h. Some (i.0, length h.sorts, i.1))))
        go None = refl
        go (Some i) = inner i (at hs i.0)

    pub occurrence_none : (p : ℕ) → None ≡ target_place hs f p → occurrence_places a hs f p ≡ None
    occurrence_none p e = targeted p ∙ ap of_target (sym e)

    pub occurrence_with : (p i n u : ℕ) → Some (i, n, u) ≡ target_place hs f p → (o : Option (List ℕ × ℕ)) → o ≡ term_places a n f u → occurrence_places a hs f p ≡ bind o (λ x. Some (i, x))
    occurrence_with p i n u e o h = targeted p ∙ ap of_target (sym e) ∙ ap (λ (o : Option (List ℕ × ℕ)). bind {B = ℕ × (List ℕ × ℕ)} o (λ x. Some (i, x))) (sym h)

    -- the place behind it alone
    abbrev with_end : Option (ℕ × (List ℕ × ℕ)) → Option ℕ
    with_end o = ended (bind {B = (ℕ × (List ℕ × ℕ)) × ℕ} o (λ x. Some (x, x.1.1)))

    pub occurrence_no_end : (p : ℕ) → None ≡ target_place hs f p → ended (occurrence_next a hs f p) ≡ None
    occurrence_no_end p e = ap with_end (occurrence_none p e)

    pub occurrence_end : (p i n u : ℕ) → Some (i, n, u) ≡ target_place hs f p → (r : Option ℕ) → r ≡ ended (term_places a n f u) → ended (occurrence_next a hs f p) ≡ r
    occurrence_end p i n u e r h = ap with_end (occurrence_with p i n u e (term_places a n f u) refl) ∙ go (term_places a n f u) ∙ sym h
      where
        go : (o : Option (List ℕ × ℕ)) → with_end (bind o (λ x. Some (i, x))) ≡ ended o
        go None = refl
        go (Some x) = refl

    pub clause_no_end : (p : ℕ) → counted a 3 f p ≡ None → clause_end a hs f p ≡ None
    clause_no_end p e = ap (λ (o : Option (ℕ × ℕ)). bind {B = ℕ} o (λ n. occurrences_end a hs (suc n.0) f n.1)) e

    pub clause_end_at : (p n v m : ℕ) → counted a 3 f p ≡ Some (n, v) → m ≡ suc n → clause_end a hs f p ≡ occurrences_end a hs m f v
    clause_end_at p n v m e h = ap (λ (o : Option (ℕ × ℕ)). bind {B = ℕ} o (λ n. occurrences_end a hs (suc n.0) f n.1)) e ∙ ap (λ z. occurrences_end a hs z f v) (sym h)

    pub clause_row : (n p : ℕ) → occurrences_end a hs n f p ≡ ended (in_row (occurrence_next a hs f) n p)
    clause_row zero p = refl
    clause_row (suc n) p = go (λ q. clause_row n q) (occurrence_places a hs f p)
      where
        go : ((q : ℕ) → occurrences_end a hs n f q ≡ ended (in_row (occurrence_next a hs f) n q)) → (o : Option (ℕ × (List ℕ × ℕ))) →
            bind o (λ x. occurrences_end a hs n f x.1.1) ≡ ended (bind (bind {B = (ℕ × (List ℕ × ℕ)) × ℕ} o (λ x. Some (x, x.1.1))) (λ x. bind (in_row (occurrence_next a hs f) n x.1) (λ r. Some (x.0 ∷ r.0, r.1))))
        go ih None = refl
        go ih (Some x) = ih x.1.1 ∙ sym (last (occurrence_next a hs f) x (in_row (occurrence_next a hs f) n x.1.1))

-- the places of terms as things in a row
abbrev pub term_next : Alg → List ℕ → ℕ → Option (ℕ × ℕ)
term_next a f p = bind (term_end a f p) (λ q. Some (p, q))

pub terms_row : (a : Alg) (f : List ℕ) (n p : ℕ) → term_places a n f p ≡ in_row (term_next a f) n p
terms_row a f zero p = refl
terms_row a f (suc n) p = go (λ q. terms_row a f n q) (term_end a f p)
  where
    go : ((q : ℕ) → term_places a n f q ≡ in_row (term_next a f) n q) → (o : Option ℕ) →
        bind {B = List ℕ × ℕ} o (λ q. bind (term_places a n f q) (λ x. Some (p ∷ x.0, x.1))) ≡ bind (bind {B = ℕ × ℕ} o (λ q. Some (p, q))) (λ x. bind (in_row (term_next a f) n x.1) (λ r. Some (x.0 ∷ r.0, r.1)))
    go ih None = refl
    go ih (Some q) = ap (λ (o : Option (List ℕ × ℕ)). bind {B = List ℕ × ℕ} o (λ x. Some (p ∷ x.0, x.1))) (ih q)

pub ended_term : (a : Alg) (f : List ℕ) (p : ℕ) → term_end a f p ≡ ended (term_next a f p)
ended_term a f p = go (term_end a f p)
  where
    go : (o : Option ℕ) → o ≡ ended (bind {B = ℕ × ℕ} o (λ q. Some (p, q)))
    go None = refl
    go (Some q) = refl

-- occurrences and clauses in a row, as the code tells them
module _ (a : Alg) (hs : List Header) (f : List ℕ) where
  pub clause_end_of : (p : ℕ) (c : ClauseAt) (r : Option ℕ) → ClausePlaces a f p (Some c) → r ≡ occurrences_end a hs c.count f c.next → clause_end a hs f p ≡ r
  clause_end_of p c r places e = clause_end_at a f hs p places.1.0 c.next c.count places.1.1.1 places.1.1.0 ∙ sym e

  pub clause_next_of : (p : ℕ) (c : ClauseAt) (r : Option ℕ) → ClausePlaces a f p (Some c) → r ≡ occurrences_end a hs c.count f c.next → clause_next a hs f p ≡ option_map (λ q. (clause_told c, q)) r
  clause_next_of p c r places e =
      let n = places.1.0 in
      ap (λ (o : Option (ℕ × ℕ)). bind {B = (ℕ × (ℕ × ℕ)) × ℕ} o (λ n. bind (occurrences_end a hs (suc n.0) f n.1) (λ q. Some ((p, (suc n.0, n.1)), q)))) places.1.1.1 ∙
      ap (λ m. bind {B = (ℕ × (ℕ × ℕ)) × ℕ} (occurrences_end a hs m f c.next) (λ q. Some ((p, (m, c.next)), q))) (sym places.1.1.0) ∙
      ap (λ z. bind {B = (ℕ × (ℕ × ℕ)) × ℕ} (occurrences_end a hs c.count f c.next) (λ q. Some ((z, (c.count, c.next)), q))) (sym places.0) ∙
      ap (λ (o : Option ℕ). bind {B = (ℕ × (ℕ × ℕ)) × ℕ} o (λ q. Some (clause_told c, q))) (sym e) ∙ told r
    where
      told : (r : Option ℕ) → bind {B = (ℕ × (ℕ × ℕ)) × ℕ} r (λ q. Some (clause_told c, q)) ≡ option_map (λ q. (clause_told c, q)) r
      told None = refl
      told (Some q) = refl

  pub clause_no_next : (p : ℕ) → counted a 3 f p ≡ None → clause_next a hs f p ≡ None
  clause_no_next p e = ap (λ (o : Option (ℕ × ℕ)). bind {B = (ℕ × (ℕ × ℕ)) × ℕ} o (λ n. bind (occurrences_end a hs (suc n.0) f n.1) (λ q. Some ((p, (suc n.0, n.1)), q)))) e

  pub occurrences_told : (c : ClauseAt) (w : Option (Row OccurrenceAt 8 × ℕ)) → occurrences_of w ≡ in_row (occurrence_next a hs f) c.count c.next → OccurrencesPlaces a hs f c (option_map (λ w. w.0) w)
  occurrences_told c None e = ap (option_map (λ x. x.0)) e
  occurrences_told c (Some x) e = ap (option_map (λ x. x.0)) e

  -- the places of occurrences that are read one by one
  read_places : (n p : ℕ) (c : Scope) (os : List Occurrence) (q : ℕ) → length f ≤ 65536 → repeated (read_occurrence a hs c) n f p ≡ next os q →
      (ts : List (ℕ × (List ℕ × ℕ))) × ((in_row (occurrence_next a hs f) n p ≡ Some (ts, q)) × ((xs : List OccurrenceAt) → map occurrence_told xs ≡ ts → Pairs (λ x o. (u : ℕ) × OccurrenceOf a f o u x) xs os))
  read_places n p c os q short e =
      let d = row_found (occurrence_next a hs f) (read_occurrence a hs c) f IsFound one n p os q e in
      (d.0, (d.1.0, λ xs i. told_pairs occurrence_told IsFound (λ x o. (u : ℕ) × OccurrenceOf a f o u x) (λ x o h. h x refl) xs os (subst (λ ts. Pairs IsFound ts os) (sym i) d.1.1)))
    where
      IsFound : ℕ × (List ℕ × ℕ) → Occurrence → Type 0
      IsFound t o = (x : OccurrenceAt) → occurrence_told x ≡ t → (u : ℕ) × OccurrenceOf a f o u x

      one : (p : ℕ) (o : Occurrence) (u : ℕ) → read_occurrence a hs c f p ≡ next o u → (t : ℕ × (List ℕ × ℕ)) × ((occurrence_next a hs f p ≡ Some (t, u)) × IsFound t o)
      one p o u h =
          let d = occurrence_read a f short hs c p o u h in (
            (o.target, (d.0, u)),
            (
              ap (λ (o : Option (ℕ × (List ℕ × ℕ))). bind {B = (ℕ × (List ℕ × ℕ)) × ℕ} o (λ x. Some (x, x.1.1))) d.1.0,
              λ x i. (u, occurrence_found a f p hs (Some x) (d.1.0 ∙ ap Some (sym i)) c o u short h),
            ),
          )

  pub row_filled : (k : ClauseAt) (xs : Row OccurrenceAt 8) (r : Option ℕ) → RowPlaces a hs f k xs r → RowFound a hs f k xs r
  row_filled k xs r places c os q short e = go r places (read_places k.count k.next c os q short e)
    where
      go : (r : Option ℕ) → RowPlaces a hs f k xs r →
          (ts : List (ℕ × (List ℕ × ℕ))) × ((in_row (occurrence_next a hs f) k.count k.next ≡ Some (ts, q)) × ((xs : List OccurrenceAt) → map occurrence_told xs ≡ ts → Pairs (λ x o. (u : ℕ) × OccurrenceOf a f o u x) xs os)) →
          (r ≡ Some q) × Pairs (λ x o. (u : ℕ) × OccurrenceOf a f o u x) (listed xs) os
      go None places d = let z : ◌≡◌ {A = Option (List (ℕ × (List ℕ × ℕ)) × ℕ)} None (Some (d.0, q)) = places ∙ d.1.0 in absurd cc
      go (Some v) places d =
          let z : ◌≡◌ {A = Option (List (ℕ × (List ℕ × ℕ)) × ℕ)} (Some (map occurrence_told (listed xs), v)) (Some (d.0, q)) = places ∙ d.1.0 in
          let y : ◌≡◌ {A = List (ℕ × (List ℕ × ℕ)) × ℕ} (map occurrence_told (listed xs), v) (d.0, q) = cc in
          (ap (λ (y : List (ℕ × (List ℕ × ℕ)) × ℕ). Some y.1) y, d.1.1 (listed xs) (ap (λ (y : List (ℕ × (List ℕ × ℕ)) × ℕ). y.0) y))

  pub occurrences_found : (k : ClauseAt) (r : Option (Row OccurrenceAt 8)) → OccurrencesPlaces a hs f k r → OccurrencesFound a hs f k r
  occurrences_found k r places c os q short e = go r places (read_places k.count k.next c os q short e)
    where
      go : (r : Option (Row OccurrenceAt 8)) → OccurrencesPlaces a hs f k r →
          (ts : List (ℕ × (List ℕ × ℕ))) × ((in_row (occurrence_next a hs f) k.count k.next ≡ Some (ts, q)) × ((xs : List OccurrenceAt) → map occurrence_told xs ≡ ts → Pairs (λ x o. (u : ℕ) × OccurrenceOf a f o u x) xs os)) →
          Found r (λ xs. Pairs (λ x o. (u : ℕ) × OccurrenceOf a f o u x) (listed xs) os)
      go None places d = let z : ◌≡◌ {A = Option (List (ℕ × (List ℕ × ℕ)))} None (Some d.0) = places ∙ ap (option_map (λ x. x.0)) d.1.0 in absurd cc
      go (Some xs) places d =
          let z : ◌≡◌ {A = Option (List (ℕ × (List ℕ × ℕ)))} (Some (map occurrence_told (listed xs))) (Some d.0) = places ∙ ap (option_map (λ x. x.0)) d.1.0 in
          d.1.1 (listed xs) cc

  pub no_clauses : (b : BodyAt) (r : Option (Row ClauseAt 15)) → r ≡ None → in_row (clause_next a hs f) b.count b.next ≡ None → ClausesPlaces a hs f b r
  no_clauses b r e n = ap (option_map (λ cs. map clause_told (listed cs))) e ∙ ap (option_map {T = List (ℕ × (ℕ × ℕ)) × ℕ} (λ x. x.0)) (sym n)

  pub clauses_found : (b : BodyAt) (r : Option (Row ClauseAt 15)) → ClausesPlaces a hs f b r → ClausesFound a hs f b r
  clauses_found b r places c ks q short e = found r (row_found (clause_next a hs f) (read_clause a hs c) f IsFound one b.count b.next ks q e) places
    where
      IsFound : ℕ × (ℕ × ℕ) → Clause → Type 0
      IsFound t k = (x : ClauseAt) → clause_told x ≡ t → (u : ℕ) × ClauseOf a hs c f k u x

      parts : (x : ClauseAt) (p n v : ℕ) → clause_told x ≡ (p, (suc n, v)) → counted a 3 f p ≡ Some (n, v) → ClausePlaces a f p (Some x)
      parts x p n v i e = (ap (λ t. t.0) i, (n, (ap (λ t. t.1.0) i, e ∙ ap (λ t. Some (n, t.1.1)) (sym i))))

      one : (p : ℕ) (k : Clause) (u : ℕ) → read_clause a hs c f p ≡ next k u → (t : ℕ × (ℕ × ℕ)) × ((clause_next a hs f p ≡ Some (t, u)) × IsFound t k)
      one p k u h =
          let d = clause_read a f short hs c p k u h in
          let n = d.0 in
          let v = d.1.0 in
          let e = d.1.1.0 in
          let o = occurrences_end_lem a f short hs c (suc n) v k.occurrences u d.1.1.1.1.1 in (
            (p, (suc n, v)),
            (
              ap (λ (o : Option (ℕ × ℕ)). bind {B = (ℕ × (ℕ × ℕ)) × ℕ} o (λ n. bind (occurrences_end a hs (suc n.0) f n.1) (λ q. Some ((p, (suc n.0, n.1)), q)))) e ∙
                  ap (λ (o : Option ℕ). bind {B = (ℕ × (ℕ × ℕ)) × ℕ} o (λ q. Some ((p, (suc n, v)), q))) o,
              λ x i. (u, clause_found a f p (Some x) (parts x p n v i e) hs c k u short h),
            ),
          )

      found : (r : Option (Row ClauseAt 15)) → (ts : List (ℕ × (ℕ × ℕ))) × ((in_row (clause_next a hs f) b.count b.next ≡ Some (ts, q)) × Pairs IsFound ts ks) → ClausesPlaces a hs f b r →
          Found r (λ xs. Pairs (λ x k. (u : ℕ) × ClauseOf a hs c f k u x) (listed xs) ks)
      found None d places = let z : ◌≡◌ {A = Option (List (ℕ × (ℕ × ℕ)))} None (Some d.0) = places ∙ ap (option_map (λ x. x.0)) d.1.0 in absurd cc
      found (Some xs) d places =
          let z : ◌≡◌ {A = Option (List (ℕ × (ℕ × ℕ)))} (Some (map clause_told (listed xs))) (Some d.0) = places ∙ ap (option_map (λ x. x.0)) d.1.0 in
          let i : map clause_told (listed xs) ≡ d.0 = cc in
          told_pairs clause_told IsFound (λ x k. (u : ℕ) × ClauseOf a hs c f k u x) (λ x k h. h x refl) (listed xs) ks (subst (λ ts. Pairs IsFound ts ks) (sym i) d.1.1)
