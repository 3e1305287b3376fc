-- The pass U keeps the truth of every instance of a reached equation, so the verdict, and what it writes fits.
use Rattle.std.proofs.Common.{◌≡◌, ℕ, zero, suc, ◌+◌, ◌<◌, ◌≤◌, Bool, true, false, ◌&&◌, ◌||◌, eqb, List, [], ◌∷◌, map, length, get_or, Some, sym, refl, ap, ◌∙◌, subst, true≢false, zero-add, arith}
use mathlib.Core.Bool.{false≢true}
use lib.ListN.{length-map}
use Rattle.std.proofs.lemmas.Bool.{or_left, or_right, eq-eqb, eqb-true, ne_eqb}
use Rattle.definitions.specs.Lists.{at, map_from, strike, place, some, up_to}
use Rattle.definitions.specs.Alg.{Alg, within}
use Rattle.definitions.specs.Systems.{Occurrence, Clause, Equation, System}
use Rattle.definitions.specs.ReadSystem.{Header, scope}
use Rattle.definitions.specs.Fits.{Every, header_of, HeaderFits, OccurrenceFits, ClauseFits, BodyFits, SystemFits}
use Rattle.definitions.specs.Truth.{Instance, sizes_of, meant, clause_holds, inside_holds, equation_holds, body, block_of, truths, verdict}
use Rattle.definitions.specs.Passes.{calls, chained, reachable, renamed, pass_u}
use Rattle.fixpoint.specs.Laws.{Agree, Matched}
use Rattle.theorems.proofs.Listing.{every_map, each_map, some_map, some_same, none_some, every_mapped, every_at, every_two, at_map_some, at_mapped, strike_short, every_unmapped, from_long, at_lt}
use Rattle.theorems.proofs.Monotone.{equals, each_is, some_is, under_is, clause_is, inside_is}
use Rattle.theorems.proofs.Blocks.{truths_agree}
use Rattle.theorems.proofs.Refit.{strike_at, place_low, strike_every}
use Rattle.theorems.proofs.Closing.{closes}
use Rattle.theorems.proofs.Marks.{from_mem, true_low, pick_left, pick_right, strike_up, row_up, get_or_from, some_each, some_flat, or_up}

-- some of what a mask keeps
pub strike_some : {A : Type 0} (p : A → Bool) (ms : List Bool) (xs : List A) (n : ℕ) (x : A) → get_or ms n false ≡ true → at xs n ≡ Some x → p x ≡ true → some p (strike ms xs) ≡ true
strike_some p [] xs n x h e k = absurd (false≢true h)
strike_some p (m ∷ ms) [] n x h e k = absurd (none_some x e)
strike_some p (true ∷ ms) (y ∷ xs) zero x h e k = pick_left (p y) (some p (strike ms xs)) (ap p (some_same y x e) ∙ k)
strike_some p (true ∷ ms) (y ∷ xs) (suc n) x h e k = pick_right (p y) (some p (strike ms xs)) (strike_some p ms xs n x h e k)
strike_some p (false ∷ ms) (y ∷ xs) zero x h e k = absurd (false≢true h)
strike_some p (false ∷ ms) (y ∷ xs) (suc n) x h e k = strike_some p ms xs n x h e k

module _ (s : System) where
  abbrev bit : List Bool → ℕ → Bool
  bit m j = get_or m j false

  chained_up : (M N : List Bool) → ((j : ℕ) → bit M j ≡ true → bit N j ≡ true) → (j : ℕ) → bit (chained s M) j ≡ true → bit (chained s N) j ≡ true
  chained_up M N h =
      row_up (λ j. eqb j s.start || some (calls j) (strike M s.equations)) (λ j. eqb j s.start || some (calls j) (strike N s.equations))
      (λ j. or_up (eqb j s.start) (some (calls j) (strike M s.equations)) (some (calls j) (strike N s.equations)) (strike_up (calls j) M N s.equations h))
      (up_to (length s.equations))

  reachable_closed : (j : ℕ) → bit (chained s (reachable s)) j ≡ true → bit (reachable s) j ≡ true
  reachable_closed =
      closes bit (chained s) [] chained_up (λ x e. false≢true e) (up_to (length s.equations))
      (λ M j h. from_mem 0 (length s.equations) j (omega arith)
      (omega (
        arith,
        true_low (chained s M) j h,
        length-map (up_to (length s.equations)) (λ j. eqb j s.start || some (calls j) (strike M s.equations)),
        from_long 0 (length s.equations),
      )))
      (length s.equations) (omega (arith, from_long 0 (length s.equations)))

  pub reached_closed : (j : ℕ) → j < length s.equations → (eqb j s.start || some (calls j) (strike (reachable s) s.equations)) ≡ true → bit (reachable s) j ≡ true
  reached_closed j l h =
      reachable_closed j
      (get_or_from (λ j. eqb j s.start || some (calls j) (strike (reachable s) s.equations)) 0 (length s.equations) j l ∙
      ap (λ z. eqb z s.start || some (calls z) (strike (reachable s) s.equations)) (zero-add j) ∙ h)

  pub start_reached : s.start < length s.equations → bit (reachable s) s.start ≡ true
  start_reached l = reached_closed s.start l (or_left (eqb s.start s.start) _ (eq-eqb s.start s.start refl))

  -- a reached equation reaches what it calls
  pub call_reached : (i : ℕ) (e : Equation) → at s.equations i ≡ Some e → bit (reachable s) i ≡ true →
      Every (λ (c : Clause). Every (λ (o : Occurrence). o.target < length s.equations → bit (reachable s) o.target ≡ true) c.occurrences) e.clauses
  call_reached i e p h =
      every_map e.clauses
      (λ c f. every_map c.occurrences
      (λ o g l. reached_closed o.target l (or_right (eqb o.target s.start) _
      (strike_some (calls o.target) (reachable s) s.equations i e h p (f o.target (g o.target (eq-eqb o.target o.target refl))))))
      (some_each (λ j (o : Occurrence). eqb o.target j) c.occurrences))
      (some_flat (λ j (o : Occurrence). eqb o.target j) (λ (c : Clause). c.occurrences) e.clauses)

place_one : (ms : List Bool) (i j : ℕ) → get_or ms i false ≡ true → get_or ms j false ≡ true → place ms i ≡ place ms j → i ≡ j
place_one [] i j h k e = absurd (false≢true h)
place_one (true ∷ ms) zero zero h k e = refl
place_one (true ∷ ms) zero (suc j) h k e = absurd (omega arith)
place_one (true ∷ ms) (suc i) zero h k e = absurd (omega arith)
place_one (true ∷ ms) (suc i) (suc j) h k e = ap suc (place_one ms i j h k (omega arith))
place_one (false ∷ ms) zero j h k e = absurd (false≢true h)
place_one (false ∷ ms) (suc i) zero h k e = absurd (false≢true k)
place_one (false ∷ ms) (suc i) (suc j) h k e = ap suc (place_one ms i j h k e)

module _ (a : Alg) (s : System) (fit : SystemFits a s) where
  abbrev mask : List Bool
  mask = reachable s

  -- an instance of a reached equation, and the same with the new number
  record Renamed (x y : Instance) : Type 0 where
    equation : Equation
    there : at s.equations x.0 ≡ Some equation
    kept : get_or mask x.0 false ≡ true
    left : y ≡ (place mask x.0, x.1)

  abbrev rename_occurrence : Occurrence → Occurrence
  rename_occurrence o = record { target = place mask o.target; arguments = o.arguments }

  abbrev rename_clause : Clause → Clause
  rename_clause c = record { guard = c.guard; occurrences = map rename_occurrence c.occurrences }

  header_low : (j : ℕ) (h : Header) → at (map header_of s.equations) j ≡ Some h → j < length s.equations
  header_low j h p = let (q, eq, eh) = at_map_some header_of s.equations j h p in at_lt s.equations j q eq

  bodies : (f g : Instance → Bool) → Agree (λ p q. p ≡ q) Renamed f g → Agree (λ p q. p ≡ q) Renamed (body a s f) (body a (pass_u a s) g)
  bodies f g h x y r =
      ap (λ z. equation_holds a f z x.1) r.there ∙
      under_is equals a e.quantified [] (inside_holds a f e x.1) (inside_holds a g (renamed (place mask) e) x.1) (λ vs _.
      inside_is equals a f g x.1 x.1 vs e (renamed (place mask) e) refl (λ _.
      each_is equals (clause_holds a f x.1 vs) (λ c. clause_holds a g x.1 vs (rename_clause c)) e.clauses
      (every_two e.clauses (λ c b k.
      clause_is equals a f g x.1 x.1 vs c (rename_clause c) refl (λ _.
      some_is equals (λ o. f (meant a x.1 vs o)) (λ o. g (meant a x.1 vs (rename_occurrence o))) c.occurrences
      (every_two c.occurrences (λ o d m.
      let (q, eq, eh) = at_map_some header_of s.equations o.target d.header d.there in
      h (meant a x.1 vs o) (meant a x.1 vs (rename_occurrence o))
      (record { equation = q; there = eq; kept = m (at_lt s.equations o.target q eq); left = refl })) b.fit k) ∙
      sym (some_map (λ o. g (meant a x.1 vs o)) rename_occurrence c.occurrences)))
      (every_at (BodyFits a (map header_of s.equations)) s.equations x.0 e r.there fit.bodies).fit
      (call_reached s x.0 e r.there r.kept)) ∙
      sym (each_map (clause_holds a g x.1 vs) rename_clause e.clauses))) ∙
      sym (ap (λ (z : Instance). body a (pass_u a s) g z) r.left ∙
      ap (λ z. equation_holds a g z x.1)
      (at_mapped (renamed (place mask)) (strike mask s.equations) (place mask x.0) e (strike_at mask x.0 s.equations e r.kept r.there)))
    where
      e : Equation
      e = r.equation

  kept_same : (x y : Instance) (k k' : ℕ) (ns : List ℕ) → Renamed x y → get_or mask k false ≡ true → place mask k ≡ k' →
      (eqb x.0 k && within ns x.1) ≡ (eqb y.0 k' && within ns y.1)
  kept_same x y k k' ns r h e =
      subst (λ (z : Instance). (eqb x.0 k && within ns x.1) ≡ (eqb z.0 k' && within ns z.1)) (sym r.left)
      (ap (λ z. z && within ns x.1) (go (eqb x.0 k) refl))
    where
      go : (b : Bool) → eqb x.0 k ≡ b → eqb x.0 k ≡ eqb (place mask x.0) k'
      go true p = p ∙ sym (eq-eqb (place mask x.0) k' (ap (place mask) (eqb-true x.0 k p) ∙ e))
      go false p =
          p ∙ sym (ne_eqb (place mask x.0) k' (λ q. true≢false
          (sym (eq-eqb x.0 k (place_one mask x.0 k r.kept h (q ∙ sym e))) ∙ p)))

  lost : (x y : Instance) (k : ℕ) (ns : List ℕ) → Renamed x y → get_or mask k false ≡ false → (eqb x.0 k && within ns x.1) ≡ false
  lost x y k ns r h =
      ap (λ z. z && within ns x.1) (ne_eqb x.0 k (λ e. true≢false (sym r.kept ∙ ap (λ z. get_or mask z false) e ∙ h)))

  matched : (k k' : ℕ) (ms : List Bool) (es : List Equation) → ((j : ℕ) → get_or mask (k + j) false ≡ get_or ms j false) →
      ((j : ℕ) → get_or ms j false ≡ true → place mask (k + j) ≡ k' + place ms j) →
      Matched Renamed (map_from k (block_of a) es) (map_from k' (block_of a) (map (renamed (place mask)) (strike ms es)))
  matched k k' [] [] h p = Matched.done
  matched k k' (m ∷ ms) [] h p = Matched.done
  matched k k' [] (e ∷ es) h p =
      Matched.left (λ x y r. lost x y k (sizes_of a e) r (ap (λ z. get_or mask z false) (omega arith) ∙ h 0))
      (matched (suc k) k' [] es (λ j. ap (λ z. get_or mask z false) (omega arith) ∙ h (suc j)) (λ j q. absurd (false≢true q)))
  matched k k' (false ∷ ms) (e ∷ es) h p =
      Matched.left (λ x y r. lost x y k (sizes_of a e) r (ap (λ z. get_or mask z false) (omega arith) ∙ h 0))
      (matched (suc k) k' ms es (λ j. ap (λ z. get_or mask z false) (omega arith) ∙ h (suc j)) (λ j q. ap (place mask) (omega arith) ∙ p (suc j) q))
  matched k k' (true ∷ ms) (e ∷ es) h p =
      Matched.both refl
      (λ x y r. kept_same x y k k' (sizes_of a e) r (ap (λ z. get_or mask z false) (omega arith) ∙ h 0) (ap (place mask) (omega arith) ∙ p 0 refl ∙ omega arith))
      (matched (suc k) (suc k') ms es (λ j. ap (λ z. get_or mask z false) (omega arith) ∙ h (suc j))
      (λ j q. ap (place mask) (omega arith) ∙ p (suc j) q ∙ omega arith))

  start_kept : get_or mask s.start false ≡ true
  start_kept = start_reached s (header_low s.start fit.header fit.there)

  -- an instance of a reached equation keeps its truth
  pub truth_kept : (x : Instance) (e : Equation) → at s.equations x.0 ≡ Some e → get_or mask x.0 false ≡ true → truths a (pass_u a s) (place mask x.0, x.1) ≡ truths a s x
  truth_kept x e p k =
      sym (truths_agree a s (pass_u a s) Renamed
      (matched 0 0 mask s.equations (λ j. ap (λ z. get_or mask z false) (zero-add j)) (λ j q. ap (place mask) (zero-add j) ∙ sym (zero-add (place mask j))))
      bodies x (place mask x.0, x.1) (record { equation = e; there = p; kept = k; left = refl }))

  pub keeps : verdict a (pass_u a s) ≡ verdict a s
  keeps =
      let (q, eq, eh) = at_map_some header_of s.equations s.start fit.header fit.there in
      truth_kept (s.start, s.values) q eq start_kept

  -- what it writes fits
  abbrev them : List Equation
  them = map (renamed (place mask)) (strike mask s.equations)

  header_at : (j : ℕ) (h : Header) → at (map header_of s.equations) j ≡ Some h → get_or mask j false ≡ true → at (map header_of them) (place mask j) ≡ Some h
  header_at j h p k =
      let (q, eq, eh) = at_map_some header_of s.equations j h p in
      at_mapped header_of them (place mask j) (renamed (place mask) q)
      (at_mapped (renamed (place mask)) (strike mask s.equations) (place mask j) q (strike_at mask j s.equations q k eq)) ∙ ap Some eh

  body_fits : (j : ℕ) (e : Equation) → at s.equations j ≡ Some e → get_or mask j false ≡ true → BodyFits a (map header_of s.equations) e → BodyFits a (map header_of them) (renamed (place mask) e)
  body_fits j e p k b =
      record {
        h = b.h;
        few = subst (λ n. n < 16) (sym (length-map e.clauses rename_clause)) b.few;
        fit = every_mapped (ClauseFits a (map header_of them) (scope (header_of e))) rename_clause e.clauses
            (every_two e.clauses (λ c f m.
            record {
              guard = f.guard;
              some = subst (λ n. 1 ≤ n) (sym (length-map c.occurrences rename_occurrence)) f.some;
              few = subst (λ n. n ≤ 8) (sym (length-map c.occurrences rename_occurrence)) f.few;
              fit = every_mapped (OccurrenceFits a (map header_of them) (scope (header_of e))) rename_occurrence c.occurrences
                  (every_two c.occurrences (λ o d r.
                  record {
                    small = omega (arith, d.small, place_low mask o.target);
                    header = d.header;
                    there = header_at o.target d.header d.there (r (header_low o.target d.header d.there));
                    fit = d.fit;
                  }) f.fit m);
            }) b.fit (call_reached s j e p k));
      }

  strike_every_at : (P : Equation → Type 0) (Q : Equation → Type 0) (ms : List Bool) (xs : List Equation) →
      ((j : ℕ) (x : Equation) → at xs j ≡ Some x → get_or ms j false ≡ true → P x → Q x) → Every P xs → Every Q (strike ms xs)
  strike_every_at P Q [] xs h p = tt
  strike_every_at P Q (true ∷ ms) [] h p = tt
  strike_every_at P Q (false ∷ ms) [] h p = tt
  strike_every_at P Q (true ∷ ms) (x ∷ xs) h p = (h 0 x refl refl p.0, strike_every_at P Q ms xs (λ j. h (suc j)) p.1)
  strike_every_at P Q (false ∷ ms) (x ∷ xs) h p = strike_every_at P Q ms xs (λ j. h (suc j)) p.1

  pub fits : SystemFits a (pass_u a s)
  fits =
      let start_there = header_at s.start fit.header fit.there start_kept in
      record {
        some = omega (arith, at_lt (map header_of them) (place mask s.start) fit.header start_there, length-map them header_of);
        few = omega (arith, fit.few, strike_short mask s.equations, length-map (strike mask s.equations) (renamed (place mask)));
        headers = every_mapped (HeaderFits a) header_of them
            (every_mapped (λ e. HeaderFits a (header_of e)) (renamed (place mask)) (strike mask s.equations)
            (strike_every (λ e. HeaderFits a (header_of e)) mask s.equations (every_unmapped (HeaderFits a) header_of s.equations fit.headers)));
        bodies = every_mapped (BodyFits a (map header_of them)) (renamed (place mask)) (strike mask s.equations)
            (strike_every_at (BodyFits a (map header_of s.equations)) (λ e. BodyFits a (map header_of them) (renamed (place mask) e)) mask s.equations body_fits fit.bodies);
        small = omega (arith, fit.small, place_low mask s.start);
        header = fit.header;
        there = start_there;
        values = fit.values;
      }
