-- Expanding: the file written is read back, its first variable has the verdict, and it is declined exactly where the instances or the bytes are too many.
use Rattle.faults.specs.declared.ExpandFault.{ExpandFault}
use Rattle.faults.specs.declared.ExpandFault.TheVariants.{Refused}
use Rattle.faults.specs.declared.Reason.TheVariants.{TooManyInstances, BooleanTooLong}
use Rattle.std.proofs.Common.{◌≡◌, ℕ, zero, suc, ◌<◌, ◌≤◌, Bool, true, false, ◌&&◌, leb, List, [], ◌∷◌, map, length, Some, None, Option, sym, refl, ap, ◌∙◌, subst, arith}
use lib.ListN.{length-map}
use Rattle.std.proofs.lemmas.Bool.{leb-true, leb-false}
use Rattle.definitions.specs.Alg.{Alg, Lawful}
use Rattle.definitions.specs.Systems.{System}
use Rattle.definitions.specs.Lists.{at, up_to}
use Rattle.definitions.specs.Algebras.{truth}
use Rattle.definitions.specs.Reading.{got}
use Rattle.definitions.specs.Boolean.{comes, Variable, variable_of, expanded, solves, Expanded, made, refused, shipped, boolean_written, boolean_reading}
use Rattle.definitions.specs.Fits.{Every, SystemFits}
use Rattle.theorems.specs.ExpandLaws.{Expands, VariablesAreReachedInstances, variable_truths, ExpansionFits, Ships, ExpansionReadAndSolved, Many, Declines, ExpandDeclinedRightly, ExpandObeyedRightly}
use Rattle.definitions.specs.FileFits.{BooleanFits}
use Rattle.definitions.specs.Reach.{ReachedInstance}
use Rattle.theorems.proofs.Listing.{none_some, some_same, every_at, and_left, and_right}
use Rattle.theorems.specs.PassLaws.{InRange}
use Rattle.theorems.proofs.Tokens.{start_fits, tokens_fit}
use Rattle.theorems.proofs.Numbers.{complete, comes_keep, comes_distinct, one_distinct, tokens_reached}
use Rattle.theorems.proofs.Expands.{expands}
use Rattle.theorems.proofs.Shapes.{variables_fit}
use Rattle.theorems.proofs.BooleanBack.{boolean_back}

module _ (a : Alg) (law : Lawful a) (s : System) (fits : SystemFits a s) where
  pub all_fit : (n : ℕ) → Every (InRange a s) (comes n a s 0 ((s.start, s.values) ∷ []))
  all_fit n = comes_keep a s (InRange a s) (tokens_fit a law s fits) n 0 ((s.start, s.values) ∷ []) (start_fits a law s fits, tt)

  by_count : (n : ℕ) (vs : List Variable) (b : Bool) → leb (length (comes n a s 0 ((s.start, s.values) ∷ []))) n ≡ b →
      ◌≡◌ {A = Option (List Variable)} (elim b [ true ↦ Some (map (variable_of a s (comes n a s 0 ((s.start, s.values) ∷ []))) (comes n a s 0 ((s.start, s.values) ∷ []))) | false ↦ None ]) (Some vs) →
      Expands a s vs
  by_count n vs true l e =
      subst (Expands a s) (some_same _ vs e)
      (expands a law s fits (comes n a s 0 ((s.start, s.values) ∷ [])) (complete a s n (leb-true (length (comes n a s 0 ((s.start, s.values) ∷ []))) n l)) (all_fit n))
  by_count n vs false l e = none_some vs e

  fits_by_count : (n : ℕ) (vs : List Variable) (b : Bool) → n ≤ 4096 → leb (length (comes n a s 0 ((s.start, s.values) ∷ []))) n ≡ b →
      ◌≡◌ {A = Option (List Variable)} (elim b [ true ↦ Some (map (variable_of a s (comes n a s 0 ((s.start, s.values) ∷ []))) (comes n a s 0 ((s.start, s.values) ∷ []))) | false ↦ None ]) (Some vs) →
      BooleanFits vs
  fits_by_count n vs true u l e =
      let k : length (comes n a s 0 ((s.start, s.values) ∷ [])) ≤ n = leb-true (length (comes n a s 0 ((s.start, s.values) ∷ []))) n l in
      subst BooleanFits (some_same _ vs e)
      (variables_fit a law s fits (comes n a s 0 ((s.start, s.values) ∷ [])) (complete a s n k) (all_fit n) (omega arith))
  fits_by_count n vs false u l e = none_some vs e

pub expand_keeps : VariablesAreReachedInstances
expand_keeps a law s fits vs e = by_count a law s fits 4096 vs _ refl e

pub expand_fits : ExpansionFits
expand_fits a law s fits vs e = fits_by_count a law s fits 4096 vs _ (omega arith) refl e

-- the count and the bytes
pub record Shipped (places room : ℕ) (vs : List Variable) (g : List ℕ) (n : ℕ) : Type 0 where
  pub file : g ≡ boolean_written vs
  pub long : length vs ≡ n
  pub placed : length vs ≤ places
  pub roomy : length (boolean_written vs) ≤ room
  pub short : length (boolean_written vs) ≤ 65535

shipping : (places room : ℕ) (vs : List Variable) (g : List ℕ) (n : ℕ) (h : List ℕ) → h ≡ boolean_written vs → (b c : Bool) → leb (length vs) places ≡ b → (leb (length h) room && leb (length h) 65535) ≡ c →
    elim b [ true ↦ elim c [ true ↦ made h (length vs) | false ↦ refused (Refused BooleanTooLong) ] | false ↦ refused (Refused TooManyInstances) ] ≡ made g n → Shipped places room vs g n
shipping places room vs g n h w true true m q e =
    let u : h ≡ g = cc in
    let k : length vs ≡ n = cc in
    record {
      file = sym u ∙ w;
      long = k;
      placed = leb-true (length vs) places m;
      roomy = subst (λ (z : List ℕ). length z ≤ room) w (leb-true (length h) room (and_left (leb (length h) room) (leb (length h) 65535) q));
      short = subst (λ (z : List ℕ). length z ≤ 65535) w (leb-true (length h) 65535 (and_right (leb (length h) room) (leb (length h) 65535) q));
    }
shipping places room vs g n h w true false m q e = absurd cc
shipping places room vs g n h w false c m q e = absurd cc

solved_first : (vs : List Variable) → 1 ≤ length vs → at (solves vs) 0 ≡ Some (truth (variable_truths vs 0))
solved_first vs h = go (length vs) h
  where
    go : (n : ℕ) → 1 ≤ n → at (map (λ j. truth (variable_truths vs j)) (up_to n)) 0 ≡ Some (truth (variable_truths vs 0))
    go zero l = absurd (omega arith)
    go (suc n) l = refl

pub expand_ships : ExpansionReadAndSolved
expand_ships a law s fits places room g n e = go (expanded a s) refl e
  where
    go : (o : Option (List Variable)) → expanded a s ≡ o → elim o [ None ↦ refused (Refused TooManyInstances) | Some vs ↦ shipped places room vs ] ≡ made g n → Ships a s places room g n
    go None w k = absurd cc
    go (Some vs) w k =
        let h = expand_keeps a law s fits vs w in
        let f = expand_fits a law s fits vs w in
        let m = shipping places room vs g n (boolean_written vs) refl (leb (length vs) places) (leb (length (boolean_written vs)) room && leb (length (boolean_written vs)) 65535) refl refl k in
        record {
          variables = vs;
          expands = h;
          fits = f;
          long = m.long;
          placed = subst (λ z. z ≤ places) m.long m.placed;
          file = m.file;
          roomy = subst (λ (z : List ℕ). length z ≤ room) (sym m.file) m.roomy;
          short = subst (λ (z : List ℕ). length z ≤ 65535) (sym m.file) m.short;
          read = subst (λ z. boolean_reading z ≡ got vs) (sym m.file) (boolean_back vs f m.short);
          solved = solved_first vs f.some ∙ ap (λ (b : Bool). Some (truth b)) h.verdict;
        }

-- declined
same_reason : (a : Alg) (s : System) (places room : ℕ) (r r' : ExpandFault) → ◌≡◌ {A = Expanded} (refused r) (refused r') → Declines a s places room r → Declines a s places room r'
same_reason a s places room r r' e d = let u : r ≡ r' = cc in subst (Declines a s places room) u d

module _ (a : Alg) (s : System) where
  -- all that have come are reached, and distinct
  come_many : (n m : ℕ) → m < length (comes n a s 0 ((s.start, s.values) ∷ [])) → Many a s m
  come_many n m h =
      record {
        instances = comes n a s 0 ((s.start, s.values) ∷ []);
        only = λ k x e. every_at (ReachedInstance a s) (comes n a s 0 ((s.start, s.values) ∷ [])) k x e (comes_keep a s (ReachedInstance a s) (tokens_reached a s) n 0 ((s.start, s.values) ∷ []) (ReachedInstance.start, tt));
        once = comes_distinct a s n 0 ((s.start, s.values) ∷ []) (one_distinct a s (s.start, s.values));
        many = h;
      }

  none_many : (n : ℕ) (b : Bool) → leb (length (comes n a s 0 ((s.start, s.values) ∷ []))) n ≡ b →
      ◌≡◌ {A = Option (List Variable)} (elim b [ true ↦ Some (map (variable_of a s (comes n a s 0 ((s.start, s.values) ∷ []))) (comes n a s 0 ((s.start, s.values) ∷ []))) | false ↦ None ]) None → Many a s n
  none_many n true l e = none_some _ (sym e)
  none_many n false l e = come_many n n (leb-false (length (comes n a s 0 ((s.start, s.values) ∷ []))) n l)

  some_many : (n m : ℕ) (vs : List Variable) (b : Bool) → m < length vs →
      ◌≡◌ {A = Option (List Variable)} (elim b [ true ↦ Some (map (variable_of a s (comes n a s 0 ((s.start, s.values) ∷ []))) (comes n a s 0 ((s.start, s.values) ∷ []))) | false ↦ None ]) (Some vs) → Many a s m
  some_many n m vs true h e =
      come_many n m (subst (λ k. m < k) (sym (ap length (some_same _ vs e)) ∙ length-map (comes n a s 0 ((s.start, s.values) ∷ [])) (variable_of a s (comes n a s 0 ((s.start, s.values) ∷ [])))) h)
  some_many n m vs false h e = none_some vs e

  declining : (places room : ℕ) (vs : List Variable) → expanded a s ≡ Some vs → (r : ExpandFault) (b c : Bool) → leb (length vs) places ≡ b →
      (leb (length (boolean_written vs)) room && leb (length (boolean_written vs)) 65535) ≡ c →
      elim b [ true ↦ elim c [ true ↦ made (boolean_written vs) (length vs) | false ↦ refused (Refused BooleanTooLong) ] | false ↦ refused (Refused TooManyInstances) ] ≡ refused r → Declines a s places room r
  declining places room vs w r true true m q e = absurd cc
  declining places room vs w r true false m q e = same_reason a s places room (Refused BooleanTooLong) r e (go (leb (length (boolean_written vs)) room) refl q)
    where
      go : (d : Bool) → leb (length (boolean_written vs)) room ≡ d → (d && leb (length (boolean_written vs)) 65535) ≡ false → Declines a s places room (Refused BooleanTooLong)
      go true y z = Declines.too_long vs w (leb-true (length vs) places m) (leb-false (length (boolean_written vs)) 65535 z)
      go false y z = Declines.no_room vs w (leb-true (length vs) places m) (leb-false (length (boolean_written vs)) room y)
  declining places room vs w r false c m q e = same_reason a s places room (Refused TooManyInstances) r e (Declines.no_place (some_many 4096 places vs _ (leb-false (length vs) places m) w))

pub expand_declines : ExpandDeclinedRightly
expand_declines a s places room r e = go (expanded a s) refl e
  where
    go : (o : Option (List Variable)) → expanded a s ≡ o → elim o [ None ↦ refused (Refused TooManyInstances) | Some vs ↦ shipped places room vs ] ≡ refused r → Declines a s places room r
    go None w k = same_reason a s places room (Refused TooManyInstances) r k (Declines.too_many (none_many a s 4096 _ refl w))
    go (Some vs) w k =
        declining a s places room vs w r (leb (length vs) places) (leb (length (boolean_written vs)) room && leb (length (boolean_written vs)) 65535) refl refl k

-- obeyed only where the instances are few
without : {A : Type 0} → ℕ → List A → List A
without k [] = []
without zero (y ∷ ys) = ys
without (suc k) (y ∷ ys) = y ∷ without k ys

without_long : {A : Type 0} (ys : List A) (k : ℕ) (y : A) → at ys k ≡ Some y → suc (length (without k ys)) ≡ length ys
unfolding without
without_long [] k y e = none_some y e
without_long (z ∷ ys) zero y e = refl
without_long (z ∷ ys) (suc k) y e = ap suc (without_long ys k y e)

without_has : {A : Type 0} (ys : List A) (k j : ℕ) (y : A) → at ys j ≡ Some y → (j ≡ k → ⊥) → (i : ℕ) × (at (without k ys) i ≡ Some y)
unfolding without
without_has [] k j y e d = none_some y e
without_has (z ∷ ys) zero zero y e d = absurd (d refl)
without_has (z ∷ ys) zero (suc j) y e d = (j, e)
without_has (z ∷ ys) (suc k) zero y e d = (0, e)
without_has (z ∷ ys) (suc k) (suc j) y e d = let (i, p) = without_has ys k j y e (λ q. d (ap suc q)) in (suc i, p)

-- distinct members that all stand in another list are no more than it has
pub pigeons : {A : Type 0} (xs ys : List A) → ((i j : ℕ) (x : A) → at xs i ≡ Some x → at xs j ≡ Some x → i ≡ j) →
    ((i : ℕ) (x : A) → at xs i ≡ Some x → (k : ℕ) × (at ys k ≡ Some x)) → length xs ≤ length ys
pigeons [] ys once has = omega arith
pigeons {A} (x ∷ xs) ys once has =
    let (k, p) = has 0 x refl in
    omega (arith, without_long ys k x p, pigeons xs (without k ys) (λ i j y e f. suc_same (once (suc i) (suc j) y e f)) (rest k p))
  where
    suc_same : {i j : ℕ} → suc i ≡ suc j → i ≡ j
    suc_same e = omega arith

    rest : (k : ℕ) → at ys k ≡ Some x → (i : ℕ) (y : A) → at xs i ≡ Some y → (j : ℕ) × (at (without k ys) j ≡ Some y)
    rest k p i y e =
        let (j, q) = has (suc i) y e in
        without_has ys k j y q (λ w. let same : y ≡ x = some_same y x (sym q ∙ ap (at ys) w ∙ p) in
        let z : suc i ≡ 0 = once (suc i) 0 x (e ∙ ap Some same) refl in omega arith)

not_many : (a : Alg) (s : System) (vs : List Variable) → Expands a s vs → (n : ℕ) → length vs ≤ n → Many a s n → ⊥
not_many a s vs h n l m =
    omega (
      arith,
      l,
      m.many,
      pigeons m.instances h.instances m.once (λ i x e. h.every x (m.only i x e)),
      ap length h.variables,
      length-map h.instances (variable_of a s h.instances),
    )

pub expand_few : ExpandObeyedRightly
expand_few a law s fits places room g n e =
    let h = expand_ships a law s fits places room g n e in
    record {
      few = not_many a s h.variables h.expands 4096 h.fits.few;
      placed = not_many a s h.variables h.expands places (subst (λ k. k ≤ places) (sym h.long) h.placed);
    }
