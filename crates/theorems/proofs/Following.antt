-- Following equations one at a time, in any order, finds the least knowledge.
use Rattle.std.proofs.Common.{◌≡◌, ℕ, zero, suc, Bool, true, false, ◌⊎◌, inl, inr, List, [], ◌∷◌, map, length, get_or, Some, None, Option, sym, refl, ap, ◌∙◌, subst, ap₂, arith}
use mathlib.Core.Bool.{false≢true}
use lib.ListN.{length-map}
use Rattle.std.proofs.lemmas.Bool.{and_parts}
use Rattle.definitions.specs.Lists.{at, times}
use Rattle.definitions.specs.Alg.{Alg, Lawful}
use Rattle.definitions.specs.Systems.{Occurrence, Clause, Equation, System}
use Rattle.definitions.specs.Reading.{next}
use Rattle.definitions.specs.ReadSystem.{read_system}
use Rattle.definitions.specs.Constants.{Known, Knowledge, equation_brings, all_bring, Brought, brought, learnt, learnt_all, reached_below, below, unreached, height, least_knowledge}
use Rattle.definitions.specs.Fits.{Every}
use Rattle.theorems.specs.KnowledgeLaws.{arities, Shaped}
use Rattle.theorems.proofs.Sounds.{sound_system}
use Rattle.theorems.proofs.FitShapes.{fits_shaped}
use Rattle.theorems.proofs.Listing.{some_same, every_at}
use Rattle.theorems.proofs.Knows.{Under, same, unknown, Unders, Reached, not_yet, already, Belows, Met, All, to_unders, to_all, all_left, all_right, all_join, equation_down, learnt_under, learnt_all_lem, none_below, least}
use Rattle.theorems.proofs.Stable.{Shape, OfShape, brought_shaped, equation_shaped, learns, learns_all, met_up, none_shaped, from_all, stands}

-- the order by its test
to_reached : (k l : Option Known) → reached_below k l ≡ true → Reached k l
to_reached None l h = not_yet
to_reached (Some xs) None h = absurd (false≢true h)
to_reached (Some xs) (Some ys) h = already (to_unders xs ys h)

pub to_belows : (K L : Knowledge) → below K L ≡ true → Belows K L
to_belows [] [] h = Belows.nil
to_belows [] (l ∷ L) h = absurd (false≢true h)
to_belows (k ∷ K) [] h = absurd (false≢true h)
to_belows (k ∷ K) (l ∷ L) h = let (u, us) = and_parts (reached_below k l) (below K L) h in Belows.cons (to_reached k l u) (to_belows K L us)

-- each below the other: the same
none_only : {x : Option ℕ} → Under None x → None ≡ x
none_only same = refl
none_only unknown = refl

under_same : {x y : Option ℕ} → Under x y → Under y x → x ≡ y
under_same same k = refl
under_same unknown k = sym (none_only k)

unders_same : {xs ys : Known} → Unders xs ys → Unders ys xs → xs ≡ ys
unders_same Unders.nil Unders.nil = refl
unders_same (Unders.cons h hs) (Unders.cons k ks) = ap₂ (λ x xs. x ∷ xs) (under_same h k) (unders_same hs ks)

reached_same : {k l : Option Known} → Reached k l → Reached l k → k ≡ l
reached_same not_yet not_yet = refl
reached_same (already u) (already v) = ap Some (unders_same u v)

belows_same : {K L : Knowledge} → Belows K L → Belows L K → K ≡ L
belows_same Belows.nil Belows.nil = refl
belows_same (Belows.cons h hs) (Belows.cons k ks) = ap₂ (λ x xs. x ∷ xs) (reached_same h k) (belows_same hs ks)

belows_at : {K L : Knowledge} → Belows K L → (i : ℕ) → Reached (get_or K i None) (get_or L i None)
belows_at Belows.nil i = not_yet
belows_at (Belows.cons h hs) zero = h
belows_at (Belows.cons h hs) (suc i) = belows_at hs i

all_up : (bs : List Brought) {K L : Knowledge} → Belows K L → All K bs → All L bs
all_up [] u h = tt
all_up (b ∷ bs) u h = (met_up b.0 b.1 h.0.0 u h.0.1 h.0.2, all_up bs u h.1)

-- what all equations bring, and what each of them does
all_of : (a : Alg) (L : Knowledge) (es : List Equation) (K : Knowledge) → All L (all_bring a es K) → (i : ℕ) (e : Equation) → at es i ≡ Some e → All L (equation_brings a e (get_or K i None))
all_of a L [] K h i e p = absurd cc
all_of a L (x ∷ es) [] h i e p = tt
all_of a L (x ∷ es) (k ∷ K) h zero e p = subst (λ z. All L (equation_brings a z k)) (some_same x e p) (all_left L (equation_brings a x k) (all_bring a es K) h)
all_of a L (x ∷ es) (k ∷ K) h (suc i) e p = all_of a L es K (all_right L (equation_brings a x k) (all_bring a es K) h) i e p

all_from : (a : Alg) (L : Knowledge) (es : List Equation) (K : Knowledge) → ((i : ℕ) (e : Equation) → at es i ≡ Some e → All L (equation_brings a e (get_or K i None))) → All L (all_bring a es K)
all_from a L [] K h = tt
all_from a L (x ∷ es) [] h = tt
all_from a L (x ∷ es) (k ∷ K) h = all_join L (equation_brings a x k) (all_bring a es K) (h zero x refl) (all_from a L es K (λ i e p. h (suc i) e p))

-- the shape of knowledge
pub shape_long : {ns : List ℕ} {K : Knowledge} → Shape ns K → length K ≡ length ns
shape_long Shape.nil = refl
shape_long (Shape.new z) = ap suc (shape_long z)
shape_long (Shape.old ks z) = ap suc (shape_long z)

pub shape_at : {ns : List ℕ} {K : Knowledge} → Shape ns K → (i : ℕ) (ks : Known) → get_or K i None ≡ Some ks → at ns i ≡ Some (length ks)
shape_at Shape.nil i ks e = absurd cc
shape_at (Shape.new z) zero ks e = absurd cc
shape_at (Shape.new z) (suc i) ks e = shape_at z i ks e
shape_at (Shape.old ls z) zero ks e = ap (λ (z : Known). Some (length z)) (some_same ls ks e)
shape_at (Shape.old ls z) (suc i) ks e = shape_at z i ks e

pub shape_of : (ns : List ℕ) (K : Knowledge) → length K ≡ length ns → ((i : ℕ) (ks : Known) → get_or K i None ≡ Some ks → at ns i ≡ Some (length ks)) → Shape ns K
shape_of [] [] e h = Shape.nil
shape_of [] (k ∷ K) e h = absurd (omega arith)
shape_of (n ∷ ns) [] e h = absurd (omega arith)
shape_of (n ∷ ns) (None ∷ K) e h = Shape.new (shape_of ns K (omega arith) (λ i. h (suc i)))
shape_of (n ∷ ns) (Some ks ∷ K) e h =
    subst (λ m. Shape (m ∷ ns) (Some ks ∷ K)) (sym (some_same n (length ks) (h zero ks refl))) (Shape.old ks (shape_of ns K (omega arith) (λ i. h (suc i))))

-- knowledge on the way to the least, where of some equations all that they bring is known
pub record Learning (a : Alg) (s : System) (done : ℕ → Bool) (K : Knowledge) : Type 0 where
  pub shape : Shape (arities s.equations) K
  pub least : Belows K (least_knowledge a s)
  pub start : Met K (s.start, map Some s.values)
  pub followed : (i : ℕ) (e : Equation) → at s.equations i ≡ Some e → done i ≡ true → All K (equation_brings a e (get_or K i None))

module _ (a : Alg) (s : System) (h : Shaped s) where
  abbrev L : Knowledge
  L = least_knowledge a s

  abbrev ns : List ℕ
  ns = arities s.equations

  times_shaped : (n : ℕ) (K : Knowledge) → Shape ns K → Shape ns (times n (λ K. learnt_all K (brought a s K)) K)
  times_shaped zero K z = z
  times_shaped (suc n) K z = times_shaped n (learnt_all K (brought a s K)) (learns_all (brought a s K) z (brought_shaped a s K h)).shape

  long : {K : Knowledge} → Shape ns K → length K ≡ length s.equations
  long z = shape_long z ∙ length-map s.equations (λ (e : Equation). length e.sorts)

  all_met : All L (brought a s L)
  all_met = to_all L (brought a s L) (stands a s h)

  -- the start
  pub learning_begin : (done : ℕ → Bool) → ((i : ℕ) → done i ≡ true → ⊥) → Learning a s done (learnt (unreached s) s.start (map Some s.values))
  learning_begin done n =
      let r = learns s.start (map Some s.values) (none_shaped s.equations) (h.0 ∙ ap Some (sym (length-map s.values Some))) in
      let m = all_met.0 in
      record {
        shape = r.shape;
        least = learnt_under s.start (map Some s.values) m.0 (none_below s.equations L (long (times_shaped (height s) (unreached s) (none_shaped s.equations)))) m.1 m.2;
        start = r.met;
        followed = λ i e p d. absurd (n i d);
      }

  -- one equation more is followed, and others that are still done did not change
  pub learning_next : {done : ℕ → Bool} {K : Knowledge} (i : ℕ) (e : Equation) (ks : Known) (then : ℕ → Bool) → Learning a s done K → at s.equations i ≡ Some e → get_or K i None ≡ Some ks →
      ((j : ℕ) → then j ≡ true → (get_or (learnt_all K (equation_brings a e (Some ks))) j None ≡ get_or K j None) × ((j ≡ i) ⊎ (done j ≡ true))) →
      Learning a s then (learnt_all K (equation_brings a e (Some ks)))
  learning_next {done} {K} i e ks then l p q keeps =
      let bs = equation_brings a e (Some ks) in
      let fine = every_at (λ (e : Equation). Every (λ (c : Clause). Every (λ (o : Occurrence). at ns o.target ≡ Some (length o.arguments)) c.occurrences) e.clauses) s.equations i e p h.1 in
      let r = learns_all bs l.shape (equation_shaped a ns e (Some ks) fine) in
      let low = equation_down a L e (belows_at l.least i) (all_of a L s.equations L all_met.1 i e p) in
      record {
        shape = r.shape;
        least = learnt_all_lem bs l.least (subst (λ z. All L (equation_brings a e z)) q low);
        start = met_up s.start (map Some s.values) l.start.0 r.up l.start.1 l.start.2;
        followed = λ j x u d. let k = keeps j d in go j x u k.0 k.1 r.up r.met;
      }
    where
      go : (j : ℕ) (x : Equation) → at s.equations j ≡ Some x → get_or (learnt_all K (equation_brings a e (Some ks))) j None ≡ get_or K j None → (j ≡ i) ⊎ (done j ≡ true) →
          Belows K (learnt_all K (equation_brings a e (Some ks))) → All (learnt_all K (equation_brings a e (Some ks))) (equation_brings a e (Some ks)) →
          All (learnt_all K (equation_brings a e (Some ks))) (equation_brings a x (get_or (learnt_all K (equation_brings a e (Some ks))) j None))
      go j x u k (inl c) up met =
          let N = learnt_all K (equation_brings a e (Some ks)) in
          let ex : e ≡ x = some_same e x (sym p ∙ ap (at s.equations) (sym c) ∙ u) in
          let ek : Some ks ≡ get_or N j None = sym q ∙ ap (λ m. get_or K m None) (sym c) ∙ sym k in
          subst (λ y. All N (equation_brings a y (get_or N j None))) ex (subst (λ z. All N (equation_brings a e z)) ek met)
      go j x u k (inr d) up met =
          let N = learnt_all K (equation_brings a e (Some ks)) in
          subst (λ z. All N (equation_brings a x z)) (sym k) (all_up (equation_brings a x (get_or K j None)) up (l.followed j x u d))

  -- once nothing is left to be followed
  pub learning_end : {done : ℕ → Bool} {K : Knowledge} → Learning a s done K → ((i : ℕ) (e : Equation) → at s.equations i ≡ Some e → done i ≡ false → get_or K i None ≡ None) → K ≡ least_knowledge a s
  learning_end {done} {K} l n =
      let m : All K (brought a s K) = (l.start, all_from a K s.equations K (λ i e p. go i e p (done i) refl)) in
      belows_same l.least (to_belows L K (least a s K (long l.shape) (from_all K (brought a s K) m)))
    where
      go : (i : ℕ) (e : Equation) → at s.equations i ≡ Some e → (b : Bool) → done i ≡ b → All K (equation_brings a e (get_or K i None))
      go i e p true d = l.followed i e p d
      go i e p false d = subst (λ z. All K (equation_brings a e z)) (sym (n i e p d)) tt

-- a system that is read is shaped
pub read_shaped : (a : Alg) → Lawful a → (f : List ℕ) (s : System) (q : ℕ) → read_system a f 0 ≡ next s q → Shaped s
read_shaped a law f s q e = fits_shaped a s ((sound_system f a law).run 0 (omega arith) s q e).fact.1

-- what an equation of a system brings has the right shape
pub brings_shaped : (a : Alg) (s : System) → Shaped s → (i : ℕ) (e : Equation) (k : Option Known) → at s.equations i ≡ Some e → OfShape (arities s.equations) (equation_brings a e k)
brings_shaped a s h i e k p =
    equation_shaped a (arities s.equations) e k
    (every_at (λ (e : Equation). Every (λ (c : Clause). Every (λ (o : Occurrence). at (arities s.equations) o.target ≡ Some (length o.arguments)) c.occurrences) e.clauses) s.equations i e p h.1)
