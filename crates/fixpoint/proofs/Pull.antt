-- Nested formulas pulled out into equations of their own.
use Prim.Native.Nat.{◌≤◌, ◌*◌}
use mathlib.Core.Path.{◌≡◌, refl, sym, ◌∙◌, ap, subst, fun_ext}
use mathlib.Core.Bool.{Bool, true, false, false≢true}
use mathlib.Core.List.Memᴰ
use mathlib.Core.List.{List, [], ◌∷◌, ◌++◌, map, Memᴰ}
use mathlib.Core.Logic.{◌⊎◌, inl, inr}
use lib.ListN.{length-map}
use Rattle.definitions.specs.Solution.{Block}
use Rattle.definitions.specs.Order.{Order, Enough}
use Rattle.definitions.specs.Fits.{Every}
use Rattle.fixpoint.specs.Laws.{Agree, Coupled, in_blocks, widen, only_old, FormulaPulledOut}
use Rattle.fixpoint.proofs.Solves.{or_left, or_right, in_mid}
use Rattle.fixpoint.proofs.Couple.{couple}

module _ {I : Type 0} (K : Type 0) {V : Type 0} (O : Order V) where
  widen_all : (l : List I) (p : I → Bool) → ((x : I) → p x ≡ true → Memᴰ x l) → (z : I ⊎ K) → only_old p z ≡ true →
      Memᴰ z (map inl l)
  widen_all l p all (inl i) h = Memᴰ.map inl (all i h)
  widen_all l p all (inr k) h = absurd (false≢true h)

  pub enough_widen : (b : Block I) → Enough O b → Enough O (widen K b)
  enough_widen b n =
      record {
        members = map inl n.members;
        all = widen_all n.members b.inside n.all;
        rounds_le = subst (λ t. O.high * t ≤ b.rounds) (sym (length-map n.members inl)) n.rounds_le;
      }

  pub enough_widens : (bs : List (Block I)) → Every (Enough O) bs → Every (Enough O) (map (widen K) bs)
  enough_widens [] n = tt
  enough_widens (b ∷ bs) n = (enough_widen b n.0, enough_widens bs n.1)

pub every_append : {A : Type 0} (P : A → Type 0) (xs ys : List A) → Every P xs → Every P ys → Every P (xs ++ ys)
every_append P [] ys h k = k
every_append P (x ∷ xs) ys h k = (h.0, every_append P xs ys h.1 k)

module _ {I K V : Type 0} (body : (I → V) → I → V) (body' : (I ⊎ K → V) → I ⊎ K → V) where
  abbrev Same : I → I ⊎ K → Type 0
  Same i j = inl i ≡ j

  abbrev Eq : V → V → Type 0
  Eq a b = a ≡ b

  fits : (b : Block I) (i : I) (j : I ⊎ K) → Same i j → b.inside i ≡ (widen K b).inside j
  fits b i j r = ap (widen K b).inside r

  -- agreeing assignments, and a body that says the same
  carry : (f : I → V) (g : I ⊎ K → V) → Agree Eq Same f g → (i : I) (j : I ⊎ K) → Same i j →
      body (λ x. g (inl x)) i ≡ body' g (inl i) → body f i ≡ body' g j
  carry f g h i j r p =
      ap (λ u. body u i) (fun_ext (λ x. h x (inl x) refl)) ∙ p ∙ ap (body' g) r

  behind : (post : List (Block I)) → ((g : I ⊎ K → V) (i : I) → in_blocks post i ≡ true → body (λ x. g (inl x)) i ≡ body' g (inl i)) →
      Coupled Eq Same body body' post (map (widen K) post)
  behind [] h = Coupled.done
  behind (b ∷ bs) h =
      Coupled.both refl (fits b)
      (λ f g k _ _ i j r q. carry f g k i j r (h g i (or_left (b.inside i) (in_blocks bs i) q)))
      (behind bs (λ g i q. h g i (or_right (b.inside i) (in_blocks bs i) q)))

  module _ (c : Block (I ⊎ K)) (post : List (Block I)) (apart : (i : I) → c.inside (inl i) ≡ false)
      (tail : Coupled Eq Same body body' post (map (widen K) post)) where
    before : (pre : List (Block I)) →
        ((g : I ⊎ K → V) → ((k : K) → c.inside (inr k) ≡ true → g (inr k) ≡ body' g (inr k)) →
        (i : I) → in_blocks pre i ≡ true → body (λ x. g (inl x)) i ≡ body' g (inl i)) →
        Coupled Eq Same body body' (pre ++ post) (map (widen K) pre ++ (c ∷ map (widen K) post))
    before [] h = Coupled.right (λ i j r. subst (λ z. c.inside z ≡ false) r (apart i)) tail
    before (b ∷ bs) h =
        Coupled.both refl (fits b)
        (λ f g k _ s i j r q. carry f g k i j r
        (h g (λ x y. s (inr x) (in_mid (map (widen K) bs) c (map (widen K) post) (inr x) y)) i (or_left (b.inside i) (in_blocks bs i) q)))
        (before bs (λ g s i q. h g s i (or_right (b.inside i) (in_blocks bs i) q)))

pub pull : (I K V : Type 0) → FormulaPulledOut I K V
pull I K V O body body' m m' pre post c n n' n'' apart owners others e e' h i =
    couple I (I ⊎ K) V V O O (λ a b. a ≡ b) (λ x j. inl x ≡ j) refl refl body body' m m'
    (pre ++ post) (map (widen K) pre ++ (c ∷ map (widen K) post))
    (every_append (Enough O) pre post n n')
    (every_append (Enough O) (map (widen K) pre) (c ∷ map (widen K) post) (enough_widens K O pre n) (n'', enough_widens K O post n'))
    (before body body' c post apart (behind body body' post others) pre owners)
    e e' (λ x j r. h x ∙ ap e' r) i (inl i) refl
