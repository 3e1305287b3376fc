-- The places of readers in a row, and what is read at each.
use Rattle.std.proofs.Common.{◌≡◌, ℕ, zero, suc, ◌+◌, ◌≤◌, List, [], ◌∷◌, ◌++◌, length, get_or, drop, Some, None, sym, refl, ap, ◌∙◌, add-one}
use Rattle.std.proofs.lemmas.List.{append-nil, append_assoc, drop_all}
use Rattle.definitions.specs.Reading.{Step, next, stop, Reader, follow, one_by_one}
use Rattle.definitions.specs.Lists.{at}
use Rattle.system.specs.Steps.{placed}
use Rattle.system.specs.Bodies.{places_of}
use Rattle.system.proofs.Rows.{dropped}

-- the places of readers in a row
module _ {X B : Type 0} (r : X → Reader B) (xs : List X) (f : List ℕ) where
  pub places_next : (x : X) (ps : List ℕ) (i p q : ℕ) → at xs i ≡ Some x → next tt q ≡ placed (r x f p) → ps ++ places_of r (drop i xs) f p ≡ (ps ++ (p ∷ [])) ++ places_of r (drop (i + 1) xs) f q
  places_next x ps i p q h e =
      ap (λ ys. ps ++ places_of r ys f p) (dropped xs i x h) ∙
      ap (λ zs. ps ++ (p ∷ zs)) (go (r x f p) e) ∙
      sym (append_assoc ps (p ∷ []) (places_of r (drop (suc i) xs) f q)) ∙
      ap (λ j. (ps ++ (p ∷ [])) ++ places_of r (drop j xs) f q) (sym (add-one i))
    where
      go : (m : Step B) → next tt q ≡ placed m → elim m [ next y t ↦ places_of r (drop (suc i) xs) f t | stop s t ↦ [] ] ≡ places_of r (drop (suc i) xs) f q
      go (next y t) e = let j : t ≡ q = cc in ap (λ z. places_of r (drop (suc i) xs) f z) j
      go (stop s t) e = absurd cc

  pub places_end : (ps : List ℕ) (i p : ℕ) → length xs ≤ i → ps ++ places_of r (drop i xs) f p ≡ ps
  places_end ps i p h = ap (λ ys. ps ++ places_of r ys f p) (drop_all i xs h) ∙ append-nil ps

-- what is read at each of them
abbrev pub ReadAt : {X B : Type 0} → List ℕ → (X → Reader B) → List X → List ℕ → ℕ → B → Type 0
ReadAt {X} f r xs ps i e = (x : X) × ((t : ℕ) × ((at xs i ≡ Some x) × (r x f (get_or ps i 0) ≡ next e t)))

abbrev AllRead : {X B : Type 0} → List ℕ → (X → Reader B) → List X → Type 0
AllRead {B} f r xs = (t u : ℕ) (ys : List B) → one_by_one r xs f t ≡ next ys u → (j : ℕ) (e : B) → at ys j ≡ Some e → ReadAt f r xs (places_of r xs f t) j e

pub places_read : {X B : Type 0} (f : List ℕ) (r : X → Reader B) (xs : List X) (p q : ℕ) (es : List B) → one_by_one r xs f p ≡ next es q →
    (i : ℕ) (e : B) → at es i ≡ Some e → ReadAt f r xs (places_of r xs f p) i e
places_read f r [] p q es h i e l =
    let s : es ≡ [] = cc in
    let k : None ≡ Some e = ap (λ z. at z i) (sym s) ∙ l in
    absurd cc
places_read {X} {B} f r (x ∷ xs) p q es h i e l = go (λ t u ys j. places_read f r xs t u ys j) (r x f p) refl h
  where
    rest : AllRead f r xs → (y : B) (t : ℕ) → r x f p ≡ next y t → (m : Step (List B)) → one_by_one r xs f t ≡ m → follow m (λ ys u. next (y ∷ ys) u) ≡ next es q →
        (i : ℕ) → at es i ≡ Some e → ReadAt f r (x ∷ xs) (places_of r (x ∷ xs) f p) i e
    rest ih y t a (stop s u) b h i l = absurd cc
    rest ih y t a (next ys u) b h zero l =
        let s : es ≡ y ∷ ys = cc in
        let k : Some y ≡ Some e = ap (λ z. at z 0) (sym s) ∙ l in
        let j : y ≡ e = cc in
        (x, (t, (refl, a ∙ ap (λ z. next z t) j)))
    rest ih y t a (next ys u) b h (suc i) l =
        let s : es ≡ y ∷ ys = cc in
        let d = ih t u ys b i e (ap (λ z. at z (suc i)) (sym s) ∙ l) in
        (d.0, (d.1.0, (d.1.1.0, ap (λ m. r d.0 f (get_or (elim m [ next y q ↦ places_of r xs f q | stop s q ↦ [] ]) i 0)) a ∙ d.1.1.1)))

    go : AllRead f r xs → (m : Step B) → r x f p ≡ m → follow m (λ y t. follow (one_by_one r xs f t) (λ ys u. next (y ∷ ys) u)) ≡ next es q → ReadAt f r (x ∷ xs) (places_of r (x ∷ xs) f p) i e
    go ih (next y t) a h = rest ih y t a (one_by_one r xs f t) refl h i l
    go ih (stop s t) a h = absurd cc
