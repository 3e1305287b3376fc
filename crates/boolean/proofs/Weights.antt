-- The number of variables of a block that have not moved.
use Rattle.std.proofs.Common.{◌≡◌, ◌+◌, ◌<◌, ◌≤◌, Bool, true, false, List, [], ◌∷◌, sym, refl, ap, ◌∙◌, arith}
use mathlib.Core.List.{Memᴰ}
use native.Mathlib.Decide.{dec_lt}
use Rattle.definitions.specs.Lists.{keep}
use Rattle.definitions.specs.Order.{Order, dual, Below}
use Rattle.fixpoint.proofs.Rounds.{total, total_same}

keep_mem : {I : Type 0} (p : I → Bool) {x : I} {l : List I} → p x ≡ true → Memᴰ x l → Memᴰ x (keep p l)
keep_mem p {x} h (Memᴰ.head {x = y} {xs} e) = rw (ap p (sym e) ∙ h, keep) (Memᴰ.head e)
keep_mem p {x} h (Memᴰ.tail {x = y} {xs} m) = go (keep_mem p h m) (p y)
  where
    go : Memᴰ x (keep p xs) → (b : Bool) → Memᴰ x (elim b [ true ↦ y ∷ keep p xs | false ↦ keep p xs ])
    go k true = Memᴰ.tail k
    go k false = k

total_keep : {I V : Type 0} (O : Order V) (p : I → Bool) (l : List I) (f g : I → V) → ((x : I) → p x ≡ true → f x ≡ g x) → total O (keep p l) f ≡ total O (keep p l) g
total_keep O p [] f g h = refl
total_keep O p (x ∷ l) f g h = go (total_keep O p l f g h) (p x) refl
  where
    go : total O (keep p l) f ≡ total O (keep p l) g → (b : Bool) → p x ≡ b →
        total O (elim b [ true ↦ x ∷ keep p l | false ↦ keep p l ]) f ≡ total O (elim b [ true ↦ x ∷ keep p l | false ↦ keep p l ]) g
    go ih true q = let e = h x q in ap (λ z. O.height z + total O (keep p l) f) e ∙ ap (λ z. O.height (g x) + z) ih
    go ih false q = ih

-- f is kept inside p by h, which moves to h'
pub lighter : {I V : Type 0} (O : Order V) (p : I → Bool) (l : List I) (f h h' : I → V) → ((x : I) → p x ≡ true → h x ≡ f x) → Below O h h' →
    (x : I) → p x ≡ true → Memᴰ x l → (h x ≡ h' x → ⊥) → total (dual O) (keep p l) h' < total (dual O) (keep p l) f
lighter O p l f h h' same up x q m ne = go (dec_lt (total (dual O) (keep p l) h') (total (dual O) (keep p l) f))
  where
    go : Dec (total (dual O) (keep p l) h' < total (dual O) (keep p l) f) → total (dual O) (keep p l) h' < total (dual O) (keep p l) f
    go (yes k) = k
    go (no k) =
        let e : total (dual O) (keep p l) h ≡ total (dual O) (keep p l) f = total_keep (dual O) p l h f same in
        let z : total (dual O) (keep p l) h ≤ total (dual O) (keep p l) h' = omega arith in
        absurd (ne (sym (total_same (dual O) h' h up z (keep_mem p q m))))
