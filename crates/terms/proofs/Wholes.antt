-- Values gathered one by one, where every one is there.
use Rattle.std.proofs.Common.{◌≡◌, ℕ, ◌+◌, ◌<◌, ◌≤◌, List, [], ◌∷◌, ◌++◌, length, get_or, drop, Some, None, Option, sym, refl, ap, ◌∙◌, append_assoc, length-append, drop_of_length-le, drop-cons, add-one}
use Rattle.std.proofs.lemmas.List.{append-nil}
use Rattle.definitions.specs.Lists.{bind, whole}

-- of the values, the first i are there and are xs
pub record Gathered {A : Type 0} (os : List (Option A)) (i : ℕ) (xs : List A) : Type 0 where
  pub count : length xs ≡ i
  pub rest : whole os ≡ bind (whole (drop i os)) (λ ys. Some (xs ++ ys))

begin : {A : Type 0} (o : Option (List A)) → o ≡ bind o (λ ys. Some ([] ++ ys))
begin None = refl
begin (Some ys) = refl

pub gathered_first : {A : Type 0} (os : List (Option A)) → Gathered os 0 []
gathered_first os = record { count = refl; rest = begin (whole os) }

-- the value numbered i, and those behind it
nth : {A : Type 0} (os : List (Option A)) (i : ℕ) → i < length os → whole (drop i os) ≡ bind (get_or os i None) (λ x. bind (whole (drop (i + 1) os)) (λ xs. Some (x ∷ xs)))
nth os i h = ap whole (drop-cons os i None h) ∙ ap (λ k. bind (get_or os i None) (λ x. bind (whole (drop k os)) (λ xs. Some (x ∷ xs)))) (sym (add-one i))

snoc : {A : Type 0} (xs : List A) (x : A) (o : Option (List A)) → bind (bind o (λ ys. Some (x ∷ ys))) (λ ys. Some (xs ++ ys)) ≡ bind o (λ ys. Some ((xs ++ x ∷ []) ++ ys))
snoc xs x None = refl
snoc xs x (Some ys) = ap Some (sym (append_assoc xs (x ∷ []) ys))

module _ {A : Type 0} {os : List (Option A)} {i : ℕ} {xs : List A} (h : i < length os) (g : Gathered os i xs) where
  pub gathered_next : (x : A) → get_or os i None ≡ Some x → Gathered os (i + 1) (xs ++ x ∷ [])
  gathered_next x e = record {
    count = length-append xs (x ∷ []) ∙ ap (λ n. n + 1) g.count;
    rest = g.rest ∙ ap (λ o. bind o (λ ys. Some (xs ++ ys))) (nth os i h ∙ ap (λ o. bind o (λ x. bind (whole (drop (i + 1) os)) (λ xs. Some (x ∷ xs)))) e) ∙ snoc xs x (whole (drop (i + 1) os));
  }

  pub gathered_none : get_or os i None ≡ None → whole os ≡ None
  gathered_none e = g.rest ∙ ap (λ o. bind o (λ ys. Some (xs ++ ys))) (nth os i h ∙ ap (λ o. bind o (λ x. bind (whole (drop (i + 1) os)) (λ xs. Some (x ∷ xs)))) e)

pub gathered_all : {A : Type 0} {os : List (Option A)} {i : ℕ} {xs : List A} → length os ≤ i → Gathered os i xs → whole os ≡ Some xs
gathered_all {os = os} {xs = xs} h g = g.rest ∙ ap (λ ys. bind (whole ys) (λ ys. Some (xs ++ ys))) (drop_of_length-le os h) ∙ ap Some (append-nil xs)
