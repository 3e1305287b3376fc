-- A list whose items are visited from its end, each with its place.
use Rattle.std.proofs.Common.{◌≡◌, ℕ, suc, ◌+◌, ◌≤◌, List, [], ◌∷◌, ◌++◌, length, get_or, drop, sym, ap, ◌∙◌, add-one, zero-add, arith, append-nil, length-append, Iter}
use Rattle.std.proofs.lemmas.List.{append_assoc}
use Rattle.std.proofs.Math.Seq.{drop-append_seam, drop-length, get_or-append_seam}
use Rattle.std.specs.List.{push}
use Rattle.std.specs.declared.iter.Rev.{Rev}
use Rattle.std.specs.declared.iter.Enumerate.{Enumerate}

module _ {A : Type 0} where
  abbrev pub rest : Rev (Enumerate (Iter A)) → List A
  rest it = it.iter.iter.rest.now

  -- what is left of the list is its front
  abbrev pub Front : List A → Rev (Enumerate (Iter A)) → Type 0
  Front xs it = (it.iter.count ≡ 0) × (xs ≡ rest it ++ drop (length (rest it)) xs)

  pub front_all : {xs : List A} {it turned : Rev (Enumerate (Iter A))} {counted : Enumerate (Iter A)} {i : Iter A} → it ≡ turned → turned.iter ≡ counted → counted.iter ≡ i → counted.count ≡ 0 → i.rest.now ≡ xs → Front xs it × (rest it ≡ xs)
  front_all {xs} {it} p q r n e = ((ap (λ z. z.iter.count) p ∙ ap (λ z. z.count) q ∙ n, sym (ap (λ z. z ++ drop (length (rest it)) xs) all ∙ ap (λ z. xs ++ drop (length z) xs) all ∙ ap (λ z. xs ++ z) (drop-length xs) ∙ append-nil xs)), all)
    where
      all : rest it ≡ xs
      all = ap rest p ∙ ap (λ z. z.iter.rest.now) q ∙ ap (λ z. z.rest.now) r ∙ e

  -- the item x at i is visited
  pub record Taken (xs : List A) (it it' : Rev (Enumerate (Iter A))) (i : ℕ) (x : A) : Type 0 where
    pub front : Front xs it'
    pub there : (d : A) → get_or xs i d ≡ x
    pub before : length (rest it) ≡ suc i
    pub behind : length (rest it') ≡ i
    pub within : suc i ≤ length xs

  pub taken : (xs : List A) (it it' : Rev (Enumerate (Iter A))) (i : ℕ) (x : A) → Front xs it → it'.iter.count ≡ it.iter.count → rest it ≡ push (rest it') x → i ≡ it.iter.count + length (rest it') → Taken xs it it' i x
  taken xs it it' i x (none, front) count cut place =
      record {
        front = (count ∙ none, seam ∙ ap (λ z. rest it' ++ z) (sym (ap (drop (length (rest it'))) seam ∙ drop-append_seam (rest it') (x ∷ drop (length (rest it)) xs))));
        there = λ d. ap (λ n. get_or xs n d) at ∙ ap (λ z. get_or z (length (rest it')) d) seam ∙ get_or-append_seam (rest it') x (drop (length (rest it)) xs) d;
        before = long ∙ ap suc (sym at);
        behind = sym at;
        within = let n = ap length seam ∙ length-append (rest it') (x ∷ drop (length (rest it)) xs) in omega (arith, n, at);
      }
    where
      seam : xs ≡ rest it' ++ x ∷ drop (length (rest it)) xs
      seam = front ∙ ap (λ z. z ++ drop (length (rest it)) xs) cut ∙ append_assoc (rest it') (x ∷ []) (drop (length (rest it)) xs)

      at : i ≡ length (rest it')
      at = place ∙ ap (λ n. n + length (rest it')) none ∙ zero-add (length (rest it'))

      long : length (rest it) ≡ suc (length (rest it'))
      long = ap length cut ∙ length-append (rest it') (x ∷ []) ∙ add-one (length (rest it'))
