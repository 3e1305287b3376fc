-- The values of an occurrence's arguments, kept in an array with zeros behind them.
use Rattle.std.proofs.Common.{◌≡◌, ℕ, zero, suc, ◌+◌, ◌-◌, ◌<◌, ◌≤◌, List, [], ◌∷◌, ◌++◌, map, length, get_or, set, take, replicate, Some, None, Option, sym, refl, ap, ◌∙◌, ap₂, add-one, arith, length-append, length-set}
use Rattle.std.proofs.lemmas.List.{take_all}
use Rattle.std.specs.Option.{unwrap_or}
use lib.ListN.{length-map, length-replicate}
use Rattle.definitions.specs.Lists.{at, bind, or_else}
use Rattle.definitions.specs.Alg.{Alg}
use Rattle.definitions.specs.Systems.{Term, Occurrence, fold}
use Rattle.definitions.specs.ReadSystem.{greatest_depth}
use Rattle.definitions.specs.Values.{kind_known, value_of, values_of}
use Rattle.terms.specs.Shapes.{standing}
use Rattle.rows.specs.Listed.{listed, listed_within}
use Rattle.theorems.proofs.Listing.{map_twice}
use Rattle.theorems.proofs.Repack.{same_list}
use Rattle.system.specs.Bodies.{padded}
use Rattle.system.specs.declared.places.OccurrenceAt.{OccurrenceAt}
use Rattle.system.specs.Walks.{OccurrenceOf}

get_zero : (m i : ℕ) → ◌≡◌ {A = ℕ} (get_or (replicate m 0) i 0) 0
get_zero zero i = refl
get_zero (suc m) zero = refl
get_zero (suc m) (suc i) = get_zero m i

get_filled : (ks : List (Option ℕ)) (m i : ℕ) → get_or (map (λ o. or_else o 0) ks ++ replicate m 0) i 0 ≡ or_else (get_or ks i None) 0
get_filled [] m i = get_zero m i
get_filled (k ∷ ks) m zero = refl
get_filled (k ∷ ks) m (suc i) = get_filled ks m i

unwrapped : (o : Option ℕ) → unwrap_or o 0 ≡ or_else o 0
unwrapped None = refl
unwrapped (Some v) = refl

filled : (ks : List (Option ℕ)) (ys : List ℕ) → length ys ≡ 15 → length ks ≤ 15 → ((i : ℕ) → get_or ys i 0 ≡ unwrap_or (get_or ks i None) 0) →
    ys ≡ map (λ o. or_else o 0) ks ++ replicate (15 - length ks) 0
filled ks ys l few h =
    let m = 15 - length ks in
    let long : length (map (λ o. or_else o 0) ks ++ replicate m 0) ≡ 15 =
    length-append (map (λ o. or_else o 0) ks) (replicate m 0) ∙ (let a = length-map ks (λ (o : Option ℕ). or_else o 0) in let b = length-replicate {A = ℕ} m 0 in omega arith) in
    same_list ys (map (λ o. or_else o 0) ks ++ replicate m 0) (l ∙ sym long)
    (λ i n. h i ∙ unwrapped (get_or ks i None) ∙ sym (get_filled ks m i))

-- the first i of xs have values, each as f says, and zeros stand behind them
pub record Filled (f : ℕ → Option ℕ) (xs : List ℕ) (i : ℕ) (ys : List ℕ) : Type 0 where
  pub long : length ys ≡ 15
  pub each : (n : ℕ) → get_or ys n 0 ≡ unwrap_or (get_or (map f (take i xs)) n None) 0

module _ (f : ℕ → Option ℕ) where
  pub filled_first : (xs : List ℕ) → Filled f xs 0 (replicate 15 0)
  filled_first xs = record { long = refl; each = get_zero 15 }

  one_more : (xs : List ℕ) (i : ℕ) (ys : List ℕ) → i < length xs → i < length ys → ((n : ℕ) → get_or ys n 0 ≡ unwrap_or (get_or (map f (take i xs)) n None) 0) →
      (n : ℕ) → get_or (set ys i (unwrap_or (f (get_or xs i 0)) 0)) n 0 ≡ unwrap_or (get_or (map f (take (suc i) xs)) n None) 0
  one_more [] i ys l h a n = absurd (omega arith)
  one_more (x ∷ xs) i [] l h a n = absurd (omega arith)
  one_more (x ∷ xs) zero (y ∷ ys) l h a zero = refl
  one_more (x ∷ xs) zero (y ∷ ys) l h a (suc n) = a (suc n)
  one_more (x ∷ xs) (suc i) (y ∷ ys) l h a zero = a 0
  one_more (x ∷ xs) (suc i) (y ∷ ys) l h a (suc n) = one_more xs i ys (omega arith) (omega arith) (λ n. a (suc n)) n

  pub filled_next : {xs : List ℕ} {i : ℕ} {ys : List ℕ} (v : ℕ) → i < length xs → i < 15 → v ≡ unwrap_or (f (get_or xs i 0)) 0 → Filled f xs i ys → Filled f xs (i + 1) (set ys i v)
  filled_next {xs = xs} {i = i} {ys = ys} v l h k b = record {
    long = length-set ys i v ∙ b.long;
    each = λ n. ap (λ w. get_or (set ys i w) n 0) k ∙ one_more xs i ys l (omega (arith, b.long)) b.each n ∙ ap (λ j. unwrap_or (get_or (map f (take j xs)) n None) 0) (sym (add-one i));
  }

-- the places of terms, and their values
module _ (a : Alg) (f : List ℕ) (ps vs : List ℕ) where
  abbrev pub value_at : ℕ → Option ℕ
  value_at p = bind (standing a greatest_depth f p) (λ t. fold t (kind_known a (map Some ps) (map Some vs)))

  values_there : (qs : List ℕ) (ts : List Term) → length qs ≡ length ts → ((k : ℕ) (t : Term) → at ts k ≡ Some t → standing a greatest_depth f (get_or qs k 0) ≡ Some t) → map value_at qs ≡ map (value_of a ps vs) ts
  values_there [] [] e h = refl
  values_there [] (t ∷ ts) e h = absurd (omega arith)
  values_there (q ∷ qs) [] e h = absurd (omega arith)
  values_there (q ∷ qs) (t ∷ ts) e h =
      ap₂ (λ o os. o ∷ os) (ap (λ (o : Option Term). bind o (λ t. fold t (kind_known a (map Some ps) (map Some vs)))) (h 0 t refl)) (values_there qs ts (omega arith) (λ k u w. h (suc k) u w))

  pub values_kept : (o : Occurrence) (q : ℕ) (x : OccurrenceAt) (i : ℕ) (ys : List ℕ) → OccurrenceOf a f o q x → length (listed x.arguments) ≤ i → Filled value_at (listed x.arguments) i ys → ys ≡ padded (values_of a ps vs o.arguments)
  values_kept o q x i ys r h b =
      let qs = listed x.arguments in
      let ks = map value_at qs in
      let few : length ks ≤ 15 = (let a = length-map qs value_at in let b = listed_within x.arguments in omega arith) in
      let is : ks ≡ map (value_of a ps vs) o.arguments = values_there qs o.arguments r.count r.arguments in
      let vals : map (λ o. or_else o 0) ks ≡ values_of a ps vs o.arguments = ap (map (λ o. or_else o 0)) is ∙ map_twice (λ (o : Option ℕ). or_else o 0) (value_of a ps vs) o.arguments in
      let n : length ks ≡ length (values_of a ps vs o.arguments) = sym (length-map ks (λ (o : Option ℕ). or_else o 0)) ∙ ap length vals in
      filled ks ys b.long few (λ n. b.each n ∙ ap (λ zs. unwrap_or (get_or (map value_at zs) n None) 0) (take_all i qs h)) ∙
      ap₂ (λ zs m. zs ++ replicate (15 - m) 0) vals n
