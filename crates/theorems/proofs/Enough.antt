-- The rounds of an equation's block, and of a rank's, suffice.
use Rattle.std.proofs.Common.{◌≡◌, ℕ, zero, suc, ◌*◌, ◌<◌, Bool, true, false, eqb, ltb, List, [], ◌∷◌, ◌++◌, map, length, refl, ap, ◌∙◌, le_refl, suc-mul, one-mul, arith, length-append}
use mathlib.Core.Bool.{false≢true}
use mathlib.Core.List.Memᴰ
use mathlib.Core.List.{Memᴰ}
use native.Mathlib.Decide.{dec_lt}
use lib.ListN.{length-map}
use Rattle.std.proofs.lemmas.Bool.{ltb-true, eqb-true, and_parts}
use Rattle.definitions.specs.Lists.{at, product, map_from}
use Rattle.definitions.specs.Boolean.{Variable, rank_of, has_rank, rank_block}
use Rattle.definitions.specs.Alg.{Alg, within}
use Rattle.definitions.specs.Systems.{Equation}
use Rattle.definitions.specs.Truth.{Instance, sizes_of, block_of}
use Rattle.definitions.specs.Order.{truths, Enough}
use Rattle.definitions.specs.Fits.{Every}

-- all lists of values, one below each size
abbrev pub spread : ℕ → List (List ℕ) → List (List ℕ)
spread zero l = []
spread (suc k) l = map (λ vs. k ∷ vs) l ++ spread k l

abbrev pub vectors : List ℕ → List (List ℕ)
vectors [] = [] ∷ []
vectors (n ∷ ns) = spread n (vectors ns)

pub spread_long : (k : ℕ) (l : List (List ℕ)) → length (spread k l) ≡ k * length l
spread_long zero l = omega arith
spread_long (suc k) l =
    rw (length-append (map (λ vs. k ∷ vs) l) (spread k l), length-map l (λ vs. k ∷ vs), spread_long k l, suc-mul) (omega arith)

pub vectors_long : (ns : List ℕ) → length (vectors ns) ≡ product ns
vectors_long [] = refl
vectors_long (n ∷ ns) = spread_long n (vectors ns) ∙ ap (λ z. n * z) (vectors_long ns)

spread_mem : (k v : ℕ) (vs : List ℕ) (l : List (List ℕ)) → v < k → Memᴰ vs l → Memᴰ (v ∷ vs) (spread k l)
spread_mem zero v vs l h m = absurd (omega arith)
spread_mem (suc k) v vs l h m = go (dec_lt v k) (λ q. spread_mem k v vs l q m)
  where
    go : Dec (v < k) → (v < k → Memᴰ (v ∷ vs) (spread k l)) → Memᴰ (v ∷ vs) (spread (suc k) l)
    go (yes q) ih = Memᴰ.append_right (map (λ ws. k ∷ ws) l) (ih q)
    go (no q) ih =
        let e : v ≡ k = omega arith in
        Memᴰ.append_left (spread k l) (Memᴰ.cast (ap (λ z. z ∷ vs) e) (Memᴰ.map (λ ws. k ∷ ws) m))

pub vectors_mem : (ns vs : List ℕ) → within ns vs ≡ true → Memᴰ vs (vectors ns)
vectors_mem [] [] h = Memᴰ.head refl
vectors_mem [] (v ∷ vs) h = absurd (false≢true h)
vectors_mem (n ∷ ns) [] h = absurd (false≢true h)
vectors_mem (n ∷ ns) (v ∷ vs) h =
    let (k, l) = and_parts (ltb v n) (within ns vs) h in spread_mem n v vs (vectors ns) (ltb-true v n k) (vectors_mem ns vs l)

pub block_enough : (a : Alg) (i : ℕ) (e : Equation) → Enough truths (block_of a i e)
block_enough a i e =
    record {
      members = map (λ vs. (i, vs)) (vectors (sizes_of a e));
      all = λ x h.
          let (k, l) = and_parts (eqb x.0 i) (within (sizes_of a e) x.1) h in
          Memᴰ.cast (λ j. (eqb-true x.0 i k j, x.1)) (Memᴰ.map (λ vs. (i, vs)) (vectors_mem (sizes_of a e) x.1 l));
      rounds_le = rw (length-map {B = Instance} (vectors (sizes_of a e)) (λ vs. (i, vs)), one-mul, vectors_long (sizes_of a e)) (le_refl (product (sizes_of a e)));
    }

-- every block of a system
pub blocks_enough : (a : Alg) (k : ℕ) (es : List Equation) → Every (Enough truths) (map_from k (block_of a) es)
blocks_enough a k [] = tt
blocks_enough a k (e ∷ es) = (block_enough a k e, blocks_enough a (suc k) es)

-- the numbers of the variables of a rank, the first variable's being k
abbrev pub places : List Variable → ℕ → List ℕ
places [] r = []
places (v ∷ vs) r = elim (eqb v.rank r) [ true ↦ 0 ∷ map suc (places vs r) | false ↦ map suc (places vs r) ]

places_mem : (vs : List Variable) (r j : ℕ) → has_rank (at vs j) r ≡ true → Memᴰ j (places vs r)
places_mem [] r j h = absurd (false≢true h)
places_mem (v ∷ vs) r zero h = rw (h, places) (Memᴰ.head refl)
places_mem (v ∷ vs) r (suc j) h = go (places_mem vs r j h) (eqb v.rank r)
  where
    go : Memᴰ j (places vs r) → (b : Bool) → Memᴰ (suc j) (elim b [ true ↦ 0 ∷ map suc (places vs r) | false ↦ map suc (places vs r) ])
    go m true = Memᴰ.tail (Memᴰ.map suc m)
    go m false = Memᴰ.map suc m

places_long : (vs : List Variable) (r : ℕ) → length (places vs r) ≡ length (rank_of vs r)
places_long [] r = refl
places_long (v ∷ vs) r = go (places_long vs r) (eqb v.rank r)
  where
    go : length (places vs r) ≡ length (rank_of vs r) → (b : Bool) →
        length {A = ℕ} (elim b [ true ↦ 0 ∷ map suc (places vs r) | false ↦ map suc (places vs r) ]) ≡ length {A = Variable} (elim b [ true ↦ v ∷ rank_of vs r | false ↦ rank_of vs r ])
    go ih true = ap suc (length-map (places vs r) suc ∙ ih)
    go ih false = length-map (places vs r) suc ∙ ih

pub rank_enough : (vs : List Variable) (r : ℕ) → Enough truths (rank_block vs r)
rank_enough vs r =
    record {
      members = places vs r;
      all = λ j h. places_mem vs r j h;
      rounds_le = rw (one-mul, places_long) (le_refl (length (rank_of vs r)));
    }

pub ranks_enough : (vs : List Variable) (rs : List ℕ) → Every (Enough truths) (map (rank_block vs) rs)
ranks_enough vs [] = tt
ranks_enough vs (r ∷ rs) = (rank_enough vs r, ranks_enough vs rs)
