-- Walking through the clauses of a body, keeping those that repeat no earlier one.
use Rattle.std.proofs.Common.{◌≡◌, ℕ, ◌+◌, ◌<◌, ◌≤◌, Bool, true, false, List, [], ◌∷◌, ◌++◌, map, length, Some, Option, sym, refl, ap, ◌∙◌, subst, append_assoc, arith}
use Rattle.std.proofs.lemmas.List.{append-nil}
use Rattle.definitions.specs.Lists.{flat, some, same}
use Rattle.definitions.specs.Bits.{Stands}
use Rattle.definitions.specs.Alg.{Alg}
use Rattle.definitions.specs.Systems.{Clause}
use Rattle.definitions.specs.ReadSystem.{Scope, Header}
use Rattle.definitions.specs.Written.{clause_bits}
use Rattle.definitions.specs.Fits.{Every, ClauseFits}
use Rattle.theorems.proofs.Fields.{stands_left, stands_right}
use Rattle.theorems.proofs.Listing.{same_eq}
use Rattle.theorems.proofs.Goods.{good_clause}
use Rattle.system.specs.Walks.{Pairs, EndFound}
use Rattle.outsider.specs.declared.pieces.Piece.{Piece}
use Rattle.outsider.specs.Repeats.{repeats, unrepeated}
use Rattle.outsider.specs.Pieces.{Holds}
use Rattle.outsider.proofs.Along.{pairs_more}

-- a member more, at either end
some_more : (p : Clause → Bool) (ls : List Clause) (l : Clause) → some p (ls ++ (l ∷ [])) ≡ some p (l ∷ ls)
some_more p [] l = refl
some_more p (k ∷ ls) l = go (p k) (some_more p ls l)
  where
    swap : (b c : Bool) → elim b as (λ _. Bool) [ true ↦ true | false ↦ elim c as (λ _. Bool) [ true ↦ true | false ↦ some p ls ] ] ≡ elim c as (λ _. Bool) [ true ↦ true | false ↦ elim b as (λ _. Bool) [ true ↦ true | false ↦ some p ls ] ]
    swap true true = refl
    swap true false = refl
    swap false true = refl
    swap false false = refl

    go : (b : Bool) → some p (ls ++ (l ∷ [])) ≡ some p (l ∷ ls) →
        elim b as (λ _. Bool) [ true ↦ true | false ↦ some p (ls ++ (l ∷ [])) ] ≡ elim (p l) as (λ _. Bool) [ true ↦ true | false ↦ elim b as (λ _. Bool) [ true ↦ true | false ↦ some p ls ] ]
    go b e = ap (λ (t : Bool). elim b as (λ _. Bool) [ true ↦ true | false ↦ t ]) e ∙ swap b (p l)

-- what repeats k repeats what k repeats
some_again : (k l : Clause) (ls : List Clause) → some (repeats k) ls ≡ true → repeats l k ≡ true → some (repeats l) ls ≡ true
some_again k l ls h e = ap (λ bs. some (λ m. same bs (clause_bits m)) ls) (same_eq (clause_bits l) (clause_bits k) e) ∙ h

-- of the clauses ks those that stay so far belong to the pieces xs, and the others stand from the place p on
pub record Walking (a : Alg) (hs : List Header) (c : Scope) (f : List ℕ) (ks : List Clause) (n i p : ℕ) (xs : List Piece) : Type 0 where
  pub left : List Clause
  pub fit : Every (ClauseFits a hs c) left
  pub stand : Stands f p (flat (map clause_bits left))
  pub count : i + length left ≡ n
  pub before : List Clause
  pub stay : List Clause
  pub pairs : Pairs (Holds f) xs stay
  pub same : (l : Clause) → some (repeats l) stay ≡ some (repeats l) before
  pub whole : unrepeated [] ks ≡ stay ++ unrepeated before left

pub walking_first : (a : Alg) (hs : List Header) (c : Scope) (f : List ℕ) (ks : List Clause) (n p : ℕ) → Every (ClauseFits a hs c) ks → n ≡ length ks → Stands f p (flat (map clause_bits ks)) → Walking a hs c f ks n 0 p []
walking_first a hs c f ks n p fit e s = record { left = ks; fit = fit; stand = s; count = omega (arith, e); before = []; stay = []; pairs = tt; same = λ l. refl; whole = refl }

-- the clause that comes next
pub record Next (a : Alg) (hs : List Header) (c : Scope) (f : List ℕ) (p : ℕ) (left : List Clause) : Type 0 where
  pub clause : Clause
  pub rest : List Clause
  pub is : left ≡ clause ∷ rest
  pub fit : ClauseFits a hs c clause
  pub fits : Every (ClauseFits a hs c) rest
  pub stands : Stands f p (clause_bits clause)
  pub behind : Stands f (p + length (clause_bits clause)) (flat (map clause_bits rest))

next_clause : (a : Alg) (hs : List Header) (c : Scope) (f : List ℕ) (p : ℕ) (left : List Clause) → 0 < length left → Every (ClauseFits a hs c) left → Stands f p (flat (map clause_bits left)) → Next a hs c f p left
next_clause a hs c f p [] l fit s = absurd (omega arith)
next_clause a hs c f p (k ∷ ks) l fit s = record {
  clause = k;
  rest = ks;
  is = refl;
  fit = fit.0;
  fits = fit.1;
  stands = stands_left f p (clause_bits k) (flat (map clause_bits ks)) s;
  behind = stands_right f p (clause_bits k) (flat (map clause_bits ks)) s;
}

module _ {a : Alg} {hs : List Header} {c : Scope} {f : List ℕ} {ks : List Clause} {n i p : ℕ} {xs : List Piece} (l : Walking a hs c f ks n i p xs) where
  module _ (lt : i < n) where
    pub upcoming : Next a hs c f p l.left
    upcoming = next_clause a hs c f p l.left (omega (arith, l.count)) l.fit l.stand

    abbrev pub its_bits : List ℕ
    its_bits = clause_bits upcoming.clause

    -- its end is found
    pub its_end : length f ≤ 65536 → (r : Option ℕ) → EndFound a hs f p r → r ≡ Some (p + length its_bits)
    its_end short r h = h c upcoming.clause (p + length its_bits) short ((good_clause f a hs c upcoming.clause upcoming.fit).run p upcoming.stands)

    pub its_piece : Holds f (record { at = p; count = length its_bits }) upcoming.clause
    its_piece = record { stands = upcoming.stands; count = refl }

    went : (before : List Clause) → unrepeated before l.left ≡ elim (some (repeats upcoming.clause) before) as (λ _. List Clause) [ true ↦ unrepeated (upcoming.clause ∷ before) upcoming.rest | false ↦ upcoming.clause ∷ unrepeated (upcoming.clause ∷ before) upcoming.rest ]
    went before = ap (unrepeated before) upcoming.is

    chosen : (b : Bool) → b ≡ some (repeats upcoming.clause) l.stay → unrepeated [] ks ≡ l.stay ++ (elim b as (λ _. List Clause) [ true ↦ unrepeated (upcoming.clause ∷ l.before) upcoming.rest | false ↦ upcoming.clause ∷ unrepeated (upcoming.clause ∷ l.before) upcoming.rest ])
    chosen b e =
        l.whole ∙ ap (λ zs. l.stay ++ zs) (went l.before ∙
        ap (λ (t : Bool). elim t as (λ _. List Clause) [ true ↦ unrepeated (upcoming.clause ∷ l.before) upcoming.rest | false ↦ upcoming.clause ∷ unrepeated (upcoming.clause ∷ l.before) upcoming.rest ]) (sym (e ∙ l.same upcoming.clause)))

    pub walking_skip : (q : ℕ) → q ≡ p + length its_bits → true ≡ some (repeats upcoming.clause) l.stay → Walking a hs c f ks n (i + 1) q xs
    walking_skip q e h = record {
      left = upcoming.rest;
      fit = upcoming.fits;
      stand = subst (λ m. Stands f m (flat (map clause_bits upcoming.rest))) (sym e) upcoming.behind;
      count = (let k = ap length upcoming.is in omega (arith, l.count));
      before = upcoming.clause ∷ l.before;
      stay = l.stay;
      pairs = l.pairs;
      same = λ m. go m (repeats m upcoming.clause) refl;
      whole = chosen true h;
    }
      where
        go : (m : Clause) (b : Bool) → repeats m upcoming.clause ≡ b → some (repeats m) l.stay ≡ elim b as (λ _. Bool) [ true ↦ true | false ↦ some (repeats m) l.before ]
        go m true x = some_again upcoming.clause m l.stay (sym h) x
        go m false x = l.same m

    pub walking_add : (q : ℕ) → q ≡ p + length its_bits → (x : Piece) → Holds f x upcoming.clause → (ys : List Piece) → ys ≡ xs ++ (x ∷ []) → false ≡ some (repeats upcoming.clause) l.stay → Walking a hs c f ks n (i + 1) q ys
    walking_add q e x k ys more h = record {
      left = upcoming.rest;
      fit = upcoming.fits;
      stand = subst (λ m. Stands f m (flat (map clause_bits upcoming.rest))) (sym e) upcoming.behind;
      count = (let k = ap length upcoming.is in omega (arith, l.count));
      before = upcoming.clause ∷ l.before;
      stay = l.stay ++ (upcoming.clause ∷ []);
      pairs = subst (λ zs. Pairs (Holds f) zs (l.stay ++ (upcoming.clause ∷ []))) (sym more) (pairs_more (Holds f) xs l.stay x upcoming.clause l.pairs k);
      same = λ m. some_more (repeats m) l.stay upcoming.clause ∙ ap (λ (t : Bool). elim (repeats m upcoming.clause) as (λ _. Bool) [ true ↦ true | false ↦ t ]) (l.same m);
      whole = chosen false h ∙ sym (append_assoc l.stay (upcoming.clause ∷ []) (unrepeated (upcoming.clause ∷ l.before) upcoming.rest));
    }

  pub walking_end : n ≤ i → Pairs (Holds f) xs (unrepeated [] ks)
  walking_end h = subst (Pairs (Holds f) xs) (sym (l.whole ∙ ap (λ zs. l.stay ++ zs) (none_more l.left (omega (arith, l.count))) ∙ append-nil l.stay)) l.pairs
    where
      none_more : (ls : List Clause) → length ls ≡ 0 → unrepeated l.before ls ≡ []
      none_more [] e = refl
      none_more (k ∷ ls) e = absurd (omega arith)
