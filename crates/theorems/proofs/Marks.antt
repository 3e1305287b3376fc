-- The parameters that reach a mark are closed: what they depend on is among them.
use Rattle.std.proofs.Common.{◌≡◌, ℕ, zero, suc, ◌+◌, ◌<◌, ◌≤◌, Bool, true, false, ◌||◌, List, [], ◌∷◌, ◌++◌, map, length, get_or, Some, sym, refl, ap, ◌∙◌, ap₂, zero-add, arith, length-append}
use mathlib.Core.Bool.{false≢true}
use mathlib.Core.List.Memᴰ
use mathlib.Core.List.{Memᴰ}
use native.Mathlib.Decide.{dec_le}
use lib.ListN.{length-map}
use Rattle.std.proofs.lemmas.Bool.{or_left, or_right, eq-eqb}
use Rattle.definitions.specs.Lists.{at, flat, some, sum, from, up_to, strike}
use Rattle.definitions.specs.Alg.{Alg}
use Rattle.definitions.specs.Systems.{Kind, parameter, variable, value, operation, not, and, or, equal, Term, Terms, node, none, more, folds, Occurrence, Clause, Equation, System}
use Rattle.definitions.specs.Passes.{is_parameter, occurs_in, marked, occurrences, feeds, marks, needed}
use Rattle.definitions.specs.Fits.{Every, header_of, BodyFits, SystemFits}
use Rattle.definitions.specs.ReadSystem.{scope}
use Rattle.fixpoint.proofs.Rounds.{pick}
use Rattle.theorems.proofs.Closing.{closes}
use Rattle.theorems.proofs.Listing.{every_map, every_of, get_or_some, every_at, every_two, at_mapped, at_lt, from_long}
use Rattle.theorems.proofs.Monotone.{orders, some_is}
use Rattle.theorems.proofs.Cut.{OnKinds, OnAll, OnParameters, fits_scoped, terms_fit}
use Rattle.theorems.proofs.KeepsCut.{Keeps, Closed}
use Rattle.theorems.proofs.Refit.{strike_every}

-- some and or
pub pick_left : (b q : Bool) → b ≡ true → pick b true q ≡ true
pick_left b q e = ap (λ z. pick z true q) e

pub pick_right : (b q : Bool) → q ≡ true → pick b true q ≡ true
pick_right true q e = refl
pick_right false q e = e

pub some_each : {A : Type 0} (p : ℕ → A → Bool) (xs : List A) → Every (λ x. (n : ℕ) → p n x ≡ true → some (p n) xs ≡ true) xs
some_each p [] = tt
some_each p (x ∷ xs) =
    ((λ n e. pick_left (p n x) (some (p n) xs) e), every_map xs (λ y h n e. pick_right (p n x) (some (p n) xs) (h n e)) (some_each p xs))

some_front : {A : Type 0} (p : A → Bool) (xs ys : List A) → some p xs ≡ true → some p (xs ++ ys) ≡ true
some_front p [] ys h = absurd (false≢true h)
some_front p (x ∷ xs) ys h = go (p x) (some_front p xs ys) h
  where
    go : (b : Bool) → (some p xs ≡ true → some p (xs ++ ys) ≡ true) → pick b true (some p xs) ≡ true → pick b true (some p (xs ++ ys)) ≡ true
    go true k e = refl
    go false k e = k e

some_back : {A : Type 0} (p : A → Bool) (xs ys : List A) → some p ys ≡ true → some p (xs ++ ys) ≡ true
some_back p [] ys h = h
some_back p (x ∷ xs) ys h = pick_right (p x) (some p (xs ++ ys)) (some_back p xs ys h)

pub some_flat : {A B : Type 0} (p : ℕ → B → Bool) (f : A → List B) (xs : List A) → Every (λ x. (n : ℕ) → some (p n) (f x) ≡ true → some (p n) (flat (map f xs)) ≡ true) xs
some_flat p f [] = tt
some_flat p f (x ∷ xs) =
    ((λ n e. some_front (p n) (f x) (flat (map f xs)) e), every_map xs (λ y h n e. some_back (p n) (f x) (flat (map f xs)) (h n e)) (some_flat p f xs))

-- every parameter of a term occurs in it
mutual
  pub occurs_on : (t : Term) (P : ℕ → Type 0) → ((n : ℕ) → occurs_in n t ≡ true → P n) → OnKinds t (OnParameters P)
  occurs_on (node k ts) P h =
      (here k (λ n e. h n (or_left (is_parameter n k) _ e)), occurs_all ts P (λ n e. h n (or_right (is_parameter n k) _ e)))
    where
      here : (k : Kind) → ((n : ℕ) → is_parameter n k ≡ true → P n) → OnParameters P k
      here (parameter n) h = h n (eq-eqb n n refl)
      here (variable n) h = tt
      here (value s v) h = tt
      here (operation o) h = tt
      here not h = tt
      here and h = tt
      here or h = tt
      here equal h = tt

  occurs_all : (ts : Terms) (P : ℕ → Type 0) →
      ((n : ℕ) → some (λ b. b) (folds ts (λ kind parts. is_parameter n kind || some (λ b. b) parts)) ≡ true → P n) → OnAll ts (OnParameters P)
  occurs_all none P h = tt
  occurs_all (more t ts) P h =
      (occurs_on t P (λ n e. h n (pick_left (occurs_in n t) _ e)), occurs_all ts P (λ n e. h n (pick_right (occurs_in n t) _ e)))

module _ {P Q R : Kind → Type 0} (f : (k : Kind) → P k → Q k → R k) where
  mutual
    pub on_zip : (t : Term) → OnKinds t P → OnKinds t Q → OnKinds t R
    on_zip (node k ts) h g = (f k h.0 g.0, on_zip_all ts h.1 g.1)

    on_zip_all : (ts : Terms) → OnAll ts P → OnAll ts Q → OnAll ts R
    on_zip_all none h g = tt
    on_zip_all (more t ts) h g = (on_zip t h.0 g.0, on_zip_all ts h.1 g.1)

-- masks by their bits
abbrev pub bit : List (List Bool) → ℕ × ℕ → Bool
bit M x = get_or (get_or M x.0 []) x.1 false

abbrev pub Sub : List (List Bool) → List (List Bool) → Type 0
Sub M N = (x : ℕ × ℕ) → bit M x ≡ true → bit N x ≡ true

pub row_up : {A : Type 0} (g g' : A → Bool) → ((x : A) → g x ≡ true → g' x ≡ true) → (xs : List A) (n : ℕ) → get_or (map g xs) n false ≡ true → get_or (map g' xs) n false ≡ true
row_up g g' h [] n e = e
row_up g g' h (x ∷ xs) zero e = h x e
row_up g g' h (x ∷ xs) (suc n) e = row_up g g' h xs n e

rows_up : {A : Type 0} (F G : A → List Bool) → ((x : A) (n : ℕ) → get_or (F x) n false ≡ true → get_or (G x) n false ≡ true) → (xs : List A) (i n : ℕ) →
    get_or (get_or (map F xs) i []) n false ≡ true → get_or (get_or (map G xs) i []) n false ≡ true
rows_up F G h [] i n e = e
rows_up F G h (x ∷ xs) zero n e = h x n e
rows_up F G h (x ∷ xs) (suc i) n e = rows_up F G h xs i n e

pub strike_up : {A : Type 0} (p : A → Bool) (ms ns : List Bool) (xs : List A) → ((n : ℕ) → get_or ms n false ≡ true → get_or ns n false ≡ true) →
    some p (strike ms xs) ≡ true → some p (strike ns xs) ≡ true
strike_up p [] ns xs h e = absurd (false≢true e)
strike_up p (true ∷ ms) ns [] h e = absurd (false≢true e)
strike_up p (false ∷ ms) ns [] h e = absurd (false≢true e)
strike_up p (true ∷ ms) [] (x ∷ xs) h e = absurd (false≢true (h 0 refl))
strike_up p (false ∷ ms) [] (x ∷ xs) h e = strike_up p ms [] xs (λ n k. absurd (false≢true (h (suc n) k))) e
strike_up p (true ∷ ms) (true ∷ ns) (x ∷ xs) h e = go (p x) (strike_up p ms ns xs (λ n. h (suc n))) e
  where
    go : (b : Bool) → (some p (strike ms xs) ≡ true → some p (strike ns xs) ≡ true) → pick b true (some p (strike ms xs)) ≡ true → pick b true (some p (strike ns xs)) ≡ true
    go true k e = refl
    go false k e = k e
strike_up p (true ∷ ms) (false ∷ ns) (x ∷ xs) h e = absurd (false≢true (h 0 refl))
strike_up p (false ∷ ms) (true ∷ ns) (x ∷ xs) h e = pick_right (p x) (some p (strike ns xs)) (strike_up p ms ns xs (λ n. h (suc n)) e)
strike_up p (false ∷ ms) (false ∷ ns) (x ∷ xs) h e = strike_up p ms ns xs (λ n. h (suc n)) e

pub or_up : (p q q' : Bool) → (q ≡ true → q' ≡ true) → (p || q) ≡ true → (p || q') ≡ true
or_up true q q' h e = refl
or_up false q q' h e = h e

module _ (s : System) where
  marks_up : (M N : List (List Bool)) → Sub M N → Sub (marks s M) (marks s N)
  marks_up M N h x =
      rows_up (λ (e : Equation). map (λ k. marked e k || feeds M e k) (up_to (length e.sorts))) (λ (e : Equation). map (λ k. marked e k || feeds N e k) (up_to (length e.sorts)))
      (λ e n. row_up (λ k. marked e k || feeds M e k) (λ k. marked e k || feeds N e k)
      (λ k. or_up (marked e k) (feeds M e k) (feeds N e k)
      (some_is orders (λ (o : Occurrence). some (occurs_in k) (strike (get_or M o.target []) o.arguments))
      (λ (o : Occurrence). some (occurs_in k) (strike (get_or N o.target []) o.arguments)) (occurrences e)
      (every_of (occurrences e) (λ o. strike_up (occurs_in k) (get_or M o.target []) (get_or N o.target []) o.arguments (λ n. h (o.target, n))))))
      (up_to (length e.sorts)) n) s.equations x.0 x.1

-- all places
abbrev places : ℕ → List Equation → List (ℕ × ℕ)
places k [] = []
places k (e ∷ es) = map (λ n. (k, n)) (up_to (length e.sorts)) ++ places (suc k) es

pub from_mem : (k n v : ℕ) → k ≤ v → v < k + n → Memᴰ v (from k n)
from_mem k zero v l h = absurd (omega arith)
from_mem k (suc n) v l h = go (dec_le v k) (λ q. from_mem (suc k) n v q (omega arith))
  where
    go : Dec (v ≤ k) → (suc k ≤ v → Memᴰ v (from (suc k) n)) → Memᴰ v (from k (suc n))
    go (yes q) ih = Memᴰ.head (omega arith)
    go (no q) ih = Memᴰ.tail (ih (omega arith))

places_long : (k : ℕ) (es : List Equation) → length (places k es) ≡ sum (map (λ (e : Equation). length e.sorts) es)
places_long k [] = refl
places_long k (e ∷ es) =
    length-append (map (λ n. (k, n)) (up_to (length e.sorts))) (places (suc k) es) ∙
    ap₂ (λ x y. x + y) (length-map {B = ℕ × ℕ} (up_to (length e.sorts)) (λ n. (k, n)) ∙ from_long 0 (length e.sorts)) (places_long (suc k) es)

pub true_low : (xs : List Bool) (n : ℕ) → get_or xs n false ≡ true → n < length xs
true_low [] n e = absurd (false≢true e)
true_low (x ∷ xs) zero e = omega arith
true_low (x ∷ xs) (suc n) e = omega (arith, true_low xs n e)

places_mem : (g : Equation → ℕ → Bool) (k : ℕ) (es : List Equation) (i n : ℕ) →
    get_or (get_or (map (λ (e : Equation). map (g e) (up_to (length e.sorts))) es) i []) n false ≡ true → Memᴰ (k + i, n) (places k es)
places_mem g k [] i n h = absurd (false≢true h)
places_mem g k (e ∷ es) zero n h =
    Memᴰ.append_left (places (suc k) es)
    (Memᴰ.cast (λ j. (plus_zero j, n)) (Memᴰ.map (λ n. (k, n)) (from_mem 0 (length e.sorts) n (omega arith)
    (omega (arith, true_low (map (g e) (up_to (length e.sorts))) n h, length-map (up_to (length e.sorts)) (g e), from_long 0 (length e.sorts))))))
  where
    plus_zero : k + 0 ≡ k
    plus_zero = omega arith
places_mem g k (e ∷ es) (suc i) n h =
    Memᴰ.append_right (map (λ n. (k, n)) (up_to (length e.sorts))) (Memᴰ.cast (λ j. (plus_suc j, n)) (places_mem g (suc k) es i n h))
  where
    plus_suc : k + suc i ≡ suc k + i
    plus_suc = omega arith

module _ (s : System) where
  mem : (M : List (List Bool)) (x : ℕ × ℕ) → bit (marks s M) x ≡ true → Memᴰ x (places 0 s.equations)
  mem M x h =
      Memᴰ.cast (λ j. (sym (zero-add x.0) j, x.1)) (places_mem (λ e k. marked e k || feeds M e k) 0 s.equations x.0 x.1 h)

  -- what reaches a needed parameter is needed
  pub needed_closed : Sub (marks s (needed s)) (needed s)
  needed_closed =
      closes bit (marks s) [] (marks_up s) (λ x e. false≢true e) (places 0 s.equations) mem
      (sum (map (λ (e : Equation). length e.sorts) s.equations)) (omega (arith, places_long 0 s.equations))

pub get_or_from : (g : ℕ → Bool) (k n i : ℕ) → i < n → get_or (map g (from k n)) i false ≡ g (k + i)
get_or_from g k zero i l = absurd (omega arith)
get_or_from g k (suc n) zero l = ap g (omega arith)
get_or_from g k (suc n) (suc i) l = get_or_from g (suc k) n i (omega arith) ∙ ap g (omega arith)

-- the masks of R are closed
module _ (a : Alg) (s : System) (fit : SystemFits a s) (i : ℕ) (e : Equation) (p : at s.equations i ≡ Some e) where
  abbrev masks : List (List Bool)
  masks = needed s

  kept : (n r : ℕ) → at e.sorts n ≡ Some r → (marked e n || feeds masks e n) ≡ true → get_or (get_or masks i []) n false ≡ true
  kept n r l h =
      needed_closed s (i, n)
      (ap (λ z. get_or z n false) (get_or_some [] (marks s masks) i _ (at_mapped (λ (e : Equation). map (λ k. marked e k || feeds masks e k) (up_to (length e.sorts))) s.equations i e p)) ∙
      get_or_from (λ k. marked e k || feeds masks e k) 0 (length e.sorts) n (at_lt e.sorts n r l) ∙
      ap (λ z. marked e z || feeds masks e z) (zero-add n) ∙ h)

  kind_kept : (k : Kind) → OnParameters (λ n. (r : ℕ) × (at e.sorts n ≡ Some r)) k → OnParameters (λ n. (marked e n || feeds masks e n) ≡ true) k →
      OnParameters (λ n. get_or (get_or masks i []) n false ≡ true) k
  kind_kept (parameter n) (r, l) h = kept n r l h
  kind_kept (variable n) l h = tt
  kind_kept (value r v) l h = tt
  kind_kept (operation o) l h = tt
  kind_kept not l h = tt
  kind_kept and l h = tt
  kind_kept or l h = tt
  kind_kept equal l h = tt

  term_kept : (t : Term) → OnKinds t (OnParameters (λ n. (r : ℕ) × (at e.sorts n ≡ Some r))) → ((n : ℕ) → occurs_in n t ≡ true → (marked e n || feeds masks e n) ≡ true) → Keeps masks i t
  term_kept t l h = on_zip kind_kept t l (occurs_on t (λ n. (marked e n || feeds masks e n) ≡ true) h)

  arguments_kept : (m : List Bool) (ts : List Term) → Every (λ t. OnKinds t (OnParameters (λ n. (r : ℕ) × (at e.sorts n ≡ Some r)))) ts →
      ((n : ℕ) → some (occurs_in n) (strike m ts) ≡ true → (marked e n || feeds masks e n) ≡ true) → Every (Keeps masks i) (strike m ts)
  arguments_kept m ts l h =
      every_two (strike m ts) (λ t f g. term_kept t f (λ n q. h n (g n q)))
      (strike_every (λ t. OnKinds t (OnParameters (λ n. (r : ℕ) × (at e.sorts n ≡ Some r)))) m ts l) (some_each occurs_in (strike m ts))

  pub needed_is_closed : Closed masks i e
  needed_is_closed =
      let b = every_at (BodyFits a (map header_of s.equations)) s.equations i e p fit.bodies in
      let c = scope (header_of e) in
      record {
        h = term_kept e.h (fits_scoped a c b.h) (λ n q. or_left (marked e n) (feeds masks e n) (or_left (occurs_in n e.h) _ q));
        clauses = every_two e.clauses
            (λ k f g.
            record {
              guard = term_kept k.guard (fits_scoped a c f.guard) g.0;
              arguments = every_two k.occurrences
                  (λ o d r. arguments_kept (get_or masks o.target []) o.arguments
                  (every_map o.arguments (λ t z. fits_scoped a c z.1) (terms_fit a c d.header.sorts o.arguments d.fit))
                  (λ n q. g.1 n (r n q)))
                  f.fit (some_each (λ n (o : Occurrence). some (occurs_in n) (strike (get_or masks o.target []) o.arguments)) k.occurrences);
            })
            b.fit marking;
      }
    where
      marking : Every (λ (k : Clause). ((n : ℕ) → occurs_in n k.guard ≡ true → (marked e n || feeds masks e n) ≡ true) ×
          ((n : ℕ) → some (λ (o : Occurrence). some (occurs_in n) (strike (get_or masks o.target []) o.arguments)) k.occurrences ≡ true → (marked e n || feeds masks e n) ≡ true)) e.clauses
      marking =
          every_two e.clauses
          (λ k f g. ((λ n q. or_left (marked e n) (feeds masks e n) (or_right (occurs_in n e.h) _ (f n q))), (λ n q. or_right (marked e n) (feeds masks e n) (g n q))))
          (some_each (λ n (k : Clause). occurs_in n k.guard) e.clauses)
          (some_flat (λ n (o : Occurrence). some (occurs_in n) (strike (get_or masks o.target []) o.arguments)) (λ (k : Clause). k.occurrences) e.clauses)
