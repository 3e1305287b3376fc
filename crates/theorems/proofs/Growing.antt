-- Walking a numbering while it grows: what was written of the members that were walked stays right.
use Rattle.std.proofs.Common.{◌≡◌, ℕ, zero, suc, ◌+◌, ◌<◌, ◌≤◌, List, [], ◌∷◌, ◌++◌, map, length, take, Some, None, Option, sym, refl, ap, ◌∙◌, ap₂, append_assoc, append-nil, length-append, arith}
use Rattle.std.proofs.lemmas.List.{take_all}
use Rattle.definitions.specs.Lists.{at, flat}
use Rattle.definitions.specs.Bits.{bits}
use Rattle.definitions.specs.Alg.{Alg}
use Rattle.definitions.specs.Systems.{System}
use Rattle.definitions.specs.Truth.{Instance}
use Rattle.definitions.specs.Boolean.{vars, form, come, comes, number_in, variable_of, variable_bits}
use Rattle.definitions.specs.Written.{sign_bits}
use Rattle.definitions.specs.Fits.{Every}
use Rattle.theorems.proofs.Listing.{none_some, some_same, at_lt, every_with}
use Rattle.theorems.proofs.Coming.{number_more, form_asks}
use Rattle.theorems.proofs.Numbers.{Has, Grows, grows_at, at_none, come_grows, comes_grows, Closed, more_closed}

-- a member keeps its number when more come
number_stays : (ns ms : List Instance) → Grows ns ms → (x : Instance) → Has ns x → number_in ns x ≡ number_in ms x
number_stays ns ms g x m = sym (ap (λ l. number_in l x) g.is ∙ number_more ns g.rest x m)

-- the first members
take_back : {A : Type 0} (k : ℕ) (l m : List A) → k ≤ length l → take k (l ++ m) ≡ take k l
take_back zero l m h = refl
take_back (suc k) [] m h = absurd (omega arith)
take_back (suc k) (x ∷ l) m h = ap (λ z. x ∷ z) (take_back k l m (omega arith))

take_next : {A : Type 0} (k : ℕ) (l : List A) (x : A) → at l k ≡ Some x → take (suc k) l ≡ take k l ++ (x ∷ [])
take_next k [] x e = none_some x e
take_next zero (y ∷ l) x e = ap (λ z. z ∷ []) (some_same y x e)
take_next (suc k) (y ∷ l) x e = ap (λ z. y ∷ z) (take_next k l x e)

take_at : {A : Type 0} (k j : ℕ) (l : List A) (x : A) → at (take k l) j ≡ Some x → (j < k) × (at l j ≡ Some x)
take_at zero j l x e = none_some x e
take_at (suc k) j [] x e = none_some x e
take_at (suc k) zero (y ∷ l) x e = (omega arith, e)
take_at (suc k) (suc j) (y ∷ l) x e = let r = take_at k j l x e in (let h = r.0 in omega arith, r.1)

flat_append : {A : Type 0} (xs ys : List (List A)) → flat (xs ++ ys) ≡ flat xs ++ flat ys
flat_append [] ys = refl
flat_append (x ∷ xs) ys = ap (λ z. x ++ z) (flat_append xs ys) ∙ sym (append_assoc x (flat xs) (flat ys))

map_append : {A B : Type 0} (f : A → B) (xs ys : List A) → map f (xs ++ ys) ≡ map f xs ++ map f ys
map_append f [] ys = refl
map_append f (x ∷ xs) ys = ap (λ z. f x ∷ z) (map_append f xs ys)

map_agree : {A B : Type 0} (f g : A → B) (l : List A) → ((j : ℕ) (x : A) → at l j ≡ Some x → f x ≡ g x) → map f l ≡ map g l
map_agree f g [] h = refl
map_agree f g (x ∷ l) h = ap₂ (λ y ys. y ∷ ys) (h 0 x refl) (map_agree f g l (λ j y e. h (suc j) y e))

module _ (a : Alg) (s : System) where
  -- the bits of the members xs, named by their numbers in ns
  abbrev pub member_bits : List Instance → List Instance → List ℕ
  member_bits ns xs = flat (map (λ x. variable_bits (variable_of a s ns x)) xs)

  bits_agree : (ns ms : List Instance) → Grows ns ms → (x : Instance) → Every (Has ns) (vars (form a s x)) →
      variable_bits (variable_of a s ns x) ≡ variable_bits (variable_of a s ms x)
  bits_agree ns ms g x h =
      ap (λ z. sign_bits (variable_of a s ns x).sign ++ (bits 5 x.0 ++ z))
      (form_asks (form a s x) (number_in ns) (number_in ms) (every_with (Has ns) (λ y. number_in ns y ≡ number_in ms y) (vars (form a s x)) h (number_stays ns ms g)))

  members_agree : (k : ℕ) (ns ms : List Instance) → k ≤ length ns → Grows ns ms → Closed a s ns ns k → member_bits ns (take k ns) ≡ member_bits ms (take k ms)
  members_agree k ns ms l g c =
      ap flat (map_agree (λ x. variable_bits (variable_of a s ns x)) (λ x. variable_bits (variable_of a s ms x)) (take k ns)
      (λ j x e. let r = take_at k j ns x e in bits_agree ns ms g x (c j x r.0 r.1))) ∙
      ap (member_bits ms) (sym (ap (take k) g.is ∙ take_back k ns g.rest l))

  members_next : (k : ℕ) (ns : List Instance) (x : Instance) → at ns k ≡ Some x →
      member_bits ns (take k ns) ++ variable_bits (variable_of a s ns x) ≡ member_bits ns (take (suc k) ns)
  members_next k ns x e =
      let f = λ (y : Instance). variable_bits (variable_of a s ns y) in
      ap (λ z. member_bits ns (take k ns) ++ z) (sym (append-nil (f x))) ∙
      sym (flat_append (map f (take k ns)) (f x ∷ [])) ∙
      ap flat (sym (map_append f (take k ns) (x ∷ []))) ∙
      ap (member_bits ns) (sym (take_next k ns x e))

  -- of a numbering in n steps k are done: ns has come, the bits bs are written, and `left` steps are left
  pub record Walked (n k : ℕ) (ns : List Instance) (bs : List ℕ) : Type 0 where
    pub left : ℕ
    pub steps : left + k ≡ n
    pub rest : comes left a s k ns ≡ comes n a s 0 ((s.start, s.values) ∷ [])
    pub wrote : bs ≡ bits 12 0 ++ member_bits ns (take k ns)
    pub closed : Closed a s ns ns k
    pub passed : k ≤ length ns

  pub walk_begins : (n : ℕ) → Walked n 0 ((s.start, s.values) ∷ []) (bits 12 0)
  walk_begins n =
      record {
        left = n;
        steps = omega arith;
        rest = refl;
        wrote = sym (append-nil (bits 12 0));
        closed = λ j x l. absurd (omega arith);
        passed = omega arith;
      }

  step : (left n k : ℕ) (ns : List Instance) (x : Instance) (whole : List Instance) → at ns k ≡ Some x → left + k ≡ n → k < n → comes left a s k ns ≡ whole →
      (m : ℕ) × (m + suc k ≡ n) × (comes m a s (suc k) (come ns (vars (form a s x))) ≡ whole)
  step zero n k ns x whole e l h r = absurd (omega arith)
  step (suc m) n k ns x whole e l h r =
      (m, omega arith, sym (ap (λ (o : Option Instance). elim o as (λ _. List Instance) [ None ↦ ns | Some y ↦ comes m a s (suc k) (come ns (vars (form a s y))) ]) e) ∙ r)

  pub walk_goes : (n k : ℕ) (ns : List Instance) (bs : List ℕ) (x : Instance) → Walked n k ns bs → at ns k ≡ Some x → k < n →
      Walked n (suc k) (come ns (vars (form a s x))) (bs ++ variable_bits (variable_of a s (come ns (vars (form a s x))) x))
  walk_goes n k ns bs x w e h =
      let ms = come ns (vars (form a s x)) in
      let g = come_grows ns (vars (form a s x)) in
      let t = step w.left n k ns x (comes n a s 0 ((s.start, s.values) ∷ [])) e w.steps h w.rest in
      let there : at ms k ≡ Some x = grows_at g k x e in
      let b = variable_bits (variable_of a s ms x) in
      record {
        left = t.0;
        steps = t.1;
        rest = t.2;
        wrote =
            ap (λ z. z ++ b) (w.wrote ∙ ap (λ z. bits 12 0 ++ z) (members_agree k ns ms w.passed g w.closed)) ∙
            append_assoc (bits 12 0) (member_bits ms (take k ms)) b ∙
            ap (λ z. bits 12 0 ++ z) (members_next k ms x there);
        closed = more_closed a s k ns x e w.closed;
        passed = let l : k < length ms = at_lt ms k x there in omega arith;
      }

  -- what has come after one step more is no more than comes in all
  pub walk_within : (n k : ℕ) (ns : List Instance) (bs : List ℕ) (x : Instance) → Walked n k ns bs → at ns k ≡ Some x → k < n →
      length (come ns (vars (form a s x))) ≤ length (comes n a s 0 ((s.start, s.values) ∷ []))
  walk_within n k ns bs x w e h =
      let ms = come ns (vars (form a s x)) in
      let t = step w.left n k ns x (comes n a s 0 ((s.start, s.values) ∷ [])) e w.steps h w.rest in
      let g = comes_grows a s t.0 (suc k) ms in
      grows_long ms g.rest (comes n a s 0 ((s.start, s.values) ∷ [])) (sym t.2 ∙ g.is)
    where
      grows_long : (ms rest whole : List Instance) → whole ≡ ms ++ rest → length ms ≤ length whole
      grows_long ms rest whole q = let l = ap length q ∙ length-append ms rest in omega arith

  -- all are walked: the members are all, and so are their bits
  pub record AllWalked (n : ℕ) (ns : List Instance) (bs : List ℕ) : Type 0 where
    pub whole : ns ≡ comes n a s 0 ((s.start, s.values) ∷ [])
    pub wrote : bs ≡ bits 12 0 ++ member_bits ns ns

  finished : (left k : ℕ) (ns : List Instance) → at ns k ≡ None → comes left a s k ns ≡ ns
  finished zero k ns e = refl
  finished (suc m) k ns e = ap (λ (o : Option Instance). elim o as (λ _. List Instance) [ None ↦ ns | Some y ↦ comes m a s (suc k) (come ns (vars (form a s y))) ]) e

  pub walk_ends : (n k : ℕ) (ns : List Instance) (bs : List ℕ) → Walked n k ns bs → at ns k ≡ None → AllWalked n ns bs
  walk_ends n k ns bs w e =
      record {
        whole = sym (finished w.left k ns e) ∙ w.rest;
        wrote = w.wrote ∙ ap (λ z. bits 12 0 ++ member_bits ns z) (take_all k ns (at_none ns k e));
      }

  pub walk_full : (n k : ℕ) (ns : List Instance) (bs : List ℕ) → Walked n k ns bs → length ns ≤ k → AllWalked n ns bs
  walk_full n k ns bs w h = walk_ends n k ns bs w (at_behind ns k h)
    where
      at_behind : (l : List Instance) (k : ℕ) → length l ≤ k → at l k ≡ None
      at_behind [] k h = refl
      at_behind (y ∷ l) zero h = absurd (omega arith)
      at_behind (y ∷ l) (suc k) h = at_behind l k (omega arith)

-- at least the start comes
pub start_comes : (a : Alg) (s : System) (n : ℕ) → 1 ≤ length (comes n a s 0 ((s.start, s.values) ∷ []))
start_comes a s n =
    let g = comes_grows a s n 0 ((s.start, s.values) ∷ []) in
    let l = ap length g.is in
    omega arith
