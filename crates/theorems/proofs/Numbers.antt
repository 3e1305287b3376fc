-- Numbering, first come: what is numbered is closed under the tokens, distinct, reached, and in the order of coming.
use Rattle.std.proofs.Common.{◌≡◌, ℕ, zero, suc, ◌+◌, ◌<◌, ◌≤◌, Bool, true, false, ◌&&◌, eqb, ◌⊎◌, List, [], ◌∷◌, ◌++◌, map, length, drop, Some, None, Option, sym, refl, ap, ◌∙◌, subst, ap₂, inl, inr, true≢false, append_assoc, append-nil, arith}
use mathlib.Core.Bool.{false≢true}
use native.Mathlib.Decide.{dec_lt}
use Rattle.std.proofs.lemmas.Bool.{eqb-true, eq-eqb}
use Rattle.definitions.specs.Lists.{at, same, some, flat}
use Rattle.definitions.specs.Alg.{Alg}
use Rattle.definitions.specs.Systems.{System}
use Rattle.definitions.specs.Truth.{Instance}
use Rattle.definitions.specs.Boolean.{vars, form, same_instance, come, comes, number_in}
use Rattle.definitions.specs.Fits.{Every}
use Rattle.definitions.specs.Reach.{ReachedInstance}
use Rattle.fixpoint.proofs.Pull.{every_append}
use Rattle.theorems.proofs.Listing.{none_some, some_same, every_at, every_with, and_left, and_right, at_lt, same_eq, same_refl}

abbrev pub Has : {A : Type 0} → List A → A → Type 0
Has l x = (j : ℕ) × (at l j ≡ Some x)

-- the same instance
pub instance_eq : (x y : Instance) → same_instance x y ≡ true → x ≡ y
instance_eq x y h =
    let p : x.0 ≡ y.0 = eqb-true x.0 y.0 (and_left (eqb x.0 y.0) (same x.1 y.1) h) in
    let q : x.1 ≡ y.1 = same_eq x.1 y.1 (and_right (eqb x.0 y.0) (same x.1 y.1) h) in
    ap₂ (λ (u : ℕ) (w : List ℕ). (u, w)) p q

pub instance_same : (x y : Instance) → x ≡ y → same_instance x y ≡ true
instance_same x y e = subst (λ z. same_instance x z ≡ true) e (ap₂ (λ p q. p && q) (eq-eqb x.0 x.0 refl) (same_refl x.1))

pub some_has : (x : Instance) (ns : List Instance) → some (same_instance x) ns ≡ true → Has ns x
some_has x [] h = absurd (false≢true h)
some_has x (y ∷ ns) h = go (some_has x ns) (same_instance x y) refl h
  where
    go : (some (same_instance x) ns ≡ true → Has ns x) → (b : Bool) → same_instance x y ≡ b → elim b [ true ↦ true | false ↦ some (same_instance x) ns ] ≡ true → Has (y ∷ ns) x
    go ih true e k = (0, ap Some (sym (instance_eq x y e)))
    go ih false e k = (suc (ih k).0, (ih k).1)

pub some_not : (x : Instance) (ns : List Instance) → some (same_instance x) ns ≡ false → Has ns x → ⊥
some_not x [] h m = none_some x m.1
some_not x (y ∷ ns) h m = go (some_not x ns) (same_instance x y) refl h m.0 m.1
  where
    go : (some (same_instance x) ns ≡ false → Has ns x → ⊥) → (b : Bool) → same_instance x y ≡ b → elim b [ true ↦ true | false ↦ some (same_instance x) ns ] ≡ false →
        (j : ℕ) → at (y ∷ ns) j ≡ Some x → ⊥
    go ih true e k j q = true≢false k
    go ih false e k zero q = true≢false (sym (instance_same x y (sym (some_same y x q))) ∙ e)
    go ih false e k (suc j) q = ih k (j, q)

-- places
pub at_none : {A : Type 0} (l : List A) (j : ℕ) → at l j ≡ None → length l ≤ j
at_none [] j e = omega arith
at_none (y ∷ l) zero e = none_some y (sym e)
at_none (y ∷ l) (suc j) e = let h : length l ≤ j = at_none l j e in omega arith

pub at_left : {A : Type 0} (l m : List A) (j : ℕ) (x : A) → at l j ≡ Some x → at (l ++ m) j ≡ Some x
at_left [] m j x e = none_some x e
at_left (y ∷ l) m zero x e = e
at_left (y ∷ l) m (suc j) x e = at_left l m j x e

pub at_back : {A : Type 0} (l m : List A) (j : ℕ) → j < length l → at (l ++ m) j ≡ at l j
at_back [] m j h = absurd (omega arith)
at_back (y ∷ l) m zero h = refl
at_back (y ∷ l) m (suc j) h = at_back l m j (omega arith)

pub at_last : {A : Type 0} (l : List A) (x : A) → at (l ++ (x ∷ [])) (length l) ≡ Some x
at_last [] x = refl
at_last (y ∷ l) x = at_last l x

pub at_snoc : {A : Type 0} (l : List A) (x : A) (j : ℕ) (y : A) → at (l ++ (x ∷ [])) j ≡ Some y → (at l j ≡ Some y) ⊎ ((j ≡ length l) × (x ≡ y))
at_snoc [] x zero y e = inr (refl, some_same x y e)
at_snoc [] x (suc j) y e = none_some y e
at_snoc (z ∷ l) x zero y e = inl e
at_snoc (z ∷ l) x (suc j) y e = go (at_snoc l x j y e)
  where
    go : (at l j ≡ Some y) ⊎ ((j ≡ length l) × (x ≡ y)) → (at l j ≡ Some y) ⊎ ((suc j ≡ suc (length l)) × (x ≡ y))
    go (inl p) = inl p
    go (inr p) = inr (ap suc p.0, p.1)

pub drop_all : {A : Type 0} (k : ℕ) (l : List A) → length l ≤ k → drop k l ≡ []
drop_all zero [] h = refl
drop_all (suc k) [] h = refl
drop_all zero (x ∷ l) h = absurd (omega arith)
drop_all (suc k) (x ∷ l) h = drop_all k l (omega arith)

pub drop_at : {A : Type 0} (k : ℕ) (l : List A) (x : A) → at l k ≡ Some x → drop k l ≡ x ∷ drop (suc k) l
drop_at k [] x e = none_some x e
drop_at zero (y ∷ l) x e = ap (λ z. z ∷ l) (some_same y x e)
drop_at (suc k) (y ∷ l) x e = drop_at k l x e

pub every_has : {A : Type 0} (P : A → Type 0) (l : List A) → ((k : ℕ) (x : A) → at l k ≡ Some x → P x) → Every P l
every_has P [] h = tt
every_has P (x ∷ l) h = (h 0 x refl, every_has P l (λ k y e. h (suc k) y e))

-- ms begins with ns
pub record Grows {A : Type 0} (ns ms : List A) : Type 0 where
  pub rest : List A
  pub is : ms ≡ ns ++ rest

pub grows_refl : {A : Type 0} (ns : List A) → Grows ns ns
grows_refl ns = record { rest = []; is = sym (append-nil ns) }

grows_snoc : {A : Type 0} (ns : List A) (x : A) {ms : List A} → Grows (ns ++ (x ∷ [])) ms → Grows ns ms
grows_snoc ns x g = record { rest = x ∷ g.rest; is = g.is ∙ append_assoc ns (x ∷ []) g.rest }

pub grows_trans : {A : Type 0} {ns ms ls : List A} → Grows ns ms → Grows ms ls → Grows ns ls
grows_trans {ns = ns} g h = record { rest = g.rest ++ h.rest; is = h.is ∙ ap (λ z. z ++ h.rest) g.is ∙ append_assoc ns g.rest h.rest }

pub grows_at : {A : Type 0} {ns ms : List A} → Grows ns ms → (j : ℕ) (x : A) → at ns j ≡ Some x → at ms j ≡ Some x
grows_at {ns = ns} g j x e = ap (λ z. at z j) g.is ∙ at_left ns g.rest j x e

grows_back : {A : Type 0} {ns ms : List A} → Grows ns ms → (j : ℕ) (x : A) → j < length ns → at ms j ≡ Some x → at ns j ≡ Some x
grows_back {ns = ns} g j x l e = sym (ap (λ z. at z j) g.is ∙ at_back ns g.rest j l) ∙ e

-- what has come
pub come_grows : (ns xs : List Instance) → Grows ns (come ns xs)
come_grows ns [] = grows_refl ns
come_grows ns (x ∷ xs) = go (come_grows ns xs) (come_grows (ns ++ (x ∷ [])) xs) (some (same_instance x) ns)
  where
    go : Grows ns (come ns xs) → Grows (ns ++ (x ∷ [])) (come (ns ++ (x ∷ [])) xs) → (b : Bool) → Grows ns (elim b [ true ↦ come ns xs | false ↦ come (ns ++ (x ∷ [])) xs ])
    go p q true = p
    go p q false = grows_snoc ns x q

pub come_has : (ns xs : List Instance) → Every (Has (come ns xs)) xs
come_has ns [] = tt
come_has ns (x ∷ xs) = go (come_has ns xs) (come_has (ns ++ (x ∷ [])) xs) (some (same_instance x) ns) refl
  where
    go : Every (Has (come ns xs)) xs → Every (Has (come (ns ++ (x ∷ [])) xs)) xs → (b : Bool) → some (same_instance x) ns ≡ b →
        Every (Has (elim b [ true ↦ come ns xs | false ↦ come (ns ++ (x ∷ [])) xs ])) (x ∷ xs)
    go p q true e = let (j, h) = some_has x ns e in ((j, grows_at (come_grows ns xs) j x h), p)
    go p q false e = ((length ns, grows_at (come_grows (ns ++ (x ∷ [])) xs) (length ns) x (at_last ns x)), q)

pub come_keeps : (P : Instance → Type 0) (ns xs : List Instance) → Every P ns → Every P xs → Every P (come ns xs)
come_keeps P ns [] h k = h
come_keeps P ns (x ∷ xs) h k =
    go (come_keeps P ns xs h k.1) (come_keeps P (ns ++ (x ∷ [])) xs (every_append P ns (x ∷ []) h (k.0, tt)) k.1) (some (same_instance x) ns)
  where
    go : Every P (come ns xs) → Every P (come (ns ++ (x ∷ [])) xs) → (b : Bool) → Every P (elim b [ true ↦ come ns xs | false ↦ come (ns ++ (x ∷ [])) xs ])
    go p q true = p
    go p q false = q

abbrev pub Distinct : List Instance → Type 0
Distinct l = (i j : ℕ) (x : Instance) → at l i ≡ Some x → at l j ≡ Some x → i ≡ j

distinct_snoc : (ns : List Instance) (x : Instance) → (Has ns x → ⊥) → Distinct ns → Distinct (ns ++ (x ∷ []))
distinct_snoc ns x new d i j y p q = go (at_snoc ns x i y p) (at_snoc ns x j y q)
  where
    go : (at ns i ≡ Some y) ⊎ ((i ≡ length ns) × (x ≡ y)) → (at ns j ≡ Some y) ⊎ ((j ≡ length ns) × (x ≡ y)) → i ≡ j
    go (inl u) (inl w) = d i j y u w
    go (inl u) (inr w) = absurd (new (i, u ∙ ap Some (sym w.1)))
    go (inr u) (inl w) = absurd (new (j, w ∙ ap Some (sym u.1)))
    go (inr u) (inr w) = u.0 ∙ sym w.0

come_distinct : (ns xs : List Instance) → Distinct ns → Distinct (come ns xs)
come_distinct ns [] d = d
come_distinct ns (x ∷ xs) d = go (come_distinct ns xs d) (come_distinct (ns ++ (x ∷ [])) xs) (some (same_instance x) ns) refl
  where
    go : Distinct (come ns xs) → (Distinct (ns ++ (x ∷ [])) → Distinct (come (ns ++ (x ∷ [])) xs)) → (b : Bool) → some (same_instance x) ns ≡ b →
        Distinct (elim b [ true ↦ come ns xs | false ↦ come (ns ++ (x ∷ [])) xs ])
    go p q true e = p
    go p q false e = q (distinct_snoc ns x (some_not x ns e) d)

pub come_append : (ns xs ys : List Instance) → come (come ns xs) ys ≡ come ns (xs ++ ys)
come_append ns [] ys = refl
come_append ns (x ∷ xs) ys = go (come_append ns xs ys) (come_append (ns ++ (x ∷ [])) xs ys) (some (same_instance x) ns)
  where
    go : come (come ns xs) ys ≡ come ns (xs ++ ys) → come (come (ns ++ (x ∷ [])) xs) ys ≡ come (ns ++ (x ∷ [])) (xs ++ ys) → (b : Bool) →
        come (elim b [ true ↦ come ns xs | false ↦ come (ns ++ (x ∷ [])) xs ]) ys ≡ elim b [ true ↦ come ns (xs ++ ys) | false ↦ come (ns ++ (x ∷ [])) (xs ++ ys) ]
    go p q true = p
    go p q false = q

module _ (a : Alg) (s : System) where
  abbrev pub Closed : List Instance → List Instance → ℕ → Type 0
  Closed ms ns k = (j : ℕ) (x : Instance) → j < k → at ns j ≡ Some x → Every (Has ms) (vars (form a s x))

  pub comes_grows : (n k : ℕ) (ns : List Instance) → Grows ns (comes n a s k ns)
  comes_grows zero k ns = grows_refl ns
  comes_grows (suc n) k ns = go (λ x. comes_grows n (suc k) (come ns (vars (form a s x)))) (at ns k)
    where
      go : ((x : Instance) → Grows (come ns (vars (form a s x))) (comes n a s (suc k) (come ns (vars (form a s x))))) → (o : Option Instance) →
          Grows ns (elim o [ None ↦ ns | Some x ↦ comes n a s (suc k) (come ns (vars (form a s x))) ])
      go p None = grows_refl ns
      go p (Some x) = grows_trans (come_grows ns (vars (form a s x))) (p x)

  pub comes_keep : (P : Instance → Type 0) → ((x : Instance) → P x → Every P (vars (form a s x))) → (n k : ℕ) (ns : List Instance) → Every P ns → Every P (comes n a s k ns)
  comes_keep P step zero k ns h = h
  comes_keep P step (suc n) k ns h = go (λ x m. comes_keep P step n (suc k) (come ns (vars (form a s x))) m) (at ns k) refl
    where
      go : ((x : Instance) → Every P (come ns (vars (form a s x))) → Every P (comes n a s (suc k) (come ns (vars (form a s x))))) → (o : Option Instance) → at ns k ≡ o →
          Every P (elim o [ None ↦ ns | Some x ↦ comes n a s (suc k) (come ns (vars (form a s x))) ])
      go p None e = h
      go p (Some x) e = p x (come_keeps P ns (vars (form a s x)) h (step x (every_at P ns k x e h)))

  pub comes_distinct : (n k : ℕ) (ns : List Instance) → Distinct ns → Distinct (comes n a s k ns)
  comes_distinct zero k ns d = d
  comes_distinct (suc n) k ns d = go (λ x m. comes_distinct n (suc k) (come ns (vars (form a s x))) m) (at ns k)
    where
      go : ((x : Instance) → Distinct (come ns (vars (form a s x))) → Distinct (comes n a s (suc k) (come ns (vars (form a s x))))) → (o : Option Instance) →
          Distinct (elim o [ None ↦ ns | Some x ↦ comes n a s (suc k) (come ns (vars (form a s x))) ])
      go p None = d
      go p (Some x) = p x (come_distinct ns (vars (form a s x)) d)

  -- one more is closed
  pub more_closed : (k : ℕ) (ns : List Instance) (x : Instance) → at ns k ≡ Some x → Closed ns ns k →
      Closed (come ns (vars (form a s x))) (come ns (vars (form a s x))) (suc k)
  more_closed k ns x e c j y l h = go (dec_lt j k)
    where
      up : (z : Instance) → Has ns z → Has (come ns (vars (form a s x))) z
      up z m = (m.0, grows_at (come_grows ns (vars (form a s x))) m.0 z m.1)

      here : at ns j ≡ Some y
      here = grows_back (come_grows ns (vars (form a s x))) j y (let b : k < length ns = at_lt ns k x e in omega arith) h

      go : Dec (j < k) → Every (Has (come ns (vars (form a s x)))) (vars (form a s y))
      go (yes q) = every_with (Has ns) (Has (come ns (vars (form a s x)))) (vars (form a s y)) (c j y q here) up
      go (no q) =
          let i : j ≡ k = omega arith in
          let w : x ≡ y = some_same x y (sym e ∙ ap (at ns) (sym i) ∙ here) in
          subst (λ z. Every (Has (come ns (vars (form a s x)))) (vars (form a s z))) w (come_has ns (vars (form a s x)))

  pub comes_closed : (n k : ℕ) (ns : List Instance) → Closed ns ns k → length (comes n a s k ns) ≤ n + k →
      (j : ℕ) (x : Instance) → at (comes n a s k ns) j ≡ Some x → Every (Has (comes n a s k ns)) (vars (form a s x))
  comes_closed zero k ns c l j x e = c j x (let b : j < length ns = at_lt ns j x e in omega arith) e
  comes_closed (suc n) k ns c l j x e = go (λ x. comes_closed n (suc k) (come ns (vars (form a s x)))) (at ns k) refl l j x e
    where
      go : ((x : Instance) → Closed (come ns (vars (form a s x))) (come ns (vars (form a s x))) (suc k) → length (comes n a s (suc k) (come ns (vars (form a s x)))) ≤ n + suc k →
          (j : ℕ) (y : Instance) → at (comes n a s (suc k) (come ns (vars (form a s x)))) j ≡ Some y → Every (Has (comes n a s (suc k) (come ns (vars (form a s x))))) (vars (form a s y))) →
          (o : Option Instance) → at ns k ≡ o → length {A = Instance} (elim o [ None ↦ ns | Some x ↦ comes n a s (suc k) (come ns (vars (form a s x))) ]) ≤ suc n + k →
          (j : ℕ) (y : Instance) → at {A = Instance} (elim o [ None ↦ ns | Some x ↦ comes n a s (suc k) (come ns (vars (form a s x))) ]) j ≡ Some y →
          Every (Has {A = Instance} (elim o [ None ↦ ns | Some x ↦ comes n a s (suc k) (come ns (vars (form a s x))) ])) (vars (form a s y))
      go p None e m j y q = c j y (let b : j < length ns = at_lt ns j y q in let b' : length ns ≤ k = at_none ns k e in omega arith) q
      go p (Some x) e m j y q = p x (more_closed k ns x e c) (omega arith) j y q

  -- the order: what has come is what comes of the tokens of the members from k on
  abbrev pub tokens_of : List Instance → List Instance
  tokens_of l = flat (map (λ x. vars (form a s x)) l)

  pub comes_order : (n k : ℕ) (ns : List Instance) → length (comes n a s k ns) ≤ n + k → comes n a s k ns ≡ come ns (tokens_of (drop k (comes n a s k ns)))
  comes_order zero k ns l = ap (λ z. come ns (tokens_of z)) (sym (drop_all k ns (omega arith)))
  comes_order (suc n) k ns l = go (λ x. comes_order n (suc k) (come ns (vars (form a s x)))) (at ns k) refl l
    where
      go : ((x : Instance) → length (comes n a s (suc k) (come ns (vars (form a s x)))) ≤ n + suc k →
          comes n a s (suc k) (come ns (vars (form a s x))) ≡ come (come ns (vars (form a s x))) (tokens_of (drop (suc k) (comes n a s (suc k) (come ns (vars (form a s x))))))) →
          (o : Option Instance) → at ns k ≡ o → length {A = Instance} (elim o [ None ↦ ns | Some x ↦ comes n a s (suc k) (come ns (vars (form a s x))) ]) ≤ suc n + k →
          ◌≡◌ {A = List Instance} (elim o [ None ↦ ns | Some x ↦ comes n a s (suc k) (come ns (vars (form a s x))) ])
          (come ns (tokens_of (drop k (elim o [ None ↦ ns | Some x ↦ comes n a s (suc k) (come ns (vars (form a s x))) ]))))
      go p None e m = ap (λ z. come ns (tokens_of z)) (sym (drop_all k ns (at_none ns k e)))
      go p (Some x) e m =
          let r = comes n a s (suc k) (come ns (vars (form a s x))) in
          let g = grows_trans (come_grows ns (vars (form a s x))) (comes_grows n (suc k) (come ns (vars (form a s x)))) in
          p x (omega arith) ∙ come_append ns (vars (form a s x)) (tokens_of (drop (suc k) r)) ∙
          ap (λ z. come ns (tokens_of z)) (sym (drop_at k r x (grows_at g k x e)))

  -- what is known of a complete numbering
  pub record Numbering (r : List Instance) : Type 0 where
    pub closed : (j : ℕ) (x : Instance) → at r j ≡ Some x → Every (Has r) (vars (form a s x))
    pub reached : Every (ReachedInstance a s) r
    pub once : Distinct r
    pub first : at r 0 ≡ Some (s.start, s.values)
    pub order : r ≡ come [] ((s.start, s.values) ∷ tokens_of r)

  pub one_distinct : (x : Instance) → Distinct (x ∷ [])
  one_distinct x zero zero y p q = refl
  one_distinct x zero (suc j) y p q = none_some y q
  one_distinct x (suc i) j y p q = none_some y p

  pub tokens_reached : (x : Instance) → ReachedInstance a s x → Every (ReachedInstance a s) (vars (form a s x))
  tokens_reached x h = every_has (ReachedInstance a s) (vars (form a s x)) (λ k y e. ReachedInstance.token k h e)

  pub complete : (n : ℕ) → length (comes n a s 0 ((s.start, s.values) ∷ [])) ≤ n → Numbering (comes n a s 0 ((s.start, s.values) ∷ []))
  complete n l =
      record {
        closed = comes_closed n 0 ((s.start, s.values) ∷ []) (λ j x h. absurd (omega arith)) (omega arith);
        reached = comes_keep (ReachedInstance a s) tokens_reached n 0 ((s.start, s.values) ∷ []) (ReachedInstance.start, tt);
        once = comes_distinct n 0 ((s.start, s.values) ∷ []) (one_distinct (s.start, s.values));
        first = grows_at (comes_grows n 0 ((s.start, s.values) ∷ [])) 0 (s.start, s.values) refl;
        order = comes_order n 0 ((s.start, s.values) ∷ []) (omega arith);
      }

  pub all_reached : (r : List Instance) → Numbering r → {x : Instance} → ReachedInstance a s x → Has r x
  all_reached r n ReachedInstance.start = (0, n.first)
  all_reached r n (ReachedInstance.token {x} {y} k h e) =
      let m = all_reached r n h in
      every_at (Has r) (vars (form a s x)) k y e (n.closed m.0 x m.1)

pub number_at : (ns : List Instance) (x : Instance) → Has ns x → at ns (number_in ns x) ≡ Some x
number_at [] x m = none_some x m.1
number_at (y ∷ ns) x m = go (number_at ns x) (same_instance y x) refl m.0 m.1
  where
    go : (Has ns x → at ns (number_in ns x) ≡ Some x) → (b : Bool) → same_instance y x ≡ b → (j : ℕ) → at (y ∷ ns) j ≡ Some x →
        at (y ∷ ns) (elim b [ true ↦ 0 | false ↦ suc (number_in ns x) ]) ≡ Some x
    go ih true e j q = ap Some (instance_eq y x e)
    go ih false e zero q = absurd (true≢false (sym (instance_same y x (some_same y x q)) ∙ e))
    go ih false e (suc j) q = ih (j, q)
