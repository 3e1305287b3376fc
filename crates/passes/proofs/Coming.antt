-- What came to a first-come list: one record more, and loops of them.
use Rattle.std.proofs.Common.{◌≡◌, ℕ, zero, suc, ◌+◌, ◌<◌, ◌≤◌, ◌⊎◌, inl, inr, Bool, true, false, List, [], ◌∷◌, ◌++◌, length, get_or, Some, None, Ok, Err, Result, sym, refl, ap, ap₂, ◌∙◌, subst, arith}
use Rattle.std.proofs.lemmas.List.{length-take-le, length-append}
use native.Mathlib.Decide.{dec_lt}
use Rattle.definitions.specs.Lists.{at, some}
use Rattle.theorems.proofs.Listing.{none_some, some_same, at_lt, at_some, get_or_some}
use Rattle.theorems.proofs.Numbers.{at_left, at_last, at_snoc}
use Rattle.theorems.proofs.Gathered.{tested_has, tested_not}
use Rattle.firstcome.specs.declared.FirstCome.{FirstCome}
use Rattle.firstcome.specs.Coming.{listed, Comes}
use Rattle.system.specs.Walks.{Pairs}
use Rattle.passes.specs.declared.plan.Missing.{Missing}
use Rattle.passes.specs.Comes.{Has, Once, Passing, Room, Brought, Brings}

pub listed_long : {T : Type 0} (l : FirstCome T) → length (listed l) ≡ l.len
listed_long l = length-take-le l.len l.items.now l.within

-- one record more
module _ {T : Type 0} (p : T → Bool) (x : T) (yes : p x ≡ true) where
  snoc_once : (xs : List T) → Once xs → (Has xs x → ⊥) → Once (xs ++ (x ∷ []))
  snoc_once xs once new i j y e f = go (at_snoc xs x i y e) (at_snoc xs x j y f)
    where
      go : (at xs i ≡ Some y) ⊎ ((i ≡ length xs) × (x ≡ y)) → (at xs j ≡ Some y) ⊎ ((j ≡ length xs) × (x ≡ y)) → i ≡ j
      go (inl e) (inl f) = once i j y e f
      go (inl e) (inr f) = absurd (new (i, e ∙ ap Some (sym f.1)))
      go (inr e) (inl f) = absurd (new (j, f ∙ ap Some (sym e.1)))
      go (inr e) (inr f) = e.0 ∙ sym f.0

  snoc_passing : (xs : List T) → Passing p xs → Passing p (xs ++ (x ∷ []))
  snoc_passing xs pass k y e = go (at_snoc xs x k y e)
    where
      go : (at xs k ≡ Some y) ⊎ ((k ≡ length xs) × (x ≡ y)) → p y ≡ true
      go (inl e) = pass k y e
      go (inr e) = ap p (sym e.1) ∙ yes

  module _ (same : T → Bool) (exact : (y : T) → same y ≡ true → y ≡ x) (own : same x ≡ true) (old new : FirstCome T) (room : Room p old) where
    -- it is not refused
    pub come_fits : Comes same x old new None → ⊥
    come_fits h =
        let n = room.places (listed old ++ (x ∷ [])) (snoc_once (listed old) room.once (tested_not same x exact own (listed old) h.is_new)) (snoc_passing (listed old) room.pass) in
        omega (arith, n, length-append (listed old) (x ∷ []), listed_long old, h.full)

    pub come_brought : (i : ℕ) → Comes same x old new (Some i) → Brought p (λ y. y ≡ x) old new
    come_brought i h = go (some same (listed old)) refl h.lists
      where
        go : (b : Bool) → some same (listed old) ≡ b → listed new ≡ elim b [ true ↦ listed old | false ↦ listed old ++ (x ∷ []) ] → Brought p (λ y. y ≡ x) old new
        go true s e =
            record {
              room = record {
                once = subst Once (sym e) room.once;
                pass = subst (Passing p) (sym e) room.pass;
                places = λ xs o q. subst (λ n. length xs ≤ n) (sym h.places) (room.places xs o q);
              };
              kept = λ k y q. ap (λ ys. at ys k) e ∙ q;
              came = λ y q. subst (λ ys. Has ys y) (sym e) (subst (Has (listed old)) (sym q) (tested_has same x exact own (listed old) s));
            }
        go false s e =
            record {
              room = record {
                once = subst Once (sym e) (snoc_once (listed old) room.once (tested_not same x exact own (listed old) s));
                pass = subst (Passing p) (sym e) (snoc_passing (listed old) room.pass);
                places = λ xs o q. subst (λ n. length xs ≤ n) (sym h.places) (room.places xs o q);
              };
              kept = λ k y q. ap (λ ys. at ys k) e ∙ at_left (listed old) (x ∷ []) k y q;
              came = λ y q. subst (λ ys. Has ys y) (sym e) (length (listed old), at_last (listed old) x ∙ ap Some (sym q));
            }

-- loops: what is wanted for each of the first i things is wanted
abbrev pub Front : {Y T : Type 0} → (ℕ → Y → T → Type 0) → List Y → ℕ → T → Type 0
Front {Y} W ys i x = (j : ℕ) × (y : Y) × (j < i) × (at ys j ≡ Some y) × W j y x

module _ {T : Type 0} (p : T → Bool) where
  pub brought_none : {W : T → Type 0} (l : FirstCome T) → Room p l → ((x : T) → W x → ⊥) → Brought p W l l
  brought_none l room none = record { room = room; kept = λ k x e. e; came = λ x w. absurd (none x w) }

  pub brought_as : {V W : T → Type 0} {old new : FirstCome T} → ((x : T) → W x → V x) → Brought p V old new → Brought p W old new
  brought_as f b = record { room = b.room; kept = b.kept; came = λ x w. b.came x (f x w) }

  pub brought_then : {V W : T → Type 0} {old mid new : FirstCome T} → Brought p V old mid → Brought p W mid new → Brought p (λ x. V x ⊎ W x) old new
  brought_then {V} {W} {new = new} b c =
      record {
        room = c.room;
        kept = λ k x e. c.kept k x (b.kept k x e);
        came = λ x w. go x w;
      }
    where
      go : (x : T) → V x ⊎ W x → Has (listed new) x
      go x (inl v) = let h = b.came x v in (h.0, c.kept h.0 x h.1)
      go x (inr w) = c.came x w

  module _ {Y : Type 0} (W : ℕ → Y → T → Type 0) (ys : List Y) where
    pub front_first : (l : FirstCome T) → Room p l → Brought p (Front W ys 0) l l
    front_first l room = brought_none l room (λ x w. let h = w.2 in absurd (omega arith))

    pub front_next : {old mid new : FirstCome T} (i : ℕ) (y : Y) → at ys i ≡ Some y → Brought p (Front W ys i) old mid → Brought p (W i y) mid new → Brought p (Front W ys (i + 1)) old new
    front_next i y e b c = brought_as (λ x w. split x w.0 w.1 w.2 w.3 w.4) (brought_then b c)
      where
        split : (x : T) (j : ℕ) (z : Y) → j < i + 1 → at ys j ≡ Some z → W j z x → Front W ys i x ⊎ W i y x
        split x j z l q w = go (dec_lt j i)
          where
            go : Dec (j < i) → Front W ys i x ⊎ W i y x
            go (yes m) = inl (j, z, m, q, w)
            go (no m) = let same : j ≡ i = omega arith in inr (subst (λ u. W i u x) (some_same z y (sym q ∙ ap (at ys) same ∙ e)) (subst (λ m. W m z x) same w))

    pub front_end : {V : T → Type 0} {old new : FirstCome T} (i : ℕ) → length ys ≤ i → ((x : T) → V x → (k : ℕ) × (y : Y) × (at ys k ≡ Some y) × W k y x) → Brought p (Front W ys i) old new → Brought p V old new
    front_end i all f b = brought_as (λ x v. let h = f x v in let l = at_lt ys h.0 h.1 h.2 in (h.0, h.1, omega arith, h.2, h.3)) b

-- the item of a loop over a slice
pub item_at : {A : Type 0} (xs : List A) (i : ℕ) (x : A) → i < length xs → x ≡ get_or xs i x → at xs i ≡ Some x
item_at xs i x l e = let h = at_some xs i l in h.1 ∙ ap Some (sym (e ∙ get_or_some x xs i h.0 h.1))

-- a thing that belongs to one of a list
pub pair_at : {X Y : Type 0} (R : X → Y → Type 0) (xs : List X) (ys : List Y) (i : ℕ) (x : X) → Pairs R xs ys → at xs i ≡ Some x → (y : Y) × (at ys i ≡ Some y) × R x y
pair_at R [] ys i x h e = none_some x e
pair_at R (z ∷ xs) [] i x h e = absurd h
pair_at R (z ∷ xs) (y ∷ ys) zero x h e = (y, refl, subst (λ w. R w y) (some_same z x e) h.0)
pair_at R (z ∷ xs) (y ∷ ys) (suc i) x h e = pair_at R xs ys i x h.1 e

pub pair_back : {X Y : Type 0} (R : X → Y → Type 0) (xs : List X) (ys : List Y) (i : ℕ) (y : Y) → Pairs R xs ys → at ys i ≡ Some y → (x : X) × (at xs i ≡ Some x) × R x y
pair_back R xs [] i y h e = none_some y e
pair_back R [] (z ∷ ys) i y h e = absurd h
pair_back R (x ∷ xs) (z ∷ ys) zero y h e = (x, refl, subst (R x) (some_same z y e) h.0)
pair_back R (x ∷ xs) (z ∷ ys) (suc i) y h e = pair_back R xs ys i y h.1 e

pub pairs_long : {X Y : Type 0} (R : X → Y → Type 0) (xs : List X) (ys : List Y) → Pairs R xs ys → length xs ≡ length ys
pairs_long R [] [] h = refl
pairs_long R [] (y ∷ ys) h = absurd h
pairs_long R (x ∷ xs) [] h = absurd h
pairs_long R (x ∷ xs) (y ∷ ys) h = ap suc (pairs_long R xs ys h.1)

-- what a call brought, said of more
pub brings_as : {T : Type 0} (p : T → Bool) {V W : T → Type 0} {old mid new : FirstCome T} (r : Result (Unit {0}) Missing) → (Brought p V mid new → Brought p W old new) → Brings p V mid new r → Brings p W old new r
brings_as p (Ok u) f b = f b
brings_as p (Err e) f b = b

pub brought_after : {T : Type 0} (p : T → Bool) {V W : T → Type 0} {old mid new : FirstCome T} → Brought p V old mid → Brought p W mid new → Brought p W old new
brought_after p b c = record { room = c.room; kept = λ k x e. c.kept k x (b.kept k x e); came = c.came }

-- a list to which nothing came
pub fresh_room : {T : Type 0} (p : T → Bool) (l : FirstCome T) → l.len ≡ 0 → ((xs : List T) → Once xs → Passing p xs → length xs ≤ length l.items.now) → Room p l
fresh_room {T} p l e few =
    record {
      once = λ i j x q r. absurd (none i x q);
      pass = λ k x q. absurd (none k x q);
      places = few;
    }
  where
    none : (k : ℕ) (x : T) → at (listed l) k ≡ Some x → ⊥
    none k x q = let low = at_lt (listed l) k x q in omega (arith, listed_long l, e)

-- a list that others stand before, and one as long
pub kept_long : {T : Type 0} (xs ys : List T) → ((k : ℕ) (x : T) → at xs k ≡ Some x → at ys k ≡ Some x) → length xs ≤ length ys
kept_long [] ys h = omega arith
kept_long (x ∷ xs) [] h = none_some x (h 0 x refl)
kept_long (x ∷ xs) (y ∷ ys) h = omega (arith, kept_long xs ys (λ k z e. h (suc k) z e))

pub kept_same : {T : Type 0} (xs ys : List T) → ((k : ℕ) (x : T) → at xs k ≡ Some x → at ys k ≡ Some x) → length xs ≡ length ys → xs ≡ ys
kept_same [] [] h e = refl
kept_same [] (y ∷ ys) h e = absurd (omega arith)
kept_same (x ∷ xs) [] h e = absurd (omega arith)
kept_same (x ∷ xs) (y ∷ ys) h e = ap₂ (λ z zs. z ∷ zs) (sym (some_same y x (h 0 x refl))) (kept_same xs ys (λ k z q. h (suc k) z q) (omega arith))
