-- Loops over pieces beside what stands there.
use Rattle.std.proofs.Common.{◌≡◌, ℕ, suc, ◌+◌, ◌<◌, Bool, true, false, List, [], ◌∷◌, ◌++◌, map, length, drop, get_or, Result, IsErr, sym, refl, ap, ◌∙◌, subst, add-one, arith, drop-cons, length-append}
use Rattle.definitions.specs.Lists.{flat, some}
use Rattle.bits.specs.declared.writer.BitWriter.{BitWriter}
use Rattle.bits.specs.declared.writer.Full.{Full}
use Rattle.bits.specs.Writes.{Wrote, NoRoom, Writes, Left}
use Rattle.bits.proofs.Left.{left_first, left_next, left_end}
use Rattle.system.specs.Walks.{Pairs}
use Rattle.outsider.proofs.Writing.{left_none, left_same}

-- the item of a loop over a slice, and what is behind it
pub dropped : {A : Type 0} (xs : List A) (i : ℕ) (d : A) → i < length xs → drop i xs ≡ get_or xs i d ∷ drop (i + 1) xs
dropped xs i d h = rw add-one (drop-cons xs i d h)

pub item : {A : Type 0} (xs : List A) (i : ℕ) (x : A) → i < length xs → x ≡ get_or xs i x → drop i xs ≡ x ∷ drop (i + 1) xs
item xs i x h e = dropped xs i x h ∙ ap (λ y. y ∷ drop (i + 1) xs) (sym e)

-- a list's first, and what belongs to it
pub record Met {X Y : Type 0} (R : X → Y → Type 0) (x : X) (xs : List X) (ys : List Y) : Type 0 where
  pub first : Y
  pub rest : List Y
  pub is : ys ≡ first ∷ rest
  pub here : R x first
  pub there : Pairs R xs rest

pub met : {X Y : Type 0} (R : X → Y → Type 0) {xs more : List X} (x : X) (ys : List Y) → xs ≡ x ∷ more → Pairs R xs ys → Met R x more ys
met {Y = Y} R {more = more} x ys e h = go ys (subst (λ zs. Pairs R zs ys) e h)
  where
    go : (ys : List Y) → Pairs R (x ∷ more) ys → Met R x more ys
    go [] h = absurd h
    go (y ∷ ys) h = record { first = y; rest = ys; is = refl; here = h.0; there = h.1 }

pub none_left : {X Y : Type 0} (R : X → Y → Type 0) (xs : List X) (ys : List Y) → length xs ≡ 0 → Pairs R xs ys → ys ≡ []
none_left R [] [] e h = refl
none_left R [] (y ∷ ys) e h = absurd h
none_left R (x ∷ xs) ys e h = absurd (omega arith)

pub pairs_long : {X Y : Type 0} (R : X → Y → Type 0) (xs : List X) (ys : List Y) → Pairs R xs ys → length xs ≡ length ys
pairs_long R [] [] h = refl
pairs_long R [] (y ∷ ys) h = absurd h
pairs_long R (x ∷ xs) [] h = absurd h
pairs_long R (x ∷ xs) (y ∷ ys) h = ap suc (pairs_long R xs ys h.1)

pub pairs_more : {X Y : Type 0} (R : X → Y → Type 0) (xs : List X) (ys : List Y) (x : X) (y : Y) → Pairs R xs ys → R x y → Pairs R (xs ++ (x ∷ [])) (ys ++ (y ∷ []))
pairs_more R [] [] x y h k = (k, tt)
pairs_more R [] (z ∷ ys) x y h k = absurd h
pairs_more R (z ∷ xs) [] x y h k = absurd h
pairs_more R (z ∷ xs) (w ∷ ys) x y h k = (h.0, pairs_more R xs ys x y h.1 k)

-- of the things ys some are written, and the others belong to xs
pub record Going {X Y : Type 0} (R : X → Y → Type 0) (f : Y → List ℕ) (ys : List Y) (xs : List X) (old now : BitWriter) : Type 0 where
  pub left : List Y
  pub pairs : Pairs R xs left
  pub wrote : Left (flat (map f ys)) (flat (map f left)) old now

module _ {X Y : Type 0} (R : X → Y → Type 0) (f : Y → List ℕ) where
  pub going_first : (xs : List X) (ys : List Y) (w : BitWriter) → Pairs R xs ys → Going R f ys xs w w
  going_first xs ys w h = record { left = ys; pairs = h; wrote = left_first (flat (map f ys)) w }

  pub going_next : {ys : List Y} {xs more : List X} {old now : BitWriter} (x : X) (new : BitWriter) → xs ≡ x ∷ more → Going R f ys xs old now → ((y : Y) → R x y → Wrote (f y) now new) → Going R f ys more old new
  going_next x new e l w =
      let m = met R x l.left e l.pairs in
      record { left = m.rest; pairs = m.there; wrote = left_next (f m.first) new (left_same (ap (λ zs. flat (map f zs)) m.is) l.wrote) (w m.first m.here) }

  pub going_stop : {T : Type 0} {ys : List Y} {xs more : List X} {old now : BitWriter} (x : X) (new : BitWriter) (r : Result T Full) → IsErr r → xs ≡ x ∷ more → Going R f ys xs old now → ((y : Y) → R x y → NoRoom (f y) now) → Writes (flat (map f ys)) old new r
  going_stop x new r i e l w =
      let m = met R x l.left e l.pairs in
      left_none (f m.first) (flat (map f m.rest)) new r i (left_same (ap (λ zs. flat (map f zs)) m.is) l.wrote) (w m.first m.here)

  pub going_end : {ys : List Y} {xs : List X} {old now : BitWriter} → length xs ≡ 0 → Going R f ys xs old now → Wrote (flat (map f ys)) old now
  going_end {xs = xs} e l = left_end (left_same (ap (λ zs. flat (map f zs)) (none_left R xs l.left e l.pairs)) l.wrote)

-- of the things ys none so far passes the test, and the others belong to xs
pub record Seeking {X Y : Type 0} (R : X → Y → Type 0) (p : Y → Bool) (ys : List Y) (xs : List X) : Type 0 where
  pub left : List Y
  pub pairs : Pairs R xs left
  pub same : some p ys ≡ some p left

module _ {X Y : Type 0} (R : X → Y → Type 0) (p : Y → Bool) where
  pub seeking_first : (xs : List X) (ys : List Y) → Pairs R xs ys → Seeking R p ys xs
  seeking_first xs ys h = record { left = ys; pairs = h; same = refl }

  pub seeking_next : {ys : List Y} {xs more : List X} (x : X) → xs ≡ x ∷ more → Seeking R p ys xs → ((y : Y) → R x y → false ≡ p y) → Seeking R p ys more
  seeking_next {ys = ys} {more = more} x e l w =
      let m = met R x l.left e l.pairs in
      record { left = m.rest; pairs = m.there; same = l.same ∙ ap (some p) m.is ∙ ap (λ (b : Bool). elim b as (λ _. Bool) [ true ↦ true | false ↦ some p m.rest ]) (sym (w m.first m.here)) }

  pub seeking_found : {ys : List Y} {xs more : List X} (x : X) → xs ≡ x ∷ more → Seeking R p ys xs → ((y : Y) → R x y → true ≡ p y) → true ≡ some p ys
  seeking_found {ys = ys} {more = more} x e l w =
      let m = met R x l.left e l.pairs in
      sym (l.same ∙ ap (some p) m.is ∙ ap (λ (b : Bool). elim b as (λ _. Bool) [ true ↦ true | false ↦ some p m.rest ]) (sym (w m.first m.here)))

  pub seeking_end : {ys : List Y} {xs : List X} → length xs ≡ 0 → Seeking R p ys xs → false ≡ some p ys
  seeking_end {xs = xs} e l = sym (l.same ∙ ap (some p) (none_left R xs l.left e l.pairs))

-- of the lengths of what belongs to the things of a list, those so far are summed up
pub record Counting {X Y : Type 0} (R : X → Y → Type 0) (f : Y → List ℕ) (base : ℕ) (ys : List Y) (xs : List X) (now : ℕ) : Type 0 where
  pub left : List Y
  pub pairs : Pairs R xs left
  pub sum : now + length (flat (map f left)) ≡ base + length (flat (map f ys))

module _ {X Y : Type 0} (R : X → Y → Type 0) (f : Y → List ℕ) (base : ℕ) where
  pub counting_first : (xs : List X) (ys : List Y) → Pairs R xs ys → Counting R f base ys xs base
  counting_first xs ys h = record { left = ys; pairs = h; sum = refl }

  pub counting_next : {ys : List Y} {xs more : List X} {now : ℕ} (x : X) (n : ℕ) → xs ≡ x ∷ more → Counting R f base ys xs now → ((y : Y) → R x y → n ≡ length (f y)) → Counting R f base ys more (now + n)
  counting_next {now = now} x n e l w =
      let m = met R x l.left e l.pairs in
      let k : length (flat (map f l.left)) ≡ n + length (flat (map f m.rest)) = ap (λ zs. length (flat (map f zs))) m.is ∙ length-append (f m.first) (flat (map f m.rest)) ∙ ap (λ z. z + length (flat (map f m.rest))) (sym (w m.first m.here)) in
      record { left = m.rest; pairs = m.there; sum = omega (arith, l.sum) }

  pub counting_end : {ys : List Y} {xs : List X} {now : ℕ} → length xs ≡ 0 → Counting R f base ys xs now → now ≡ base + length (flat (map f ys))
  counting_end {xs = xs} e l = let k = ap (λ zs. length (flat (map f zs))) (none_left R xs l.left e l.pairs) in omega (arith, l.sum)
