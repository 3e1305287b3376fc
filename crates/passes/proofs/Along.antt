-- Loops that write one piece after another.
use Rattle.std.proofs.Common.{◌≡◌, ℕ, ◌+◌, ◌<◌, ◌⊎◌, inl, inr, Bool, true, false, List, [], ◌∷◌, ◌++◌, map, length, drop, get_or, Result, IsErr, sym, refl, ap, ◌∙◌, subst, add-one, arith, drop-cons}
use Rattle.definitions.specs.Lists.{flat, strike, keep}
use Rattle.definitions.specs.Alg.{Alg}
use Rattle.definitions.specs.Systems.{Equation}
use Rattle.definitions.specs.Written.{body_bits}
use Rattle.bits.specs.declared.writer.BitWriter.{BitWriter}
use Rattle.bits.specs.declared.writer.Full.{Full}
use Rattle.bits.specs.Writes.{Wrote, NoRoom, Writes, Left}
use Rattle.bits.proofs.Left.{left_first, left_next, left_end}
use Rattle.system.specs.Walks.{Pairs}
use Rattle.passes.specs.declared.plan.EquationChange.{EquationChange}
use Rattle.passes.specs.declared.plan.EquationChange.TheVariants.{Stays, Bare, Goes}
use Rattle.passes.specs.declared.plan.Change.{Change}
use Rattle.passes.specs.declared.plan.Plan.{Plan}
use Rattle.passes.specs.Planned.{remains, equation_by, body_left}
use Rattle.passes.specs.Rewrites.{changed}
use Rattle.passes.proofs.Masks.{left_none, left_same}

-- the item of a loop over a slice, and what is behind it
pub dropped : {A : Type 0} (xs : List A) (i : ℕ) (d : A) → i < length xs → drop i xs ≡ get_or xs i d ∷ drop (i + 1) xs
dropped xs i d h = rw add-one (drop-cons xs i d h)

pub item : {A : Type 0} (xs : List A) (i : ℕ) (x : A) → i < length xs → x ≡ get_or xs i x → drop i xs ≡ x ∷ drop (i + 1) xs
item xs i x h e = dropped xs i x h ∙ ap (λ y. y ∷ drop (i + 1) xs) (sym e)

-- a list's first, and what belongs to it
pub record Met {X Y : Type 0} (R : X → Y → Type 0) (x : X) (xs : List X) (ys : List Y) : Type 0 where
  pub first : Y
  pub rest : List Y
  pub is : ys ≡ first ∷ rest
  pub here : R x first
  pub there : Pairs R xs rest

pub met : {X Y : Type 0} (R : X → Y → Type 0) {xs more : List X} (x : X) (ys : List Y) → xs ≡ x ∷ more → Pairs R xs ys → Met R x more ys
met {Y = Y} R {more = more} x ys e h = go ys (subst (λ zs. Pairs R zs ys) e h)
  where
    go : (ys : List Y) → Pairs R (x ∷ more) ys → Met R x more ys
    go [] h = absurd h
    go (y ∷ ys) h = record { first = y; rest = ys; is = refl; here = h.0; there = h.1 }

pub none_left : {X Y : Type 0} (R : X → Y → Type 0) (xs : List X) (ys : List Y) → length xs ≡ 0 → Pairs R xs ys → ys ≡ []
none_left R [] [] e h = refl
none_left R [] (y ∷ ys) e h = absurd h
none_left R (x ∷ xs) ys e h = absurd (omega arith)

-- of the things ys some are written, and the others belong to xs
pub record Going {X Y : Type 0} (R : X → Y → Type 0) (f : Y → List ℕ) (ys : List Y) (xs : List X) (old now : BitWriter) : Type 0 where
  pub left : List Y
  pub pairs : Pairs R xs left
  pub wrote : Left (flat (map f ys)) (flat (map f left)) old now

module _ {X Y : Type 0} (R : X → Y → Type 0) (f : Y → List ℕ) where
  pub going_first : (xs : List X) (ys : List Y) (w : BitWriter) → Pairs R xs ys → Going R f ys xs w w
  going_first xs ys w h = record { left = ys; pairs = h; wrote = left_first (flat (map f ys)) w }

  pub going_next : {ys : List Y} {xs more : List X} {old now : BitWriter} (x : X) (new : BitWriter) → xs ≡ x ∷ more → Going R f ys xs old now → ((y : Y) → R x y → Wrote (f y) now new) → Going R f ys more old new
  going_next x new e l w =
      let m = met R x l.left e l.pairs in
      record { left = m.rest; pairs = m.there; wrote = left_next (f m.first) new (left_same (ap (λ zs. flat (map f zs)) m.is) l.wrote) (w m.first m.here) }

  pub going_skip : {ys : List Y} {xs more : List X} {old now : BitWriter} (x : X) → xs ≡ x ∷ more → Going R f ys xs old now → ((y : Y) → R x y → f y ≡ []) → Going R f ys more old now
  going_skip x e l n =
      let m = met R x l.left e l.pairs in
      record { left = m.rest; pairs = m.there; wrote = left_same (ap (λ zs. flat (map f zs)) m.is ∙ ap (λ zs. zs ++ flat (map f m.rest)) (n m.first m.here)) l.wrote }

  pub going_stop : {T : Type 0} {ys : List Y} {xs more : List X} {old now : BitWriter} (x : X) (new : BitWriter) (r : Result T Full) → IsErr r → xs ≡ x ∷ more → Going R f ys xs old now → ((y : Y) → R x y → NoRoom (f y) now) → Writes (flat (map f ys)) old new r
  going_stop x new r i e l w =
      let m = met R x l.left e l.pairs in
      left_none (f m.first) (flat (map f m.rest)) new r i (left_same (ap (λ zs. flat (map f zs)) m.is) l.wrote) (w m.first m.here)

  pub going_end : {ys : List Y} {xs : List X} {old now : BitWriter} → length xs ≡ 0 → Going R f ys xs old now → Wrote (flat (map f ys)) old now
  going_end {xs = xs} e l = left_end (left_same (ap (λ zs. flat (map f zs)) (none_left R xs l.left e l.pairs)) l.wrote)

-- the pieces of two lists side by side
abbrev pub along : {C Y : Type 0} → (C → Y → List ℕ) → List C → List Y → List ℕ
along p [] ys = []
along p (c ∷ cs) [] = []
along p (c ∷ cs) (y ∷ ys) = p c y ++ along p cs ys

no_pieces : {C Y : Type 0} (p : C → Y → List ℕ) (cs : List C) → along p cs [] ≡ []
no_pieces p [] = refl
no_pieces p (c ∷ cs) = refl

no_partners : {C Y : Type 0} (p : C → Y → List ℕ) (cs : List C) (ys : List Y) → length cs ≡ 0 → along p cs ys ≡ []
no_partners p [] ys e = refl
no_partners p (c ∷ cs) ys e = absurd (omega arith)

-- of those of the lists ds and ys some are written, and the others are those of cs and of what belongs to xs
pub record Along {X C Y : Type 0} (R : X → Y → Type 0) (p : C → Y → List ℕ) (ds : List C) (ys : List Y) (xs : List X) (cs : List C) (old now : BitWriter) : Type 0 where
  pub left : List Y
  pub pairs : Pairs R xs left
  pub wrote : Left (along p ds ys) (along p cs left) old now

module _ {X C Y : Type 0} (R : X → Y → Type 0) (p : C → Y → List ℕ) where
  pub along_first : (cs : List C) (xs : List X) (ys : List Y) (w : BitWriter) → Pairs R xs ys → Along R p cs ys xs cs w w
  along_first cs xs ys w h = record { left = ys; pairs = h; wrote = left_first (along p cs ys) w }

  behind : {bs : List ℕ} {cs ds : List C} {ys zs : List Y} {old now : BitWriter} (c : C) (y : Y) → cs ≡ c ∷ ds → ys ≡ y ∷ zs → Left bs (along p cs ys) old now → Left bs (p c y ++ along p ds zs) old now
  behind {ds = ds} {ys = ys} c y d e l = left_same (ap (λ ks. along p ks ys) d ∙ ap (along p (c ∷ ds)) e) l

  pub along_next : {ds : List C} {ys : List Y} {xs more : List X} {cs others : List C} {old now : BitWriter} (x : X) (c : C) (new : BitWriter) → xs ≡ x ∷ more → cs ≡ c ∷ others → Along R p ds ys xs cs old now →
      ((y : Y) → R x y → Wrote (p c y) now new) → Along R p ds ys more others old new
  along_next x c new e d l w =
      let m = met R x l.left e l.pairs in
      record { left = m.rest; pairs = m.there; wrote = left_next (p c m.first) new (behind c m.first d m.is l.wrote) (w m.first m.here) }

  pub along_skip : {ds : List C} {ys : List Y} {xs more : List X} {cs others : List C} {old now : BitWriter} (x : X) (c : C) → xs ≡ x ∷ more → cs ≡ c ∷ others → Along R p ds ys xs cs old now →
      ((y : Y) → R x y → p c y ≡ []) → Along R p ds ys more others old now
  along_skip {others = others} x c e d l n =
      let m = met R x l.left e l.pairs in
      record { left = m.rest; pairs = m.there; wrote = left_same (ap (λ zs. zs ++ along p others m.rest) (n m.first m.here)) (behind c m.first d m.is l.wrote) }

  pub along_stop : {T : Type 0} {ds : List C} {ys : List Y} {xs more : List X} {cs others : List C} {old now : BitWriter} (x : X) (c : C) (new : BitWriter) (r : Result T Full) → IsErr r → xs ≡ x ∷ more → cs ≡ c ∷ others → Along R p ds ys xs cs old now →
      ((y : Y) → R x y → NoRoom (p c y) now) → Writes (along p ds ys) old new r
  along_stop {others = others} x c new r i e d l w =
      let m = met R x l.left e l.pairs in
      left_none (p c m.first) (along p others m.rest) new r i (behind c m.first d m.is l.wrote) (w m.first m.here)

  pub along_end : {ds : List C} {ys : List Y} {xs : List X} {cs : List C} {old now : BitWriter} → (length xs ≡ 0) ⊎ (length cs ≡ 0) → Along R p ds ys xs cs old now → Wrote (along p ds ys) old now
  along_end {xs = xs} {cs = cs} h l = left_end (left_same (go h) l.wrote)
    where
      go : (length xs ≡ 0) ⊎ (length cs ≡ 0) → along p cs l.left ≡ []
      go (inl e) = ap (along p cs) (none_left R xs l.left e l.pairs) ∙ no_pieces p cs
      go (inr e) = no_partners p cs l.left e

-- a piece of what is kept
abbrev pub piece : {Y Z : Type 0} → (Z → List ℕ) → (Y → Z) → Bool → Y → List ℕ
piece b f true y = b (f y)
piece b f false y = []

pub piece_yes : {Y Z : Type 0} (b : Z → List ℕ) (f : Y → Z) (k : Bool) (y : Y) → k ≡ true → piece b f k y ≡ b (f y)
piece_yes b f true y e = refl
piece_yes b f false y e = absurd cc

pub piece_no : {Y Z : Type 0} (b : Z → List ℕ) (f : Y → Z) (k : Bool) (y : Y) → k ≡ false → piece b f k y ≡ []
piece_no b f true y e = absurd cc
piece_no b f false y e = refl

-- pieces of what a mask keeps, of what a test keeps, and of all
pub along_struck : {C Y Z : Type 0} (b : Z → List ℕ) (f : Y → Z) (g : C → Bool) (cs : List C) (ys : List Y) → along (λ c y. piece b f (g c) y) cs ys ≡ flat (map b (map f (strike (map g cs) ys)))
along_struck b f g [] ys = refl
along_struck b f g (c ∷ cs) [] = refl
along_struck b f g (c ∷ cs) (y ∷ ys) = ap (λ zs. piece b f (g c) y ++ zs) (along_struck b f g cs ys) ∙ go (g c)
  where
    go : (k : Bool) → piece b f k y ++ flat (map b (map f (strike (map g cs) ys))) ≡ flat (map b (map f (strike (k ∷ map g cs) (y ∷ ys))))
    go true = refl
    go false = refl

pub flat_kept : {Y Z : Type 0} (b : Z → List ℕ) (f : Y → Z) (g : Y → Bool) (ys : List Y) → flat (map (λ y. piece b f (g y) y) ys) ≡ flat (map b (map f (keep g ys)))
flat_kept b f g [] = refl
flat_kept b f g (y ∷ ys) = ap (λ zs. piece b f (g y) y ++ zs) (flat_kept b f g ys) ∙ go (g y)
  where
    go : (k : Bool) → piece b f k y ++ flat (map b (map f (keep g ys))) ≡ flat (map b (map f (elim k [ true ↦ y ∷ keep g ys | false ↦ keep g ys ])))
    go true = refl
    go false = refl

pub flat_all : {Y Z : Type 0} (b : Z → List ℕ) (f : Y → Z) (ys : List Y) → flat (map (λ y. b (f y)) ys) ≡ flat (map b (map f ys))
flat_all b f [] = refl
flat_all b f (y ∷ ys) = ap (λ zs. b (f y) ++ zs) (flat_all b f ys)

-- of equations that do not go, and of what is left of their bodies
pub along_changed : (b : Equation → List ℕ) (f : Change → Equation → Equation) (cs : List Change) (es : List Equation) → along (λ (c : Change) (e : Equation). piece b (f c) (remains c.equation) e) cs es ≡ flat (map b (changed f cs es))
along_changed b f [] es = refl
along_changed b f (c ∷ cs) [] = refl
along_changed b f (c ∷ cs) (e ∷ es) = ap (λ zs. piece b (f c) (remains c.equation) e ++ zs) (along_changed b f cs es) ∙ go (remains c.equation)
  where
    go : (k : Bool) → piece b (f c) k e ++ flat (map b (changed f cs es)) ≡ flat (map b (elim k [ true ↦ f c e ∷ changed f cs es | false ↦ changed f cs es ]))
    go true = refl
    go false = refl

pub along_bodies : (a : Alg) (P : Plan) (cs : List Change) (es : List Equation) → along (body_left a P) cs es ≡ flat (map body_bits (changed (equation_by a P) cs es))
along_bodies a P [] es = refl
along_bodies a P (c ∷ cs) [] = refl
along_bodies a P (c ∷ cs) (e ∷ es) = ap (λ zs. body_left a P c e ++ zs) (along_bodies a P cs es) ∙ go c.equation
  where
    go : (x : EquationChange) → body_left a P (record { equation = x; parameters = c.parameters }) e ++ flat (map body_bits (changed (equation_by a P) cs es)) ≡
        flat (map body_bits (elim (remains x) [ true ↦ equation_by a P (record { equation = x; parameters = c.parameters }) e ∷ changed (equation_by a P) cs es | false ↦ changed (equation_by a P) cs es ]))
    go Stays = refl
    go Bare = refl
    go Goes = refl
