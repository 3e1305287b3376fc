-- Comparing two pieces bit by bit.
use Rattle.std.proofs.Common.{◌≡◌, ℕ, suc, ◌+◌, ◌<◌, ◌≤◌, Bool, true, false, not, ◌&&◌, eqb, List, [], ◌∷◌, length, Some, Option, sym, refl, ap, ◌∙◌, subst, arith}
use Rattle.std.specs.Option.{option_eq}
use Rattle.definitions.specs.Lists.{same}
use Rattle.definitions.specs.Bits.{Stands}
use Rattle.definitions.specs.Reading.{take}
use Rattle.bits.specs.Took.{took}
use Rattle.bits.specs.declared.reader.BitReader.{BitReader}
use Rattle.outsider.specs.declared.pieces.Piece.{Piece}
use Rattle.outsider.specs.Pieces.{Made}
use Rattle.outsider.proofs.Reading.{bit_read, bit_small}

-- lists of two lengths are not the same
pub same_long : (bs cs : List ℕ) → same bs cs ≡ true → length bs ≡ length cs
same_long [] [] e = refl
same_long [] (c ∷ cs) e = absurd cc
same_long (b ∷ bs) [] e = absurd cc
same_long (b ∷ bs) (c ∷ cs) e = go (eqb b c) e (same_long bs cs)
  where
    go : (t : Bool) → (t && same bs cs) ≡ true → (same bs cs ≡ true → length bs ≡ length cs) → suc (length bs) ≡ suc (length cs)
    go true e r = ap suc (r e)
    go false e r = absurd cc

pub other_long : (bs cs : List ℕ) → (length bs ≡ length cs → ⊥) → false ≡ same bs cs
other_long bs cs h = go (same bs cs) refl
  where
    go : (t : Bool) → same bs cs ≡ t → false ≡ t
    go true e = absurd (h (same_long bs cs e))
    go false e = refl

-- of n bits of each the first i are the same, and the readers stand at the others
pub record Alike (f bs cs : List ℕ) (n i : ℕ) (ours theirs : BitReader) : Type 0 where
  pub our_file : ours.bytes.now ≡ f
  pub their_file : theirs.bytes.now ≡ f
  pub our_left : List ℕ
  pub their_left : List ℕ
  pub our_stand : Stands f ours.at our_left
  pub their_stand : Stands f theirs.at their_left
  pub our_count : i + length our_left ≡ n
  pub their_count : i + length their_left ≡ n
  pub same_left : same bs cs ≡ same our_left their_left

pub alike_first : (f bs cs : List ℕ) (x y : Piece) (ours theirs : BitReader) → ours.bytes.now ≡ f → theirs.bytes.now ≡ f → ours.at ≡ x.at → theirs.at ≡ y.at → x.count ≡ y.count → Made f bs x → Made f cs y → Alike f bs cs x.count 0 ours theirs
alike_first f bs cs x y ours theirs p q u v e h k = record {
  our_file = p;
  their_file = q;
  our_left = bs;
  their_left = cs;
  our_stand = subst (λ n. Stands f n bs) (sym u) h.stands;
  their_stand = subst (λ n. Stands f n cs) (sym v) k.stands;
  our_count = omega (arith, h.count);
  their_count = omega (arith, e, k.count);
  same_left = refl;
}

-- what is told of reading a bit
pub record Bitten (old new : BitReader) (r : Option ℕ) : Type 0 where
  pub reads : length old.bytes.now ≤ 65536 → 1 ≤ 32 → took r old.at new.at ≡ take 1 old.bytes.now old.at
  pub same : new.bytes.now ≡ old.bytes.now

pub record Bit (f : List ℕ) (left : List ℕ) (old new : BitReader) (r : Option ℕ) : Type 0 where
  pub bit : ℕ
  pub rest : List ℕ
  pub is : left ≡ bit ∷ rest
  pub got : r ≡ Some bit
  pub file : new.bytes.now ≡ f
  pub stands : Stands f new.at rest
  pub small : bit < 2

pub bitten : (f : List ℕ) (left : List ℕ) (old new : BitReader) (r : Option ℕ) → length f ≤ 65536 → old.bytes.now ≡ f → Stands f old.at left → 0 < length left → Bitten old new r → Bit f left old new r
bitten f [] old new r short e s l h = absurd (omega arith)
bitten f (b ∷ bs) old new r short e s l h =
    let t = bit_read f old.at b bs r new.at s (subst (λ g. took r old.at new.at ≡ take 1 g old.at) e (h.reads (subst (λ g. length g ≤ 65536) (sym e) short) (omega arith))) in
    record { bit = b; rest = bs; is = refl; got = t.0; file = h.same ∙ e; stands = subst (λ n. Stands f n bs) (sym t.1) s.1; small = bit_small f old.at b bs s }

module _ {f bs cs : List ℕ} {n i : ℕ} {ours theirs : BitReader} (l : Alike f bs cs n i ours theirs) where
  module _ (short : length f ≤ 65536) (lt : i < n) (our_new their_new : BitReader) (r s : Option ℕ) (p : Bitten ours our_new r) (q : Bitten theirs their_new s) where
    our_bit : Bit f l.our_left ours our_new r
    our_bit = bitten f l.our_left ours our_new r short l.our_file l.our_stand (omega (arith, l.our_count)) p

    their_bit : Bit f l.their_left theirs their_new s
    their_bit = bitten f l.their_left theirs their_new s short l.their_file l.their_stand (omega (arith, l.their_count)) q

    -- the bits left are the same where these two are and the others
    split : same bs cs ≡ (eqb our_bit.bit their_bit.bit && same our_bit.rest their_bit.rest)
    split = l.same_left ∙ ap (λ xs. same xs l.their_left) our_bit.is ∙ ap (same (our_bit.bit ∷ our_bit.rest)) their_bit.is

    told : (b : Bool) → b ≡ not (option_eq eqb r s) → b ≡ not (eqb our_bit.bit their_bit.bit)
    told b e = e ∙ ap (λ o. not (option_eq eqb o s)) our_bit.got ∙ ap (λ o. not (option_eq eqb (Some our_bit.bit) o)) their_bit.got

    pub alike_next : false ≡ not (option_eq eqb r s) → Alike f bs cs n (i + 1) our_new their_new
    alike_next e = go (eqb our_bit.bit their_bit.bit) refl (told false e)
      where
        go : (b : Bool) → eqb our_bit.bit their_bit.bit ≡ b → false ≡ not b → Alike f bs cs n (i + 1) our_new their_new
        go true x y = record {
          our_file = our_bit.file;
          their_file = their_bit.file;
          our_left = our_bit.rest;
          their_left = their_bit.rest;
          our_stand = our_bit.stands;
          their_stand = their_bit.stands;
          our_count = (let k = ap length our_bit.is in omega (arith, l.our_count));
          their_count = (let k = ap length their_bit.is in omega (arith, l.their_count));
          same_left = split ∙ ap (λ t. t && same our_bit.rest their_bit.rest) x;
        }
        go false x y = absurd cc

    pub alike_other : true ≡ not (option_eq eqb r s) → false ≡ same bs cs
    alike_other e = go (eqb our_bit.bit their_bit.bit) refl (told true e)
      where
        go : (b : Bool) → eqb our_bit.bit their_bit.bit ≡ b → true ≡ not b → false ≡ same bs cs
        go true x y = absurd cc
        go false x y = sym (split ∙ ap (λ t. t && same our_bit.rest their_bit.rest) x)

  pub alike_end : n ≤ i → true ≡ same bs cs
  alike_end h = sym (l.same_left ∙ go l.our_left l.their_left (omega (arith, l.our_count)) (omega (arith, l.their_count)))
    where
      go : (xs ys : List ℕ) → length xs ≡ 0 → length ys ≡ 0 → same xs ys ≡ true
      go [] [] p q = refl
      go [] (y ∷ ys) p q = absurd (omega arith)
      go (x ∷ xs) ys p q = absurd (omega arith)
