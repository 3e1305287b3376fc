-- A file that is read is the file of its system.
use Rattle.faults.specs.declared.Reason.TheVariants.{BadLength, NotEnded}
use Rattle.std.proofs.Common.{◌≡◌, ℕ, zero, suc, ◌+◌, ◌-◌, ◌*◌, ◌/◌, ◌%◌, ◌^◌, ◌<◌, ◌≤◌, Bool, true, false, ◌||◌, eqb, ltb, leb, List, [], ◌∷◌, ◌++◌, length, get_or, drop, replicate, sym, refl, ap, ◌∙◌, subst, ap₂, add-zero, mod-eq_of_lt, zero-add, one-add, arith, length-append}
use native.Mathlib.Nat.{mod-mod}
use lib.Pow.{mod-pow-add}
use lib.ListN.{length-replicate}
use Rattle.std.proofs.lemmas.Bool.{leb-true, eqb-true}
use Rattle.definitions.specs.Bits.{bit_at, field, bits, number, bytes_of, packed, Stands}
use Rattle.definitions.specs.Alg.{Alg, Lawful}
use Rattle.definitions.specs.Systems.{System}
use Rattle.definitions.specs.Reading.{Step, next, stop, Reader, Reading, got, bad, follow, ended, ending, complete, file, must}
use Rattle.definitions.specs.ReadSystem.{reading, read_system}
use Rattle.definitions.specs.Written.{system_bits, written}
use Rattle.definitions.specs.Fits.{Every, SystemFits}
use Rattle.theorems.proofs.Fields.{stands_most, stands_join, field_stands}
use Rattle.theorems.proofs.Packs.{bits_of, bit_in, bits_long, bytes_bits, bytes_long, pad_long, pad, bits_zero, pad_none, number_below, every_drop}
use Rattle.theorems.proofs.Whole.{system_bits_lem}
use Rattle.theorems.proofs.Sounds.{sound_system}

-- lists of one length with the same members
pub same_list : (xs ys : List ℕ) → length xs ≡ length ys → ((k : ℕ) → k < length xs → get_or xs k 0 ≡ get_or ys k 0) → xs ≡ ys
same_list [] [] e h = refl
same_list [] (y ∷ ys) e h = absurd (omega arith)
same_list (x ∷ xs) [] e h = absurd (omega arith)
same_list (x ∷ xs) (y ∷ ys) e h = ap₂ (λ z zs. z ∷ zs) (h 0 (omega arith)) (same_list xs ys (omega arith) (λ k l. h (suc k) (omega arith)))

stands_get : (f : List ℕ) (p : ℕ) (bs : List ℕ) → Stands f p bs → (k : ℕ) → k < length bs → get_or bs k 0 ≡ bit_at f (p + k)
stands_get f p [] h k l = absurd (omega arith)
stands_get f p (b ∷ bs) h zero l = sym h.0 ∙ ap (bit_at f) (sym (add-zero p))
stands_get f p (b ∷ bs) h (suc k) l =
    let e : suc p + k ≡ p + suc k = omega arith in stands_get f (suc p) bs h.1 k (omega arith) ∙ ap (bit_at f) e

all_bits : (f bs : List ℕ) → Stands f 0 bs → length bs ≡ 8 * length f → bs ≡ bits_of f
all_bits f bs h e =
    same_list bs (bits_of f) (e ∙ sym (bits_long f)) (λ k l. stands_get f 0 bs h k l ∙ ap (bit_at f) (zero-add k) ∙ bit_in f k)

-- bytes from their bits
number_bits : (w v : ℕ) (rest : List ℕ) → number w (bits w v ++ rest) ≡ v % 2 ^ w
number_bits zero v rest = omega arith
number_bits (suc w) v rest =
    ap (λ n. (v / 2 ^ w % 2) * 2 ^ w + n) (number_bits w (v % 2 ^ w) rest ∙ mod-mod v (2 ^ w)) ∙
    subst (λ n. (v / 2 ^ w % 2) * 2 ^ w + v % 2 ^ w ≡ v % 2 ^ n) (one-add w) (sym (mod-pow-add v 1 w))

unpacked : (f : List ℕ) → Every (λ x. x < 256) f → bytes_of (length f) (bits_of f) ≡ f
unpacked [] h = refl
unpacked (x ∷ f) h = ap₂ (λ y ys. y ∷ ys) (number_bits 8 x (bits_of f) ∙ mod-eq_of_lt h.0) (unpacked f h.1)

pub small_bytes : (n : ℕ) (bs : List ℕ) → Every (λ b. b < 2) bs → Every (λ x. x < 256) (bytes_of n bs)
small_bytes zero bs h = tt
small_bytes (suc n) bs h = (number_below 8 bs h, small_bytes n (drop 8 bs) (every_drop 8 bs h))

-- the bits bs, then zeros to the end: the file is bs packed
pub repacked : (f bs : List ℕ) → Every (λ x. x < 256) f → Every (λ b. b < 2) bs → Stands f 0 bs → length bs ≤ 8 * length f → 8 * length f - length bs ≤ 7 →
    field f (length bs) (8 * length f - length bs) ≡ 0 → packed bs ≡ f
repacked f bs hf hb s le l z =
    let k = 8 * length f - length bs in
    let zs : Stands f (length bs) (replicate k 0) =
    subst (Stands f (length bs)) (ap (bits k) z ∙ bits_zero k ∙ pad_none k) (field_stands f (length bs) k (omega arith)) in
    let all : Stands f 0 (bs ++ replicate k 0) =
    stands_join f 0 bs (replicate k 0) s (subst (λ p. Stands f p (replicate k 0)) (sym (zero-add (length bs))) zs) in
    let e : bs ++ replicate k 0 ≡ bits_of f =
    all_bits f (bs ++ replicate k 0) all (omega (arith, length-append bs (replicate k 0), length-replicate {A = ℕ} k 0)) in
    let n : (length bs + 7) / 8 ≡ length f = omega arith in
    let g = packed bs in
    let same : bits_of g ≡ bits_of f =
    bytes_bits ((length bs + 7) / 8) bs hb ∙ ap (λ m. pad (8 * m) bs) n ∙ pad_long (8 * length f) bs le ∙ e in
    sym (unpacked g (small_bytes ((length bs + 7) / 8) bs hb)) ∙
    ap₂ bytes_of (bytes_long ((length bs + 7) / 8) bs ∙ n) same ∙ unpacked f hf

-- the end of a whole file
pub ended_got : {A : Type 0} (n : ℕ) (r : Reader A) (f : List ℕ) (x : A) → file n r f ≡ got x →
    (p : ℕ) × (r f 0 ≡ next x p) × (8 * length f - p ≤ 7) × (field f p (8 * length f - p) ≡ 0)
ended_got {A} n r f x = start (eqb (length f) 0 || ltb n (length f))
  where
    Result : Type 0
    Result = (p : ℕ) × (r f 0 ≡ next x p) × (8 * length f - p ≤ 7) × (field f p (8 * length f - p) ≡ 0)

    last : (y : A) (q : ℕ) → r f 0 ≡ next y q → (b : Bool) → leb (8 * length f - q) 7 ≡ b → (c : Bool) → eqb (field f q (8 * length f - q)) 0 ≡ c →
        ended (follow (elim b as (λ _. Step (Unit {0})) [ true ↦ must c NotEnded q f q | false ↦ stop NotEnded q ]) (λ _ m. next y m)) ≡ got x → Result
    last y q e true e₁ true e₂ h =
        let ex : y ≡ x = cc in
        (q, e ∙ ap (λ z. next z q) ex, leb-true (8 * length f - q) 7 e₁, eqb-true (field f q (8 * length f - q)) 0 e₂)
    last y q e true e₁ false e₂ h = absurd cc
    last y q e false e₁ c e₂ h = absurd cc

    middle : (z : Step A) → r f 0 ≡ z → ended (follow z (λ y q. follow (ending f q) (λ _ m. next y m))) ≡ got x → Result
    middle (stop w q) e h = absurd cc
    middle (next y q) e h = last y q e (leb (8 * length f - q) 7) refl (eqb (field f q (8 * length f - q)) 0) refl h

    start : (b : Bool) → elim b as (λ _. Reading A) [ true ↦ bad BadLength 0 | false ↦ ended (complete r f 0) ] ≡ got x → Result
    start true h = absurd cc
    start false h = middle (r f 0) refl h

pub whole_forth : (a : Alg) → Lawful a → (f : List ℕ) → Every (λ x. x < 256) f → (s : System) → reading a f ≡ got s → (written s ≡ f) × SystemFits a s
whole_forth a law f hf s e = go (ended_got 8192 (read_system a) f s e)
  where
    go : (p : ℕ) × (read_system a f 0 ≡ next s p) × (8 * length f - p ≤ 7) × (field f p (8 * length f - p) ≡ 0) → (written s ≡ f) × SystemFits a s
    go w =
        let c = (sound_system f a law).run 0 (omega arith) s w.0 w.1 in
        let bs = system_bits s in
        let st : Stands f 0 bs = subst (Stands f 0) c.fact.0 c.stands in
        let at_end : w.0 ≡ length bs = c.behind ∙ zero-add (length c.its) ∙ ap length c.fact.0 in
        let le : 0 + length bs ≤ 8 * length f = stands_most f 0 bs st in (
          repacked f bs hf (system_bits_lem s) st (omega arith) (subst (λ p. 8 * length f - p ≤ 7) at_end w.2)
              (subst (λ p. field f p (8 * length f - p) ≡ 0) at_end w.3),
          c.fact.1,
        )
