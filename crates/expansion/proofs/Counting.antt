-- A file whose count is written over at the end.
use Rattle.std.specs.Result.{is_ok}
use Rattle.std.proofs.Common.{Ok, Err, Result, ◌≡◌, ℕ, suc, ◌+◌, ◌*◌, ◌-◌, ◌/◌, ◌%◌, ◌^◌, ◌<◌, ◌≤◌, ◌⊎◌, inl, inr, true, false, List, [], ◌∷◌, ◌++◌, length, drop, get_or, sym, ap, ◌∙◌, subst, ap₂, zero-add, arith, length-append, ltb}
use Rattle.std.proofs.lemmas.Bool.{cases_lt}
use Rattle.definitions.specs.Bits.{bit_at, Stands, bits, packed}
use Rattle.theorems.proofs.Packs.{bytes_long}
use Rattle.theorems.proofs.Repack.{same_list}
use Rattle.bits.specs.declared.writer.BitWriter.{BitWriter}
use Rattle.bits.specs.Back.{Bytes, are_bits}
use Rattle.bits.specs.Put.{overwritten, closed}
use Rattle.bits.specs.declared.writer.Full.{Full}
use Rattle.bits.specs.Writes.{Wrote, NoRoom, Writes}
use Rattle.bits.proofs.Puts.{in_a_row, length_bits}
use Rattle.bits.proofs.Packs.{packs}
use Rattle.bits.proofs.Written.{written, bits_are, long, each_cons}
use Rattle.expansion.proofs.Drafting.{both_are}

-- bytes with the same bits
byte_same : (x y : ℕ) → x < 256 → y < 256 → ((j : ℕ) → j < 8 → x / 2 ^ (7 - j) % 2 ≡ y / 2 ^ (7 - j) % 2) → x ≡ y
byte_same x y l k h =
    let e0 : x / 128 % 2 ≡ y / 128 % 2 = h 0 (omega arith) in
    let e1 : x / 64 % 2 ≡ y / 64 % 2 = h 1 (omega arith) in
    let e2 : x / 32 % 2 ≡ y / 32 % 2 = h 2 (omega arith) in
    let e3 : x / 16 % 2 ≡ y / 16 % 2 = h 3 (omega arith) in
    let e4 : x / 8 % 2 ≡ y / 8 % 2 = h 4 (omega arith) in
    let e5 : x / 4 % 2 ≡ y / 4 % 2 = h 5 (omega arith) in
    let e6 : x / 2 % 2 ≡ y / 2 % 2 = h 6 (omega arith) in
    let e7 : x / 1 % 2 ≡ y / 1 % 2 = h 7 (omega arith) in
    omega arith

same_bits : (f g : List ℕ) → Bytes f → Bytes g → length f ≡ length g → ((k : ℕ) → bit_at f k ≡ bit_at g k) → f ≡ g
same_bits f g bf bg e h =
    same_list f g e (λ i l. byte_same (get_or f i 0) (get_or g i 0) (bf i) (bg i)
    (λ j m.
    let d : (8 * i + j) / 8 ≡ i = omega arith in
    let r : (8 * i + j) % 8 ≡ j = omega arith in
    sym (ap₂ (λ a b. get_or f a 0 / 2 ^ (7 - b) % 2) d r) ∙ h (8 * i + j) ∙ ap₂ (λ a b. get_or g a 0 / 2 ^ (7 - b) % 2) d r))

stands_alike : (f g : List ℕ) (p : ℕ) (bs : List ℕ) → Stands f p bs → Stands g p bs → (k : ℕ) → p ≤ k → k < p + length bs → bit_at f k ≡ bit_at g k
stands_alike f g p [] s t k l h = absurd (omega arith)
stands_alike f g p (b ∷ bs) s t k l h = go (cases_lt p k) (λ m. stands_alike f g (suc p) bs s.1 t.1 k m (omega arith))
  where
    go : (p < k) ⊎ (k ≤ p) → (p < k → bit_at f k ≡ bit_at g k) → bit_at f k ≡ bit_at g k
    go (inl m) ih = ih m
    go (inr m) ih = let e : p ≡ k = omega arith in subst (λ (q : ℕ). bit_at f q ≡ bit_at g q) e (s.0 ∙ sym t.0)

-- bits written over other bits of the same number, with more behind them
over_again : (f xs ys rest : List ℕ) → Bytes f → are_bits xs ≡ true → are_bits ys ≡ true → are_bits rest ≡ true → length xs ≡ length ys → length xs + length rest ≤ 8 * length f →
    overwritten (overwritten f 0 (xs ++ rest)) 0 ys ≡ overwritten f 0 (ys ++ rest)
over_again f xs ys rest by ax ay ar e h =
    let n = length ys in
    let A = overwritten f 0 xs in
    let B = overwritten f 0 ys in
    let wA = written f 0 xs by ax (omega arith) in
    let wB = written f 0 ys by ay (omega arith) in
    let lA = wA.long in
    let lB = wB.long in
    let F = overwritten A n rest in
    let H = overwritten B n rest in
    let wF = written A n rest wA.bytes ar (omega arith) in
    let wH = written B n rest wB.bytes ar (omega arith) in
    let lF = wF.long in
    let lH = wH.long in
    let G = overwritten F 0 ys in
    let wG = written F 0 ys wF.bytes ay (omega arith) in
    let lG = wG.long in
    let first : overwritten f 0 (xs ++ rest) ≡ F = sym (in_a_row f 0 xs rest) ∙ ap (λ m. overwritten A m rest) (let m : 0 + length xs ≡ n = omega arith in m) in
    let second : overwritten f 0 (ys ++ rest) ≡ H = sym (in_a_row f 0 ys rest) ∙ ap (λ m. overwritten B m rest) (zero-add n) in
    let front : (k : ℕ) → k < n → bit_at G k ≡ bit_at H k =
    λ k l. stands_alike G B 0 ys wG.stands wB.stands k (omega arith) (omega arith) ∙ sym (wH.same k (inl l)) in
    let mid : (k : ℕ) → n ≤ k → k < n + length rest → bit_at G k ≡ bit_at H k =
    λ k l m. wG.same k (inr (omega arith)) ∙ stands_alike F H n rest wF.stands wH.stands k l m in
    let back : (k : ℕ) → n + length rest ≤ k → bit_at G k ≡ bit_at H k =
    λ k l. wG.same k (inr (omega arith)) ∙ wF.same k (inr l) ∙ wA.same k (inr (omega arith)) ∙ sym (wB.same k (inr (omega arith))) ∙ sym (wH.same k (inr l)) in
    let all : (k : ℕ) → bit_at G k ≡ bit_at H k =
    λ k. elim (cases_lt k n) [ inl l ↦ front k l | inr l ↦ elim (cases_lt k (n + length rest)) [ inl m ↦ mid k l m | inr m ↦ back k m ] ] in
    ap (λ z. overwritten z 0 ys) first ∙ same_bits G H wG.bytes wH.bytes (omega arith) all ∙ sym second

are_front : (bs cs : List ℕ) → are_bits (bs ++ cs) ≡ true → are_bits cs ≡ true
are_front [] cs h = h
are_front (b ∷ bs) cs h = are_front bs cs (each_cons (λ b. ltb b 2) b (bs ++ cs) h).1

pub packed_long : (bs : List ℕ) → length (packed bs) ≡ (length bs + 7) / 8
packed_long bs = bytes_long ((length bs + 7) / 8) bs

counted_long : (w v : ℕ) (rest : List ℕ) → length (bits w v ++ rest) ≡ w + length rest
counted_long w v rest = length-append (bits w v) rest ∙ ap (λ n. n + length rest) (length_bits w v)

-- the count v is written over the zeros, and the file is closed
pub record Counted (f bs : List ℕ) (file : List ℕ) (n : ℕ) : Type 0 where
  pub long : n ≡ length (packed bs)
  pub within : n ≤ length f
  pub is : file ≡ packed bs ++ drop n f

pub counted : (v : ℕ) (rest f file : List ℕ) (n : ℕ) (first w : BitWriter) → f ≡ first.bytes.now → Bytes f → are_bits (bits 12 0 ++ rest) ≡ true → first.at ≡ 0 → Wrote (bits 12 0 ++ rest) first w →
    file ≡ closed (overwritten w.bytes.now 0 (bits 12 v)) w.at → n ≡ (w.at + 7) / 8 → Counted f (bits 12 v ++ rest) file n
counted v rest f file n first w same by a z wr e k =
    let xs = bits 12 0 in
    let ys = bits 12 v in
    let bs = ys ++ rest in
    let lx : length (xs ++ rest) ≡ 12 + length rest = counted_long 12 0 rest in
    let ly : length bs ≡ 12 + length rest = counted_long 12 v rest in
    let l1 : length xs ≡ 12 = length_bits 12 0 in
    let l2 : length ys ≡ 12 = length_bits 12 v in
    let place = wr.place in
    let p : w.at ≡ length bs = omega arith in
    let ls : length f ≡ length first.bytes.now = ap length same in
    let room : w.at ≤ 8 * length first.bytes.now = wr.room (omega arith) in
    let ar = are_front xs rest a in
    let over : overwritten w.bytes.now 0 ys ≡ overwritten f 0 bs =
    ap (λ g. overwritten g 0 ys) (wr.bytes ∙ ap (λ q. overwritten first.bytes.now q (xs ++ rest)) z ∙ ap (λ g. overwritten g 0 (xs ++ rest)) (sym same)) ∙
    over_again f xs ys rest by (bits_are 12 0) (bits_are 12 v) ar (omega arith) (omega arith) in
    let m : n ≡ (length bs + 7) / 8 = k ∙ ap (λ j. (j + 7) / 8) p in
    record {
      long = m ∙ sym (packed_long bs);
      within = omega arith;
      is = e ∙ ap₂ closed over p ∙ packs f bs by (both_are ys rest (bits_are 12 v) ar) (omega arith) ∙ ap (λ j. packed bs ++ drop j f) (sym m);
    }

-- the bits are too many for the bytes
pub too_many : (v : ℕ) (rest : List ℕ) (first : BitWriter) → first.at ≡ 0 → 8 * length first.bytes.now < first.at + length (bits 12 0 ++ rest) → length first.bytes.now < length (packed (bits 12 v ++ rest))
too_many v rest first z h =
    let l = packed_long (bits 12 v ++ rest) in
    let lx : length (bits 12 0 ++ rest) ≡ 12 + length rest = counted_long 12 0 rest in
    let ly : length (bits 12 v ++ rest) ≡ 12 + length rest = counted_long 12 v rest in
    omega arith

-- the count has room, since zeros were written in its place
pub has_room : (v : ℕ) (rest : List ℕ) (first w back : BitWriter) {P : Type 0} → first.at ≡ 0 → length first.bytes.now ≤ 65536 → Wrote (bits 12 0 ++ rest) first w → back.bytes.now ≡ w.bytes.now → back.at ≡ 0 → NoRoom (bits 12 v) back → P
has_room v rest first w back z short wr e b h =
    let lx : length (bits 12 0 ++ rest) ≡ 12 + length rest = counted_long 12 0 rest in
    let l2 : length (bits 12 v) ≡ 12 = length_bits 12 v in
    let place = wr.place in
    let lb : length back.bytes.now ≡ length first.bytes.now = ap length (e ∙ wr.bytes) ∙ long first.bytes.now first.at (bits 12 0 ++ rest) in
    let room : w.at ≤ 8 * length first.bytes.now = wr.room (omega arith) in
    let n = h (omega arith) in
    absurd (omega arith)

pub wrote_ok : (bs : List ℕ) (w new : BitWriter) (r : Result (Unit {0}) Full) → true ≡ is_ok r → Writes bs w new r → Wrote bs w new
wrote_ok bs w new (Ok x) e h = h
wrote_ok bs w new (Err x) e h = absurd cc

pub wrote_not : (bs : List ℕ) (w new : BitWriter) (r : Result (Unit {0}) Full) → false ≡ is_ok r → Writes bs w new r → NoRoom bs w
wrote_not bs w new (Ok x) e h = absurd cc
wrote_not bs w new (Err x) e h = h
