-- Bits put one after the other, and several at once inside a byte.
use Rattle.std.proofs.Common.{◌≡◌, ℕ, zero, suc, ◌+◌, ◌-◌, ◌*◌, ◌/◌, ◌%◌, ◌^◌, ◌<◌, ◌≤◌, List, [], ◌∷◌, ◌++◌, length, get_or, set, replicate, sym, refl, ap, ◌∙◌, subst, ap₂, add-zero, mod-lt, mul_assoc, mul_comm, add-mul, add_comm, suc-add, pow-suc, div-add-mod', zero-add, one-add, arith, length-set, get_or-set_same, set-set, pow_pos, pow-add, shr-shr, shr_lt}
use native.Mathlib.Nat.{zero-div, zero-mod}
use lib.Seq.{set-get_or, set_out}
use lib.Arith.{digits_lt, digits_div, digits_mod}
use lib.Pow.{split, mod-mod-pow, field as middle}
use Rattle.definitions.specs.Bits.{bits}
use Rattle.bits.specs.Put.{with_bit, set_bit, overwritten, closed}

pub in_a_row : (f : List ℕ) (p : ℕ) (bs cs : List ℕ) → overwritten (overwritten f p bs) (p + length bs) cs ≡ overwritten f p (bs ++ cs)
in_a_row f p [] cs = ap (λ n. overwritten f n cs) (add-zero p)
in_a_row f p (b ∷ bs) cs =
    let e : p + suc (length bs) ≡ suc p + length bs = omega arith in
    ap (λ n. overwritten (overwritten (set_bit f p b) (suc p) bs) n cs) e ∙ in_a_row (set_bit f p b) (suc p) bs cs

pub length_bits : (w v : ℕ) → length (bits w v) ≡ w
length_bits zero v = refl
length_bits (suc w) v = ap suc (length_bits w (v % 2 ^ w))

-- only the low bits count
pub bits_mod : (w v : ℕ) → bits w (v % 2 ^ w) ≡ bits w v
bits_mod zero v = refl
bits_mod (suc w) v =
    let e : v % 2 ^ (1 + w) / 2 ^ w ≡ v / 2 ^ w % 2 ^ 1 = middle v 1 w in
    let m : v % 2 ^ (1 + w) % 2 ^ w ≡ v % 2 ^ w = mod-mod-pow v 1 w in
    let s : v % 2 ^ suc w ≡ v % 2 ^ (1 + w) = ap (λ n. v % 2 ^ n) (sym (one-add w)) in
    let h : (v % 2 ^ suc w / 2 ^ w) % 2 ≡ (v / 2 ^ w) % 2 = ap (λ n. (n / 2 ^ w) % 2) s ∙ ap (λ n. n % 2) e ∙ (let z : (v / 2 ^ w % 2) % 2 ≡ (v / 2 ^ w) % 2 = omega arith in z) in
    ap₂ (λ b bs. b ∷ bs) h (ap (bits w) (ap (λ n. n % 2 ^ w) s ∙ m))

pub bits_join : (d k u : ℕ) → bits (d + k) u ≡ bits d (u / 2 ^ k) ++ bits k (u % 2 ^ k)
bits_join zero k u = ap (λ n. bits n u) (zero-add k) ∙ sym (bits_mod k u)
bits_join (suc d) k u =
    let ih : bits (d + k) (u % 2 ^ (d + k)) ≡ bits d (u % 2 ^ (d + k) / 2 ^ k) ++ bits k (u % 2 ^ (d + k) % 2 ^ k) = bits_join d k (u % 2 ^ (d + k)) in
    let h : (u / 2 ^ (d + k)) % 2 ≡ (u / 2 ^ k / 2 ^ d) % 2 = ap (λ n. (u / 2 ^ n) % 2) (add_comm d k) ∙ ap (λ n. n % 2) (sym (shr-shr u k d)) in
    ap (λ n. bits n u) (suc-add d k) ∙
    ap₂ (λ b bs. b ∷ bs) h (ih ∙ ap₂ (λ x y. bits d x ++ bits k y) (middle u d k) (mod-mod-pow u d k))

-- a byte with some bits in place of its own: h is the weight above them, l that of the last
abbrev pub with_bits : ℕ → ℕ → ℕ → ℕ → ℕ
with_bits x h l v = x / h * h + v * l + x % l

one_more : (a b k m s r v u : ℕ) → m ≡ k * s → v ≡ b * k + u → (a * 2 + b) * m + u * s + r ≡ a * (2 * m) + v * s + r
one_more a b k m s r v u e w =
    let i : (a * 2 + b) * m ≡ a * 2 * m + b * m = add-mul (a * 2) b m in
    let j : a * 2 * m ≡ a * (2 * m) = mul_assoc a 2 m in
    let n : v * s ≡ b * k * s + u * s = ap (λ z. z * s) w ∙ add-mul (b * k) u s in
    let o : b * k * s ≡ b * m = mul_assoc b k s ∙ ap (λ z. b * z) (sym e) in
    omega arith

top : (v k : ℕ) → v < 2 ^ suc k → v ≡ v / 2 ^ k % 2 * 2 ^ k + v % 2 ^ k
top v k h =
    let l : v / 2 ^ k < 2 ^ 1 = shr_lt {n = v} 1 k (subst (λ n. v < 2 ^ n) (sym (one-add k)) h) in
    let e : v / 2 ^ k % 2 ≡ v / 2 ^ k = omega arith in
    sym (split v k) ∙ ap (λ n. n * 2 ^ k + v % 2 ^ k) (sym e)

regroup : (a b m r : ℕ) → a * (2 * m) + b * m + r ≡ (a * 2 + b) * m + r
regroup a b m r =
    let i : (a * 2 + b) * m ≡ a * 2 * m + b * m = add-mul (a * 2) b m in
    let j : a * 2 * m ≡ a * (2 * m) = mul_assoc a 2 m in
    omega arith

-- the first bit, and then the others
with_bits_more : (x v k s : ℕ) → v < 2 ^ suc k → with_bits (with_bit x (2 ^ (k + s)) (v / 2 ^ k % 2)) (2 ^ (k + s)) (2 ^ s) (v % 2 ^ k) ≡ with_bits x (2 * 2 ^ (k + s)) (2 ^ s) v
with_bits_more x v k s h =
    let m = 2 ^ (k + s) in
    let b = v / 2 ^ k % 2 in
    let a = x / (2 * m) in
    let y = with_bit x m b in
    let lt : x % m < m = mod-lt x (pow_pos (k + s)) in
    let e : y ≡ (a * 2 + b) * m + x % m = regroup a b m (x % m) in
    let d : y / m ≡ a * 2 + b = ap (λ n. n / m) e ∙ digits_div (a * 2 + b) lt in
    let r : y % m ≡ x % m = ap (λ n. n % m) e ∙ digits_mod (a * 2 + b) lt in
    let q : y % 2 ^ s ≡ x % 2 ^ s = sym (mod-mod-pow y k s) ∙ ap (λ n. n % 2 ^ s) r ∙ mod-mod-pow x k s in
    ap₂ (λ n t. n * m + v % 2 ^ k * 2 ^ s + t) d q ∙ one_more a b (2 ^ k) m (2 ^ s) (x % 2 ^ s) v (v % 2 ^ k) (pow-add 2 k s) (top v k h)

doubled : (j h : ℕ) → h ≡ suc j → 2 * 2 ^ j ≡ 2 ^ h
doubled j h e = mul_comm 2 (2 ^ j) ∙ sym (pow-suc 2 j) ∙ ap (λ n. 2 ^ n) (sym e)

whole : (x h : ℕ) → x ≡ with_bits x h h 0
whole x h = let e : x / h * h + x % h ≡ x = div-add-mod' x h in omega arith

-- several bits at once, inside a byte
pub put_in : (f : List ℕ) (p k v : ℕ) → p % 8 + k ≤ 8 → v < 2 ^ k → p < 8 * length f →
    overwritten f p (bits k v) ≡ set f (p / 8) (with_bits (get_or f (p / 8) 0) (2 ^ (8 - p % 8)) (2 ^ (8 - p % 8 - k)) v)
put_in f p zero v h hv hp =
    let x = get_or f (p / 8) 0 in
    let z : 0 ≡ v = omega arith in
    let l : 8 - p % 8 ≡ 8 - p % 8 - 0 = omega arith in
    sym (set-get_or f (p / 8) 0) ∙ ap (set f (p / 8)) (whole x (2 ^ (8 - p % 8))) ∙ ap₂ (λ n u. set f (p / 8) (with_bits x (2 ^ (8 - p % 8)) (2 ^ n) u)) l z
put_in f p (suc zero) v h hv hp =
    let x = get_or f (p / 8) 0 in
    let j = 7 - p % 8 in
    let l : j ≡ 8 - p % 8 - 1 = omega arith in
    let b : v / 1 % 2 ≡ v = omega arith in
    ap (λ n. set f (p / 8) (with_bit x (2 ^ j) n)) b ∙
    ap (λ n. set f (p / 8) (with_bits x n (2 ^ j) v)) (doubled j (8 - p % 8) (omega arith)) ∙
    ap (λ n. set f (p / 8) (with_bits x (2 ^ (8 - p % 8)) (2 ^ n) v)) l
put_in f p (suc (suc k)) v h hv hp =
    let x = get_or f (p / 8) 0 in
    let i = p / 8 in
    let s = 8 - p % 8 - suc (suc k) in
    let b = v / 2 ^ suc k % 2 in
    let u = v % 2 ^ suc k in
    let y = with_bit x (2 ^ (7 - p % 8)) b in
    let g = set_bit f p b in
    let lt : i < length f = omega arith in
    let lg : length g ≡ length f = length-set f i y in
    let q : suc p / 8 ≡ i = omega arith in
    let e₁ : 8 - suc p % 8 ≡ suc k + s = omega arith in
    let e₂ : 8 - suc p % 8 - suc k ≡ s = omega arith in
    let e₃ : 7 - p % 8 ≡ suc k + s = omega arith in
    let hu : u < 2 ^ suc k = mod-lt v (pow_pos (suc k)) in
    put_in g (suc p) (suc k) u (omega arith) hu (omega arith) ∙
    ap (λ n. set g n (with_bits (get_or g n 0) (2 ^ (8 - suc p % 8)) (2 ^ (8 - suc p % 8 - suc k)) u)) q ∙
    ap₂ (λ m n. set g i (with_bits (get_or g i 0) (2 ^ m) (2 ^ n) u)) e₁ e₂ ∙
    ap (λ n. set g i (with_bits n (2 ^ (suc k + s)) (2 ^ s) u)) (get_or-set_same f i y 0 lt) ∙
    set-set f i y (with_bits y (2 ^ (suc k + s)) (2 ^ s) u) ∙
    ap (λ n. set f i (with_bits (with_bit x (2 ^ n) b) (2 ^ (suc k + s)) (2 ^ s) u)) e₃ ∙
    ap (set f i) (with_bits_more x v (suc k) s hv) ∙
    ap (λ n. set f i (with_bits x n (2 ^ s) v)) (doubled (suc k + s) (8 - p % 8) (omega arith))

-- what is put into a byte is a byte
pub with_bits_small : (x h l k v : ℕ) → x < 256 → h ≤ 8 → h ≡ k + l → v < 2 ^ k → with_bits x (2 ^ h) (2 ^ l) v < 256
with_bits_small x h l k v hx hh e hv =
    let low : v * 2 ^ l + x % 2 ^ l < 2 ^ h = subst (λ n. v * 2 ^ l + x % 2 ^ l < n) (sym (ap (λ n. 2 ^ n) e ∙ pow-add 2 k l)) (digits_lt {m = 2 ^ k} hv (mod-lt x (pow_pos l))) in
    let g : 8 - h + h ≡ 8 = omega arith in
    let up : x / 2 ^ h < 2 ^ (8 - h) = shr_lt {n = x} (8 - h) h (subst (λ n. x < 2 ^ n) (sym g) hx) in
    let all : x / 2 ^ h * 2 ^ h + (v * 2 ^ l + x % 2 ^ l) < 2 ^ (8 - h) * 2 ^ h = digits_lt {m = 2 ^ (8 - h)} up low in
    let n : 2 ^ (8 - h) * 2 ^ h ≡ 256 = sym (pow-add 2 (8 - h) h) ∙ ap (λ n. 2 ^ n) g in
    omega arith

-- one part more of a number
pub put_more : (f g : List ℕ) (p d k v w : ℕ) → d + k ≤ w → g ≡ overwritten f p (bits d (v / 2 ^ (w - d))) →
    overwritten g (p + d) (bits k (v / 2 ^ (w - d - k) % 2 ^ k)) ≡ overwritten f p (bits (d + k) (v / 2 ^ (w - (d + k))))
put_more f g p d k v w h e =
    let u = v / 2 ^ (w - d - k) in
    let bs = bits d (v / 2 ^ (w - d)) in
    let l : d ≡ length bs = sym (length_bits d (v / 2 ^ (w - d))) in
    let n : w - d ≡ w - d - k + k = omega arith in
    let q : v / 2 ^ (w - d) ≡ u / 2 ^ k = ap (λ n. v / 2 ^ n) n ∙ sym (shr-shr v (w - d - k) k) in
    let r : w - d - k ≡ w - (d + k) = omega arith in
    ap₂ (λ x n. overwritten x (p + n) (bits k (u % 2 ^ k))) e l ∙
    in_a_row f p bs (bits k (u % 2 ^ k)) ∙
    ap (λ x. overwritten f p (bits d x ++ bits k (u % 2 ^ k))) q ∙
    ap (overwritten f p) (sym (bits_join d k u)) ∙
    ap (λ n. overwritten f p (bits (d + k) (v / 2 ^ n))) r

pub bits_zero : (w : ℕ) → bits w 0 ≡ replicate w 0
bits_zero zero = refl
bits_zero (suc w) =
    let d : 0 / 2 ^ w ≡ 0 = zero-div (2 ^ w) in
    let m : 0 % 2 ^ w ≡ 0 = zero-mod (2 ^ w) in
    ap₂ (λ n bs. n % 2 ∷ bs) d (ap (bits w) m ∙ bits_zero w)

-- nothing is written behind the end
pub overwritten_out : (f : List ℕ) (p : ℕ) (bs : List ℕ) → length f ≤ p / 8 → overwritten f p bs ≡ f
overwritten_out f p [] h = refl
overwritten_out f p (b ∷ bs) h =
    let e : set_bit f p b ≡ f = set_out f (p / 8) (with_bit (get_or f (p / 8) 0) (2 ^ (7 - p % 8)) b) h in
    ap (λ g. overwritten g (suc p) bs) e ∙ overwritten_out f (suc p) bs (omega arith)

pub closes : (f : List ℕ) (p : ℕ) → (p % 8 ≡ 0 → ⊥) → overwritten f p (bits (8 - p % 8) 0) ≡ closed f p
closes f p h =
    let e : 8 - p % 8 ≡ (8 - p % 8) % 8 = omega arith in
    ap (overwritten f p) (bits_zero (8 - p % 8)) ∙ ap (λ n. overwritten f p (replicate n 0)) e
