-- Fields that stand in a file are read.
use Rattle.faults.specs.declared.Reason.{Reason}
use Rattle.faults.specs.declared.Reason.TheVariants.{EndsInField, WrongSort}
use Rattle.std.proofs.Common.{◌≡◌, ℕ, zero, suc, ◌+◌, ◌*◌, ◌/◌, ◌%◌, ◌^◌, ◌<◌, ◌≤◌, Bool, true, false, eqb, ltb, leb, List, [], ◌∷◌, ◌++◌, length, Some, None, Option, sym, refl, ap, ◌∙◌, subst, ap₂, add-zero, mod-eq_of_lt, mul_comm, pow-suc, one-add, arith}
use native.Mathlib.Nat.{mod-mod}
use lib.Arith.{digits_lt}
use lib.Pow.{mod-pow-add, high, low}
use Rattle.std.proofs.lemmas.Bool.{leb-true, le-leb, eqb-true, lt-ltb, ltb-true}
use Rattle.definitions.specs.Bits.{bit_at, field, bits, Stands}
use Rattle.definitions.specs.Reading.{Step, next, stop, take, follow, given, must, below}
use Rattle.definitions.specs.ReadSystem.{suits}
use Rattle.definitions.specs.Fits.{Needs}

pub stands_left : (f : List ℕ) (p : ℕ) (bs cs : List ℕ) → Stands f p (bs ++ cs) → Stands f p bs
stands_left f p [] cs h = end f p cs h
  where
    end : (f : List ℕ) (p : ℕ) (cs : List ℕ) → Stands f p cs → p ≤ 8 * length f
    end f p [] h = h
    end f p (c ∷ cs) h = omega (arith, end f (suc p) cs h.1)
stands_left f p (b ∷ bs) cs h = (h.0, stands_left f (suc p) bs cs h.1)

pub stands_right : (f : List ℕ) (p : ℕ) (bs cs : List ℕ) → Stands f p (bs ++ cs) → Stands f (p + length bs) cs
stands_right f p [] cs h = subst (λ q. Stands f q cs) (sym (add-zero p)) h
stands_right f p (b ∷ bs) cs h =
    let e : suc p + length bs ≡ p + suc (length bs) = omega arith in
    subst (λ q. Stands f q cs) e (stands_right f (suc p) bs cs h.1)

stands_end : (f : List ℕ) (p w v : ℕ) → Stands f p (bits w v) → p + w ≤ 8 * length f
stands_end f p zero v h = omega arith
stands_end f p (suc w) v h = omega (arith, stands_end f (suc p) w (v % 2 ^ w) h.1)

stands_field : (f : List ℕ) (p w v : ℕ) → Stands f p (bits w v) → field f p w ≡ v % 2 ^ w
stands_field f p zero v h = omega arith
stands_field f p (suc w) v h = ap₂ (λ x y. x * 2 ^ w + y) h.0 (stands_field f (suc p) w (v % 2 ^ w) h.1 ∙ mod-mod v (2 ^ w)) ∙
    subst (λ n. (v / 2 ^ w % 2) * 2 ^ w + v % 2 ^ w ≡ v % 2 ^ n) (one-add w) (sym (mod-pow-add v 1 w))

pub takes : (f : List ℕ) (p w v : ℕ) → v < 2 ^ w → Stands f p (bits w v) → take w f p ≡ next v (p + w)
takes f p w v s h = rw (le-leb (p + w) (8 * length f) (stands_end f p w v h), take) (ap (λ n. next n (p + w)) (stands_field f p w v h ∙ mod-eq_of_lt s))

pub stands_most : (f : List ℕ) (p : ℕ) (bs : List ℕ) → Stands f p bs → p + length bs ≤ 8 * length f
stands_most f p [] h = omega arith
stands_most f p (b ∷ bs) h = omega (arith, stands_most f (suc p) bs h.1)

-- and back: a field that is read stands there
pub stands_join : (f : List ℕ) (p : ℕ) (bs cs : List ℕ) → Stands f p bs → Stands f (p + length bs) cs → Stands f p (bs ++ cs)
stands_join f p [] cs h k = subst (λ q. Stands f q cs) (add-zero p) k
stands_join f p (b ∷ bs) cs h k =
    let e : p + suc (length bs) ≡ suc p + length bs = omega arith in
    (h.0, stands_join f (suc p) bs cs h.1 (subst (λ q. Stands f q cs) e k))

bit_below : (f : List ℕ) (p : ℕ) → bit_at f p < 2
bit_below f p = omega arith

field_below : (f : List ℕ) (p w : ℕ) → field f p w < 2 ^ w
field_below f p zero = omega arith
field_below f p (suc w) =
    subst (λ n. bit_at f p * 2 ^ w + field f (suc p) w < n) (mul_comm 2 (2 ^ w) ∙ sym (pow-suc 2 w))
    (digits_lt {m = 2} (bit_below f p) (field_below f (suc p) w))

pub field_stands : (f : List ℕ) (p w : ℕ) → p + w ≤ 8 * length f → Stands f p (bits w (field f p w))
field_stands f p zero h = omega arith
field_stands f p (suc w) h = (
  sym (ap (λ n. n % 2) (high (bit_at f p) w (field_below f (suc p) w)) ∙ mod-eq_of_lt (bit_below f p)),
  subst (λ n. Stands f (suc p) (bits w n)) (sym (low (bit_at f p) w (field_below f (suc p) w))) (field_stands f (suc p) w (omega arith)),
)

pub record Took (f : List ℕ) (p w v q : ℕ) : Type 0 where
  pub stands : Stands f p (bits w v)
  pub small : v < 2 ^ w
  pub behind : q ≡ p + w

pub took : (f : List ℕ) (p w v q : ℕ) → take w f p ≡ next v q → Took f p w v q
took f p w v q = go (leb (p + w) (8 * length f)) refl
  where
    go : (b : Bool) → leb (p + w) (8 * length f) ≡ b →
        elim b as (λ _. Step ℕ) [ true ↦ next (field f p w) (p + w) | false ↦ stop EndsInField p ] ≡ next v q → Took f p w v q
    go true e h =
        let ev : field f p w ≡ v = cc in
        let eq : p + w ≡ q = cc in
        record {
          stands = subst (λ n. Stands f p (bits w n)) ev (field_stands f p w (leb-true (p + w) (8 * length f) e));
          small = subst (λ n. n < 2 ^ w) ev (field_below f p w);
          behind = sym eq;
        }
    go false e h = absurd cc

-- a step of a reader that came through
pub follow_inv : {A B : Type 0} (m : Step A) (k : A → ℕ → Step B) (y : B) (q : ℕ) → follow m k ≡ next y q →
    (x : A) × (r : ℕ) × (m ≡ next x r) × (k x r ≡ next y q)
follow_inv (next x r) k y q e = (x, r, refl, e)
follow_inv (stop r p) k y q e = absurd cc

pub given_inv : {A : Type 0} (o : Option A) (r : Reason) (t : ℕ) (f : List ℕ) (p : ℕ) (x : A) (q : ℕ) → given o r t f p ≡ next x q → (o ≡ Some x) × (q ≡ p)
given_inv (Some y) r t f p x q e = let ex : y ≡ x = cc in let eq : q ≡ p = cc in (ap Some ex, eq)
given_inv None r t f p x q e = absurd cc

pub suits_inv : (need : Option ℕ) (s t : ℕ) (f : List ℕ) (p : ℕ) (x : Unit {0}) (q : ℕ) → suits need s t f p ≡ next x q → Needs need s × (q ≡ p)
suits_inv None s t f p x q e = let eq : q ≡ p = cc in (tt, eq)
suits_inv (Some n) s t f p x q e₀ = go (eqb n s) refl e₀
  where
    go : (b : Bool) → eqb n s ≡ b → must b WrongSort t f p ≡ next x q → (n ≡ s) × (q ≡ p)
    go true e h = let eq : q ≡ p = cc in (eqb-true n s e, eq)
    go false e h = absurd cc

-- a number below a limit
pub below_some : (z v : ℕ) → v < z → below z v ≡ Some v
below_some z v l = ap (λ (b : Bool). elim b as (λ _. Option ℕ) [ true ↦ Some v | false ↦ None ]) (lt-ltb v z l)

pub below_inv : (z v w : ℕ) → below z v ≡ Some w → (v ≡ w) × (v < z)
below_inv z v w = go (ltb v z) refl
  where
    go : (b : Bool) → ltb v z ≡ b → elim b as (λ _. Option ℕ) [ true ↦ Some v | false ↦ None ] ≡ Some w → (v ≡ w) × (v < z)
    go true e h = let k : v ≡ w = cc in (k, ltb-true v z e)
    go false e h = absurd cc
