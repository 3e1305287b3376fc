-- How many bits what is written has.
use Rattle.std.proofs.Common.{◌≡◌, ℕ, ◌+◌, ◌*◌, List, [], ◌∷◌, ◌++◌, map, length, sym, refl, ap₂, ◌∙◌, arith, length-append}
use Rattle.std.proofs.Math.Nat.{suc-mul, add_comm}
use Rattle.definitions.specs.Lists.{flat}
use Rattle.definitions.specs.Bits.{bits}
use Rattle.definitions.specs.Solution.{Sign, least, greatest}
use Rattle.definitions.specs.Systems.{Quantifier, exists, forall, Quantified, Equation}
use Rattle.definitions.specs.Written.{sign_bits, quantifier_bits, header_bits}
use Rattle.theorems.proofs.Goods.{bits_long}

pub flat_long : {A : Type 0} (b : A → List ℕ) (n : ℕ) → ((x : A) → length (b x) ≡ n) → (xs : List A) → length (flat (map b xs)) ≡ length xs * n
flat_long b n h [] = omega arith
flat_long b n h (x ∷ xs) = length-append (b x) (flat (map b xs)) ∙ ap₂ ◌+◌ (h x) (flat_long b n h xs) ∙ add_comm n (length xs * n) ∙ sym (suc-mul (length xs) n)

abbrev quantified_bits : Quantified → List ℕ
quantified_bits q = quantifier_bits q.quantifier ++ bits 4 q.sort

quantified_long : (q : Quantified) → length (quantified_bits q) ≡ 5
quantified_long q = go q.quantifier
  where
    go : (k : Quantifier) → length (quantifier_bits k ++ bits 4 q.sort) ≡ 5
    go exists = refl
    go forall = refl

sign_long : (s : Sign) → length (sign_bits s) ≡ 1
sign_long least = refl
sign_long greatest = refl

pub header_long : (e : Equation) → length (header_bits e) ≡ 7 + 4 * length e.sorts + 5 * length e.quantified
header_long e =
    let sorts = flat (map (bits 4) e.sorts) in
    let variables = flat (map quantified_bits e.quantified) in
    let behind = bits 2 (length e.quantified) ++ variables in
    omega (
      arith,
      length-append (sign_bits e.sign) (bits 4 (length e.sorts) ++ (sorts ++ behind)),
      sign_long e.sign,
      length-append (bits 4 (length e.sorts)) (sorts ++ behind),
      bits_long 4 (length e.sorts),
      length-append sorts behind,
      flat_long (bits 4) 4 (bits_long 4) e.sorts,
      length-append (bits 2 (length e.quantified)) variables,
      bits_long 2 (length e.quantified),
      flat_long quantified_bits 5 quantified_long e.quantified,
    )
