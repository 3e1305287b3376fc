-- The headers of equations written anew.
use Rattle.std.proofs.Common.{◌≡◌, ◌≢◌, ℕ, ◌<◌, MatchBool, Bool, true, false, List, [], ◌++◌, map, length, refl, arith}
use denote.Enum.Declared.{tag_of}
use Rattle.definitions.specs.Lists.{flat, strike}
use Rattle.definitions.specs.Alg.{Alg}
use Rattle.definitions.specs.Bits.{bits}
use Rattle.definitions.specs.Systems.{Quantified, Equation}
use Rattle.definitions.specs.ReadSystem.{Header}
use Rattle.definitions.specs.Written.{sign_bits, header_bits}
use Rattle.definitions.specs.Fits.{header_of}
use Rattle.system.specs.declared.header.Sign.{Sign}
use Rattle.system.specs.declared.header.Sign.TheVariants.{Least, Greatest}
use Rattle.system.specs.contracts.header.Sign.{the_type}
use Rattle.system.specs.Files.{kept_sign}
use Rattle.passes.specs.declared.plan.EquationChange.{EquationChange}
use Rattle.passes.specs.declared.plan.EquationChange.TheVariants.{Stays, Bare, Goes}
use Rattle.passes.specs.declared.plan.Change.{Change}
use Rattle.passes.specs.declared.plan.Plan.{Plan}
use Rattle.passes.specs.Planned.{mask, equation_by}
use Rattle.passes.specs.Rewrites.{quantified_bits}

pub sign_bit : (s : Sign) → bits 1 (tag_of the_type s) ≡ sign_bits (kept_sign s)
sign_bit Least = refl
sign_bit Greatest = refl

pub sign_small : (s : Sign) → tag_of the_type s < 2
sign_small Least = omega arith
sign_small Greatest = omega arith

abbrev pub variables_bits : EquationChange → List Quantified → List ℕ
variables_bits Bare qs = bits 2 0 ++ []
variables_bits Stays qs = bits 2 (length qs) ++ flat (map quantified_bits qs)
variables_bits Goes qs = bits 2 (length qs) ++ flat (map quantified_bits qs)

abbrev pub sorts_bits : Header → Change → List ℕ
sorts_bits h c = flat (map (bits 4) (strike (mask c) h.sorts))

abbrev pub head_bits : Header → Change → List ℕ
head_bits h c = sign_bits h.sign ++ (bits 4 (length (strike (mask c) h.sorts)) ++ (sorts_bits h c ++ variables_bits c.equation h.quantified))

pub headed : (a : Alg) (P : Plan) (c : Change) (e : Equation) → header_bits (equation_by a P c e) ≡ head_bits (header_of e) c
headed a P c e = go c.equation
  where
    go : (x : EquationChange) → header_bits (equation_by a P (record { equation = x; parameters = c.parameters }) e) ≡ head_bits (header_of e) (record { equation = x; parameters = c.parameters })
    go Stays = refl
    go Bare = refl
    go Goes = refl

pub is_bare : (b : Bool) (x : EquationChange) → MatchBool b (x ≡ Bare) (x ≢ Bare) → b ≡ true → x ≡ Bare
is_bare true x h e = h
is_bare false x h e = absurd cc

pub all_variables : (b : Bool) (x : EquationChange) (qs : List Quantified) → MatchBool b (x ≡ Bare) (x ≢ Bare) → b ≡ false → variables_bits x qs ≡ bits 2 (length qs) ++ flat (map quantified_bits qs)
all_variables true x qs h e = absurd cc
all_variables false Stays qs h e = refl
all_variables false Bare qs h e = absurd (h refl)
all_variables false Goes qs h e = refl
