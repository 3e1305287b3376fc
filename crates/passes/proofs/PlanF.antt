-- What the plan of F makes of a system is what F makes of it.
use Rattle.std.proofs.Common.{◌≡◌, ℕ, ◌<◌, Bool, true, false, [], map, length, Some, sym, refl, ap, ◌∙◌, subst}
use lib.ListN.{length-map}
use Rattle.definitions.specs.Lists.{at, map_from, strike, place}
use Rattle.definitions.specs.Alg.{Alg}
use Rattle.definitions.specs.Systems.{Equation, System}
use Rattle.definitions.specs.Values.{known, is_false}
use Rattle.definitions.specs.Passes.{folded, folded_equation, pass_f}
use Rattle.definitions.specs.Fits.{SystemFits}
use Rattle.theorems.proofs.Listing.{at_some}
use Rattle.theorems.proofs.KeepsF.{shut, opened}
use Rattle.theorems.proofs.Tight.{Full, full_strike, full_place}
use Rattle.passes.specs.declared.plan.EquationChange.{EquationChange}
use Rattle.passes.specs.declared.plan.EquationChange.TheVariants as equation
use Rattle.passes.specs.declared.plan.Plan.{Plan}
use Rattle.passes.specs.Planned.{remains, remaining, change_of, equation_by, system_by}
use Rattle.passes.specs.Plans.{folding}
use Rattle.passes.proofs.PlanBasics.{map_from_is_map, full_by, equation_told, remaining_told, bare_of, made_bare, left_whole, sorts_steady, system_steady, whole_steady}

-- an equation whose h is known false becomes bare, and no equation goes
abbrev change_for : Bool → EquationChange
change_for b = elim b as (λ _. EquationChange) [ true ↦ equation.Bare | false ↦ equation.Stays ]

remains_for : (b : Bool) → remains (change_for b) ≡ true
remains_for true = refl
remains_for false = refl

module _ (a : Alg) (s : System) (P : Plan) (fit : SystemFits a s) (plan : folding a s P) where
  abbrev what : ℕ → Equation → EquationChange
  what i e = change_for (is_false (known a [] e.h))

  all_remain : Full (remaining P) (length s.equations)
  all_remain =
      full_by (remaining P) (length s.equations)
      (λ j l. let (e, p) = at_some s.equations j l in remaining_told plan j e p ∙ remains_for (is_false (known a [] e.h)))

  target_same : (j : ℕ) → j < length s.equations → place (remaining P) j ≡ j
  target_same j l = full_place (remaining P) (length s.equations) all_remain j l

  equation_same : (i : ℕ) (e : Equation) → at s.equations i ≡ Some e → equation_by a P (change_of P i) e ≡ folded_equation a e
  equation_same i e p = go (is_false (known a [] e.h)) (equation_told plan i e p)
    where
      go : (b : Bool) → (change_of P i).equation ≡ change_for b → equation_by a P (change_of P i) e ≡ elim b as (λ _. Equation) [ true ↦ shut e | false ↦ opened a e ]
      go true k =
          made_bare a P (change_of P i) e k ∙
          ap (bare_of e) (sorts_steady a s fit true what P plan i e p)
      go false k = left_whole a P (change_of P i) e k ∙ whole_steady a s fit true what P plan (λ j. j) target_same (λ j. map (λ t. folded t a)) (λ j ts. refl) i e p

  equations_same : strike (remaining P) (map_from 0 (λ i e. equation_by a P (change_of P i) e) s.equations) ≡ map (folded_equation a) s.equations
  equations_same =
      ap (strike (remaining P)) (map_from_is_map (λ i e. equation_by a P (change_of P i) e) (folded_equation a) s.equations equation_same) ∙
      full_strike (remaining P) (map (folded_equation a) s.equations) (subst (Full (remaining P)) (sym (length-map s.equations (folded_equation a))) all_remain)

  pub plan_f : system_by a P s ≡ pass_f a s
  plan_f = system_steady a s fit true what P plan (λ j. j) target_same (map (folded_equation a) s.equations) equations_same
