-- What the plan of U makes of a system is what U makes of it.
use Rattle.std.proofs.Common.{◌≡◌, ℕ, ◌<◌, Bool, true, false, map, length, get_or, Some, sym, refl, ap, ◌∙◌, arith}
use Rattle.std.proofs.lemmas.List.{map-id}
use Rattle.definitions.specs.Lists.{at, map_from, strike, place}
use Rattle.definitions.specs.Alg.{Alg}
use Rattle.definitions.specs.Systems.{Equation, System}
use Rattle.definitions.specs.Passes.{reachable, renamed, pass_u}
use Rattle.definitions.specs.Fits.{SystemFits}
use Rattle.theorems.proofs.Listing.{at_some}
use Rattle.theorems.proofs.Cut.{strike_map}
use Rattle.passes.specs.declared.plan.EquationChange.{EquationChange}
use Rattle.passes.specs.declared.plan.EquationChange.TheVariants as equation
use Rattle.passes.specs.declared.plan.Plan.{Plan}
use Rattle.passes.specs.Planned.{remains, remaining, change_of, equation_by, system_by}
use Rattle.passes.specs.Plans.{keeping}
use Rattle.passes.proofs.PlanBasics.{map_from_is_map, keep_every, Same, strike_same, place_same, equation_told, remaining_told, left_whole, gone_whole, whole_by, made_of, clause_to, system_steady, whole_steady}

-- an equation that is not reached goes
abbrev change_for : Bool → EquationChange
change_for b = elim b as (λ _. EquationChange) [ true ↦ equation.Stays | false ↦ equation.Goes ]

remains_for : (b : Bool) → remains (change_for b) ≡ b
remains_for true = refl
remains_for false = refl

module _ (a : Alg) (s : System) (P : Plan) (fit : SystemFits a s) (plan : keeping s P) where
  abbrev what : ℕ → Equation → EquationChange
  what i e = change_for (get_or (reachable s) i false)

  abbrev to : ℕ → ℕ
  to j = place (reachable s) j

  remaining_same : Same (length s.equations) (remaining P) (reachable s)
  remaining_same j l = let (e, p) = at_some s.equations j l in remaining_told plan j e p ∙ remains_for (get_or (reachable s) j false)

  target_same : (j : ℕ) → j < length s.equations → place (remaining P) j ≡ to j
  target_same j l = place_same (remaining P) (reachable s) j (λ i m. remaining_same i (omega arith))

  equation_same : (i : ℕ) (e : Equation) → at s.equations i ≡ Some e → equation_by a P (change_of P i) e ≡ renamed to e
  equation_same i e p =
      go (get_or (reachable s) i false) (equation_told plan i e p) ∙ whole_steady a s fit false what P plan to target_same (λ j ts. ts) (λ j. map-id) i e p ∙
      ap (λ ks. made_of e e.sorts e.h (map (clause_to to (λ t. t) (λ j ts. ts)) ks)) (keep_every (λ k. true) e.clauses (λ k. refl))
    where
      go : (b : Bool) → (change_of P i).equation ≡ change_for b → equation_by a P (change_of P i) e ≡ whole_by a P (change_of P i) e
      go true k = left_whole a P (change_of P i) e k
      go false k = gone_whole a P (change_of P i) e k

  equations_same : strike (remaining P) (map_from 0 (λ i e. equation_by a P (change_of P i) e) s.equations) ≡ map (renamed to) (strike (reachable s) s.equations)
  equations_same =
      ap (strike (remaining P)) (map_from_is_map (λ i e. equation_by a P (change_of P i) e) (renamed to) s.equations equation_same) ∙
      sym (strike_map (renamed to) (remaining P) s.equations) ∙ ap (map (renamed to)) (strike_same (remaining P) (reachable s) s.equations remaining_same)

  pub plan_u : system_by a P s ≡ pass_u a s
  plan_u = system_steady a s fit false what P plan to target_same (map (renamed to) (strike (reachable s) s.equations)) equations_same
