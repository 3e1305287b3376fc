-- A plan for the pass R makes of a system what the pass means.
use Rattle.std.proofs.Common.{◌≡◌, ℕ, ◌<◌, Bool, true, false, [], length, get_or, Some, refl, ap, ◌∙◌}
use Rattle.definitions.specs.Lists.{at, place}
use Rattle.definitions.specs.Alg.{Alg}
use Rattle.definitions.specs.Systems.{Kind, parameter, Equation, System}
use Rattle.definitions.specs.ReadSystem.{scope}
use Rattle.definitions.specs.Terms.{replaced, cut_equation}
use Rattle.definitions.specs.Passes.{needed, pass_r}
use Rattle.definitions.specs.Fits.{header_of, SystemFits}
use Rattle.theorems.proofs.Listing.{get_or_some}
use Rattle.passes.specs.declared.plan.ParameterChange.{ParameterChange}
use Rattle.passes.specs.declared.plan.ParameterChange.TheVariants.{Stays, Goes, Becomes}
use Rattle.passes.specs.declared.plan.EquationChange.TheVariants as equation
use Rattle.passes.specs.declared.plan.Plan.{Plan}
use Rattle.passes.specs.Planned.{stays, change_of, kind_by, system_by}
use Rattle.passes.specs.Plans.{needing}
use Rattle.passes.proofs.Numbering.{kind_numbered}
use Rattle.passes.proofs.PlanBasics.{parameter_told, fits_same, Steady, placed, stays_made, system_made}

abbrev kept : Bool → ParameterChange
kept b = elim b [ true ↦ Stays | false ↦ Goes ]

kept_stays : (b : Bool) → stays (kept b) ≡ b
kept_stays true = refl
kept_stays false = refl

kept_moves : (b : Bool) (v : ℕ) → kept b ≡ Becomes v → ⊥
kept_moves true v e = absurd cc
kept_moves false v e = absurd cc

module _ (a : Alg) (s : System) (P : Plan) (fit : SystemFits a s) (plans : needing s P) where
  abbrev steady : Steady a s P
  steady =
      record {
        fit = fit;
        what = λ i e. equation.Stays;
        each = λ i e n. kept (get_or (get_or (needed s) i []) n false);
        plans = plans;
        left = λ i e p. refl;
        masks = needed s;
        agree = λ i e p n l. kept_stays (get_or (get_or (needed s) i []) n false);
      }

  abbrev renumbered : ℕ → ℕ → Kind
  renumbered i n = parameter (place (get_or (needed s) i []) n)

  kind_is : (i : ℕ) (e : Equation) → at s.equations i ≡ Some e → (n : ℕ) → n < length e.sorts → kind_by e.sorts (change_of P i) n ≡ renumbered i n
  kind_is i e p n l =
      let b = get_or (get_or (needed s) i []) n false in
      kind_numbered e.sorts (change_of P i) n (kept b)
      (get_or_some Goes (change_of P i).parameters n (kept b) (parameter_told plans i e p n l)) (kept_moves b) ∙
      ap parameter (placed a s P steady i e p n l)

  pub plan_r : system_by a P s ≡ pass_r a s
  plan_r =
      system_made a s P steady (cut_equation (needed s))
      (λ i e p.
      stays_made a s P steady i e p (replaced (renumbered i)) refl
      (fits_same a (scope (header_of e)) (kind_by e.sorts (change_of P i)) (renumbered i) (kind_is i e p) 32))
