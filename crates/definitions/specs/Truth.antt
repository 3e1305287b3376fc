-- The truth of a system's instances.
use Rattle.std.specs.Prelude.{ℕ, Bool, true, false, ◌&&◌, List, [], ◌∷◌, ◌++◌, map, Some, None, Option, ◌==◌}
use Rattle.definitions.specs.Lists.{at, or_else, up_to, each, some, product, map_from}
use Rattle.definitions.specs.Alg.{Alg, within}
use Rattle.definitions.specs.Systems.{Quantifier, exists, forall, Quantified, Occurrence, Clause, Equation, System}
use Rattle.definitions.specs.Values.{holds, values_of}
use Rattle.definitions.specs.Solution.{Block, solved}

-- an equation, and values for its parameters
abbrev pub Instance : Type 0
Instance = ℕ × List ℕ

abbrev pub size_of : Alg → ℕ → ℕ
size_of a s = or_else (a.size s) 0

abbrev pub ranging : Quantifier → (ℕ → Bool) → List ℕ → Bool
ranging exists p vs = some p vs
ranging forall p vs = each p vs

-- under the quantifiers, the first outermost
abbrev pub under : Alg → List Quantified → List ℕ → (List ℕ → Bool) → Bool
under a [] vs p = p vs
under a (q ∷ qs) vs p = ranging q.quantifier (λ v. under a qs (vs ++ (v ∷ [])) p) (up_to (size_of a q.sort))

abbrev pub meant : Alg → List ℕ → List ℕ → Occurrence → Instance
meant a ps vs o = (o.target, values_of a ps vs o.arguments)

-- the guard implies one of the occurrences
abbrev pub clause_holds : Alg → (Instance → Bool) → List ℕ → List ℕ → Clause → Bool
clause_holds a f ps vs c = elim (holds a ps vs c.guard) [ true ↦ some (λ o. f (meant a ps vs o)) c.occurrences | false ↦ true ]

-- h holds, and so does each clause
abbrev pub inside_holds : Alg → (Instance → Bool) → Equation → List ℕ → List ℕ → Bool
inside_holds a f e ps vs = elim (holds a ps vs e.h) [ true ↦ each (clause_holds a f ps vs) e.clauses | false ↦ false ]

abbrev pub equation_holds : Alg → (Instance → Bool) → Option Equation → List ℕ → Bool
equation_holds a f None ps = false
equation_holds a f (Some e) ps = under a e.quantified [] (inside_holds a f e ps)

abbrev pub body : Alg → System → (Instance → Bool) → Instance → Bool
body a s f x = equation_holds a f (at s.equations x.0) x.1

abbrev pub sizes_of : Alg → Equation → List ℕ
sizes_of a e = map (size_of a) e.sorts

-- the instances of the equation numbered i
abbrev pub block_of : Alg → ℕ → Equation → Block Instance
block_of a i e =
    record {
      sign = e.sign;
      inside = λ x. (x.0 == i) && within (sizes_of a e) x.1;
      rounds = product (sizes_of a e);
    }

abbrev pub truths : Alg → System → Instance → Bool
truths a s = solved (body a s) (map_from 0 (block_of a) s.equations)

abbrev pub verdict : Alg → System → Bool
verdict a s = truths a s (s.start, s.values)
