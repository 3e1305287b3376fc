-- The pass Repeats: of the clauses of a body, each that repeats an earlier one goes.
use Rattle.std.specs.Prelude.{Bool, true, false, List, [], ◌∷◌, map}
use Rattle.definitions.specs.Lists.{some, same}
use Rattle.definitions.specs.Alg.{Alg}
use Rattle.definitions.specs.Systems.{Clause, Equation, System}
use Rattle.definitions.specs.Written.{clause_bits}

-- the clause k has the same bits as l
abbrev pub repeats : Clause → Clause → Bool
repeats k l = same (clause_bits k) (clause_bits l)

-- the clauses that come behind others, without those that repeat an earlier one
abbrev pub unrepeated : List Clause → List Clause → List Clause
unrepeated before [] = []
unrepeated before (k ∷ ks) = elim (some (repeats k) before) [ true ↦ unrepeated (k ∷ before) ks | false ↦ k ∷ unrepeated (k ∷ before) ks ]

abbrev pub equation_without_repeats : Equation → Equation
equation_without_repeats e = record { sign = e.sign; sorts = e.sorts; quantified = e.quantified; h = e.h; clauses = unrepeated [] e.clauses }

-- it does the same over each algebra
abbrev pub without_repeats : Alg → System → System
without_repeats a s = record { equations = map equation_without_repeats s.equations; start = s.start; values = s.values }
