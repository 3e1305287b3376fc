-- The file of a system.
use Rattle.std.specs.Prelude.{ℕ, ◌-◌, List, [], ◌∷◌, ◌++◌, map, length}
use Rattle.definitions.specs.Lists.{flat}
use Rattle.definitions.specs.Bits.{bits, packed}
use Rattle.definitions.specs.Solution.{Sign, least, greatest}
use Rattle.definitions.specs.Systems.{Kind, parameter, variable, value, operation, not, and, or, equal, Term, fold, Quantifier, exists, forall, Occurrence, Clause, Equation, System}

abbrev pub kind_bits : Kind → List ℕ
kind_bits (parameter n) = bits 3 0 ++ bits 4 n
kind_bits (variable n) = bits 3 1 ++ bits 2 n
kind_bits (value s v) = bits 3 2 ++ (bits 4 s ++ bits 8 v)
kind_bits (operation o) = bits 3 3 ++ bits 6 o
kind_bits not = bits 3 4
kind_bits and = bits 3 5
kind_bits or = bits 3 6
kind_bits equal = bits 3 7

abbrev pub term_bits : Term → List ℕ
term_bits t = fold t (λ k parts. kind_bits k ++ flat parts)

abbrev pub sign_bits : Sign → List ℕ
sign_bits least = 0 ∷ []
sign_bits greatest = 1 ∷ []

abbrev pub quantifier_bits : Quantifier → List ℕ
quantifier_bits exists = 0 ∷ []
quantifier_bits forall = 1 ∷ []

abbrev pub header_bits : Equation → List ℕ
header_bits e =
    sign_bits e.sign ++ (bits 4 (length e.sorts) ++ (flat (map (bits 4) e.sorts) ++
    (bits 2 (length e.quantified) ++ flat (map (λ q. quantifier_bits q.quantifier ++ bits 4 q.sort) e.quantified))))

abbrev pub occurrence_bits : Occurrence → List ℕ
occurrence_bits o = bits 5 o.target ++ flat (map term_bits o.arguments)

abbrev pub clause_bits : Clause → List ℕ
clause_bits c = term_bits c.guard ++ (bits 3 (length c.occurrences - 1) ++ flat (map occurrence_bits c.occurrences))

abbrev pub body_bits : Equation → List ℕ
body_bits e = term_bits e.h ++ (bits 4 (length e.clauses) ++ flat (map clause_bits e.clauses))

abbrev pub system_bits : System → List ℕ
system_bits s =
    bits 5 (length s.equations) ++ (flat (map header_bits s.equations) ++ (flat (map body_bits s.equations) ++
    (bits 5 s.start ++ flat (map (bits 8) s.values))))

abbrev pub written : System → List ℕ
written s = packed (system_bits s)
