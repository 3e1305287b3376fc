-- The pass C: what is known of each equation's parameters, and the known ones replaced by value terms and removed.
use Rattle.std.specs.Prelude.{ℕ, zero, suc, Bool, true, false, not as flip, ◌&&◌, List, [], ◌∷◌, ◌++◌, map, length, Some, None, Option, ◌==◌, slice_index, slice_index_or}
use Rattle.definitions.specs.Lists.{at, bind, flat, each, sum, times, is_some, map_from}
use Rattle.definitions.specs.Alg.{Alg}
use Rattle.definitions.specs.Systems.{Kind, parameter, value, Occurrence, Clause, Equation, System}
use Rattle.definitions.specs.Values.{known, is_false}
use Rattle.definitions.specs.Terms.{replaced, truth_term, on_clause, cut}

-- a value for each known parameter of an equation
abbrev pub Known : Type 0
Known = List (Option ℕ)

-- none for an unreached equation
abbrev pub Knowledge : Type 0
Knowledge = List (Option Known)

-- with two values that differ, or one not known, unknown
abbrev pub agreed : Option ℕ → Option ℕ → Option ℕ
agreed None y = None
agreed (Some v) None = None
agreed (Some v) (Some w) = elim (v == w) [ true ↦ Some v | false ↦ None ]

abbrev pub agreed_all : Known → Known → Known
agreed_all [] ys = []
agreed_all (x ∷ xs) [] = []
agreed_all (x ∷ xs) (y ∷ ys) = agreed x y ∷ agreed_all xs ys

abbrev pub taken : Option Known → Known → Known
taken None ks = ks
taken (Some old) ks = agreed_all old ks

-- what an occurrence brings to its target
abbrev pub Brought : Type 0
Brought = ℕ × Known

abbrev pub clause_brings : Alg → Known → Clause → List Brought
clause_brings a ks c =
    elim (is_false (known a ks c.guard)) [
      | true ↦ []
      | false ↦ map (λ (o : Occurrence). (o.target, map (known a ks) o.arguments)) c.occurrences
    ]

abbrev pub equation_brings : Alg → Equation → Option Known → List Brought
equation_brings a e None = []
equation_brings a e (Some ks) = elim (is_false (known a ks e.h)) [ true ↦ [] | false ↦ flat (map (clause_brings a ks) e.clauses) ]

abbrev pub all_bring : Alg → List Equation → Knowledge → List Brought
all_bring a [] K = []
all_bring a (e ∷ es) [] = []
all_bring a (e ∷ es) (k ∷ K) = equation_brings a e k ++ all_bring a es K

abbrev pub brought : Alg → System → Knowledge → List Brought
brought a s K = (s.start, map Some s.values) ∷ all_bring a s.equations K

abbrev pub learnt : Knowledge → ℕ → Known → Knowledge
learnt [] j ks = []
learnt (k ∷ K) zero ks = Some (taken k ks) ∷ K
learnt (k ∷ K) (suc j) ks = k ∷ learnt K j ks

abbrev pub learnt_all : Knowledge → List Brought → Knowledge
learnt_all K [] = K
learnt_all K (b ∷ bs) = learnt_all (learnt K b.0 b.1) bs

-- the order: unreached lies below known and known below unknown
abbrev pub value_below : Option ℕ → Option ℕ → Bool
value_below x None = true
value_below None (Some w) = false
value_below (Some v) (Some w) = v == w

abbrev pub known_below : Known → Known → Bool
known_below [] [] = true
known_below [] (y ∷ ys) = false
known_below (x ∷ xs) [] = false
known_below (x ∷ xs) (y ∷ ys) = value_below x y && known_below xs ys

abbrev pub reached_below : Option Known → Option Known → Bool
reached_below None k = true
reached_below (Some xs) None = false
reached_below (Some xs) (Some ys) = known_below xs ys

abbrev pub below : Knowledge → Knowledge → Bool
below [] [] = true
below [] (k ∷ K) = false
below (k ∷ K) [] = false
below (k ∷ K) (l ∷ L) = reached_below k l && below K L

-- what is brought is known already
abbrev pub stable : Alg → System → Knowledge → Bool
stable a s K = each (λ b. reached_below (Some b.1) (bind (at K b.0) (λ k. k))) (brought a s K)

abbrev pub unreached : System → Knowledge
unreached s = map (λ _. None) s.equations

-- no knowledge rises more often than this
abbrev pub height : System → ℕ
height s = sum (map (λ (e : Equation). suc (length e.sorts)) s.equations)

abbrev pub least_knowledge : Alg → System → Knowledge
least_knowledge a s = times (height s) (λ K. learnt_all K (brought a s K)) (unreached s)

-- replacing
abbrev pub kind_for : List ℕ → Known → ℕ → Kind
kind_for ss ks n = elim (slice_index_or ks n None) [ None ↦ parameter n | Some v ↦ value (slice_index ss n) v ]

abbrev pub bare : Equation → Equation
bare e = record { sign = e.sign; sorts = e.sorts; quantified = []; h = truth_term 0; clauses = [] }

abbrev pub inserted : Equation → Option Known → Equation
inserted e None = bare e
inserted e (Some ks) =
    let f = replaced (kind_for e.sorts ks) in
    record { sign = e.sign; sorts = e.sorts; quantified = e.quantified; h = f e.h; clauses = map (on_clause (λ j ts. ts) f) e.clauses }

-- the unknown parameters of a reached equation stay, and none of an unreached one
abbrev pub unknown_of : Equation → Option Known → List Bool
unknown_of e None = map (λ _. false) e.sorts
unknown_of e (Some ks) = map (λ k. flip (is_some k)) ks

abbrev pub pass_c : Alg → System → System
pass_c a s =
    let K = least_knowledge a s in
    cut (map_from 0 (λ i e. unknown_of e (slice_index_or K i None)) s.equations)
    (record { equations = map_from 0 (λ i e. inserted e (slice_index_or K i None)) s.equations; start = s.start; values = s.values })
