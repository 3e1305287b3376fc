-- Which terms and systems fit an algebra: their names exist, terms have the sorts that their places need and keep the depth limit, and counts fit their fields.
use Rattle.std.specs.Prelude.{◌≡◌, ℕ, suc, ◌<◌, ◌≤◌, List, [], ◌∷◌, map, length, Some, None, Option}
use Rattle.definitions.specs.Lists.{at}
use Rattle.definitions.specs.Alg.{Alg}
use Rattle.definitions.specs.Systems.{parameter, variable, value, operation, not, and, or, equal, Term, Terms, node, none, more, Quantified, Occurrence, Clause, Equation, System}
use Rattle.definitions.specs.ReadSystem.{Scope, Header, scope, greatest_depth}

-- the term has the sort s and depth at most d
mutual
  pub data Fits (a : Alg) (c : Scope) : ℕ → ℕ → Term → Type 0 where
    fit_parameter : {d s n : ℕ} → n < 16 → at c.parameters n ≡ Some s → Fits a c (suc d) s (node (parameter n) none)
    fit_variable : {d s n : ℕ} → n < 4 → at c.variables n ≡ Some s → Fits a c (suc d) s (node (variable n) none)
    fit_value : {d s v z : ℕ} → s < 16 → v < 256 → a.size s ≡ Some z → v < z → Fits a c (suc d) s (node (value s v) none)
    fit_operation : {d s o n : ℕ} {ts : Terms} → o < 64 → a.arity o ≡ Some n → a.res_sort o ≡ Some s → FitsArgs a c d o 0 n ts →
        Fits a c (suc d) s (node (operation o) ts)
    fit_not : {d : ℕ} {t : Term} → Fits a c d 0 t → Fits a c (suc d) 0 (node not (more t none))
    fit_and : {d : ℕ} {t u : Term} → Fits a c d 0 t → Fits a c d 0 u → Fits a c (suc d) 0 (node and (more t (more u none)))
    fit_or : {d : ℕ} {t u : Term} → Fits a c d 0 t → Fits a c d 0 u → Fits a c (suc d) 0 (node or (more t (more u none)))
    fit_equal : {d s : ℕ} {t u : Term} → Fits a c d s t → Fits a c d s u → Fits a c (suc d) 0 (node equal (more t (more u none)))

  -- the terms are the arguments of o from the one numbered k on, n of them
  pub data FitsArgs (a : Alg) (c : Scope) : ℕ → ℕ → ℕ → ℕ → Terms → Type 0 where
    fit_none : {d o k : ℕ} → FitsArgs a c d o k 0 none
    fit_more : {d o k n s : ℕ} {t : Term} {ts : Terms} → a.arg_sort o k ≡ Some s → Fits a c d s t → FitsArgs a c d o (suc k) n ts →
        FitsArgs a c d o k (suc n) (more t ts)

-- the sort that a place needs, if any
abbrev pub Needs : Option ℕ → ℕ → Type 0
Needs None s = Unit {0}
Needs (Some n) s = n ≡ s

abbrev pub Every : {A : Type 0} → (A → Type 0) → List A → Type 0
Every P [] = Unit {0}
Every P (x ∷ xs) = P x × Every P xs

abbrev pub SortFits : Alg → ℕ → Type 0
SortFits a s = (s < 16) × ((z : ℕ) × (a.size s ≡ Some z))

pub record HeaderFits (a : Alg) (h : Header) : Type 0 where
  pub few : length h.sorts < 16
  pub sorts : Every (SortFits a) h.sorts
  pub few_quantified : length h.quantified < 4
  pub quantified : Every (λ (q : Quantified). SortFits a q.sort) h.quantified

abbrev pub header_of : Equation → Header
header_of e = record { sign = e.sign; sorts = e.sorts; quantified = e.quantified }

-- one term of each sort, and one value of each
abbrev pub TermsFit : Alg → Scope → List ℕ → List Term → Type 0
TermsFit a c [] [] = Unit {0}
TermsFit a c [] (t ∷ ts) = ⊥
TermsFit a c (s ∷ ss) [] = ⊥
TermsFit a c (s ∷ ss) (t ∷ ts) = Fits a c greatest_depth s t × TermsFit a c ss ts

abbrev pub ValuesFit : Alg → List ℕ → List ℕ → Type 0
ValuesFit a [] [] = Unit {0}
ValuesFit a [] (v ∷ vs) = ⊥
ValuesFit a (s ∷ ss) [] = ⊥
ValuesFit a (s ∷ ss) (v ∷ vs) = ((v < 256) × ((z : ℕ) × (a.size s ≡ Some z) × (v < z))) × ValuesFit a ss vs

pub record OccurrenceFits (a : Alg) (hs : List Header) (c : Scope) (o : Occurrence) : Type 0 where
  pub small : o.target < 32
  pub header : Header
  pub there : at hs o.target ≡ Some header
  pub fit : TermsFit a c header.sorts o.arguments

pub record ClauseFits (a : Alg) (hs : List Header) (c : Scope) (k : Clause) : Type 0 where
  pub guard : Fits a c greatest_depth 0 k.guard
  pub some : 1 ≤ length k.occurrences
  pub few : length k.occurrences ≤ 8
  pub fit : Every (OccurrenceFits a hs c) k.occurrences

pub record BodyFits (a : Alg) (hs : List Header) (e : Equation) : Type 0 where
  pub h : Fits a (scope (header_of e)) greatest_depth 0 e.h
  pub few : length e.clauses < 16
  pub fit : Every (ClauseFits a hs (scope (header_of e))) e.clauses

pub record SystemFits (a : Alg) (s : System) : Type 0 where
  pub some : 1 ≤ length s.equations
  pub few : length s.equations < 32
  pub headers : Every (HeaderFits a) (map header_of s.equations)
  pub bodies : Every (BodyFits a (map header_of s.equations)) s.equations
  pub small : s.start < 32
  pub header : Header
  pub there : at (map header_of s.equations) s.start ≡ Some header
  pub values : ValuesFit a header.sorts s.values
