-- Reading a system file.
use Rattle.std.specs.Prelude.{ℕ, zero, suc, List, [], ◌∷◌, map, Some, None, Option, ◌==◌, nat_lt, slice_index_or}
use Rattle.faults.specs.declared.Reason.TheVariants.{NoEquations, TooDeep, NoSuchSort, NoSuchName, ValueTooLarge, WrongSort}
use Rattle.definitions.specs.Lists.{at, up_to, bind}
use Rattle.definitions.specs.Alg.{Alg}
use Rattle.definitions.specs.Solution.{Sign, least, greatest}
use Rattle.definitions.specs.Systems.{Kind, parameter, variable, value, operation, not, and, or, equal, Term, term, Quantifier, exists, forall, Quantified, Occurrence, Clause, Equation, System}
use Rattle.definitions.specs.Reading.{Reading, Reader, ◌>>=◌, ◌>>◌, give, fail, here, must, given, take, take_for, below, one_by_one, repeated, file}

-- the sorts of the parameters and of the quantified variables that a term can name
pub record Scope : Type 0 where
  pub parameters : List ℕ
  pub variables : List ℕ

-- a term with its sort
pub record Sorted : Type 0 where
  pub the_term : Term
  pub the_sort : ℕ

abbrev pub of : ℕ → Kind → List Term → Sorted
of s k ts = record { the_term = term k ts; the_sort = s }

-- the sort s of the term at p, compared with the one needed
abbrev pub suits : Option ℕ → ℕ → ℕ → Reader (Unit {0})
suits None s p = give tt
suits (Some n) s p = must (n == s) WrongSort p

-- a term behind its kind, for each kind: its place is p, need is the sort that its place needs, and part reads one of its parts
module _ (a : Alg) (c : Scope) (part : Option ℕ → Reader Sorted) (p : ℕ) (need : Option ℕ) where
  abbrev pub read_parameter : Reader Sorted
  read_parameter = do
    q ← here
    n ← take 4
    s ← given (at c.parameters n) NoSuchName q
    suits need s p
    give (of s (parameter n) [])

  abbrev pub read_variable : Reader Sorted
  read_variable = do
    q ← here
    n ← take 2
    s ← given (at c.variables n) NoSuchName q
    suits need s p
    give (of s (variable n) [])

  abbrev pub read_value : Reader Sorted
  read_value = do
    q ← here
    s ← take 4
    size ← given (a.size s) NoSuchSort q
    suits need s p
    v ← take_for 8 (below size) ValueTooLarge
    give (of s (value s v) [])

  abbrev pub read_operation : Reader Sorted
  read_operation = do
    q ← here
    o ← take 6
    n ← given (a.arity o) NoSuchName q
    s ← given (a.res_sort o) NoSuchName q
    suits need s p
    ts ← one_by_one (λ k. part (a.arg_sort o k)) (up_to n)
    give (of s (operation o) (map (λ t. t.the_term) ts))

  abbrev pub read_truths : Kind → ℕ → Reader Sorted
  read_truths k n = do
    suits need 0 p
    ts ← repeated (part (Some 0)) n
    give (of 0 k (map (λ t. t.the_term) ts))

  abbrev pub read_equal : Reader Sorted
  read_equal = do
    suits need 0 p
    x ← part None
    y ← part (Some x.the_sort)
    give (of 0 equal (x.the_term ∷ y.the_term ∷ []))

  abbrev pub read_kind : ℕ → Reader Sorted
  read_kind k =
      slice_index_or (read_parameter ∷ read_variable ∷ read_value ∷ read_operation ∷ read_truths not 1 ∷ read_truths and 2 ∷ read_truths or 2 ∷ []) k read_equal

-- a term of depth at most d
abbrev pub read_term : Alg → Scope → ℕ → Option ℕ → Reader Sorted
read_term a c zero need = do
  p ← here
  _ ← take 3
  fail TooDeep p
read_term a c (suc d) need = do
  p ← here
  k ← take 3
  read_kind a c (read_term a c d) p need k

abbrev pub greatest_depth : ℕ
greatest_depth = 32

-- a term of the sort s
abbrev pub read_of : Alg → Scope → ℕ → Reader Term
read_of a c s = do
  t ← read_term a c greatest_depth (Some s)
  give t.the_term

abbrev pub sign_of : ℕ → Sign
sign_of zero = least
sign_of (suc n) = greatest

abbrev pub quantifier_of : ℕ → Quantifier
quantifier_of zero = exists
quantifier_of (suc n) = forall

-- a sort that the algebra has
abbrev pub read_sort : Alg → Reader ℕ
read_sort a = take_for 4 (λ s. bind (a.size s) (λ _. Some s)) NoSuchSort

pub record Header : Type 0 where
  pub sign : Sign
  pub sorts : List ℕ
  pub quantified : List Quantified

abbrev pub scope : Header → Scope
scope h = record { parameters = h.sorts; variables = map (λ q. q.sort) h.quantified }

abbrev pub read_quantified : Alg → Reader Quantified
read_quantified a = do
  k ← take 1
  s ← read_sort a
  give (record { quantifier = quantifier_of k; sort = s })

abbrev pub read_header : Alg → Reader Header
read_header a = do
  sign ← take 1
  n ← take 4
  sorts ← repeated (read_sort a) n
  m ← take 2
  quantified ← repeated (read_quantified a) m
  give (record { sign = sign_of sign; sorts = sorts; quantified = quantified })

-- the number of an equation, and its header
abbrev pub read_target : List Header → Reader (ℕ × Header)
read_target hs = take_for 5 (λ i. bind (at hs i) (λ h. Some (i, h))) NoSuchName

abbrev pub read_occurrence : Alg → List Header → Scope → Reader Occurrence
read_occurrence a hs c = do
  t ← read_target hs
  ts ← one_by_one (read_of a c) t.1.sorts
  give (record { target = t.0; arguments = ts })

abbrev pub read_clause : Alg → List Header → Scope → Reader Clause
read_clause a hs c = do
  g ← read_of a c 0
  n ← take 3
  os ← repeated (read_occurrence a hs c) (suc n)
  give (record { guard = g; occurrences = os })

abbrev pub read_body : Alg → List Header → Header → Reader Equation
read_body a hs h = do
  t ← read_of a (scope h) 0
  n ← take 4
  cs ← repeated (read_clause a hs (scope h)) n
  give (record { sign = h.sign; sorts = h.sorts; quantified = h.quantified; h = t; clauses = cs })

-- a value of the sort s
abbrev pub read_value_of : Alg → ℕ → Reader ℕ
read_value_of a s = take_for 8 (λ v. bind (a.size s) (λ z. below z v)) ValueTooLarge

abbrev pub read_system : Alg → Reader System
read_system a = do
  n ← take 5
  must (nat_lt 0 n) NoEquations 0
  hs ← repeated (read_header a) n
  es ← one_by_one (read_body a hs) hs
  t ← read_target hs
  vs ← one_by_one (read_value_of a) t.1.sorts
  give (record { equations = es; start = t.0; values = vs })

abbrev pub reading : Alg → List ℕ → Reading System
reading a f = file 8192 (read_system a) f
