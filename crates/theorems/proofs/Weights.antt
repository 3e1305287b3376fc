-- No pass raises the weight of a system.
use Rattle.std.proofs.Common.{◌≡◌, ℕ, suc, ◌+◌, ◌≤◌, Bool, true, false, not as flip, List, [], ◌∷◌, map, get_or, Some, None, Option, refl, arith}
use Rattle.definitions.specs.Lists.{sum, map_from, strike, place, keep}
use Rattle.definitions.specs.Alg.{Alg}
use Rattle.definitions.specs.Systems.{Kind, parameter, variable, value, operation, not, and, or, equal, Term, Terms, node, none, more, terms, term, folds, Occurrence, Clause, Equation, System}
use Rattle.definitions.specs.Values.{known, is_false}
use Rattle.definitions.specs.Terms.{on_parameter, replaced, on_occurrence, on_clause, cut_equation}
use Rattle.definitions.specs.Constants.{Known, kind_for, inserted, unknown_of, pass_c, least_knowledge}
use Rattle.definitions.specs.Passes.{folded, foldeds, folded_as, folded_equation, pass_f, needed, pass_r, renamed, reachable, pass_u}
use Rattle.definitions.specs.Settle.{kind_weight, term_weight, occurrence_weight, clause_weight, false_term, fullness, equation_weight, weight}
use Rattle.theorems.proofs.Listing.{strike_short}

abbrev pub W : Kind → List ℕ → ℕ
W k parts = kind_weight k + sum parts

-- sums
pub map_le : {A : Type 0} (w : A → ℕ) (g : A → A) → ((x : A) → w (g x) ≤ w x) → (xs : List A) → sum (map w (map g xs)) ≤ sum (map w xs)
map_le w g h [] = omega arith
map_le w g h (x ∷ xs) = omega (arith, h x, map_le w g h xs)

pub from_le : {A : Type 0} (w : A → ℕ) (k : ℕ) (g : ℕ → A → A) → ((i : ℕ) (x : A) → w (g i x) ≤ w x) → (xs : List A) → sum (map w (map_from k g xs)) ≤ sum (map w xs)
from_le w k g h [] = omega arith
from_le w k g h (x ∷ xs) = omega (arith, h k x, from_le w (suc k) g h xs)

pub strike_le : {A : Type 0} (w : A → ℕ) (ms : List Bool) (xs : List A) → sum (map w (strike ms xs)) ≤ sum (map w xs)
strike_le w [] [] = omega arith
strike_le w [] (x ∷ xs) = omega arith
strike_le w (m ∷ ms) [] = omega arith
strike_le w (true ∷ ms) (x ∷ xs) = omega (arith, strike_le w ms xs)
strike_le w (false ∷ ms) (x ∷ xs) = omega (arith, strike_le w ms xs)

pub keep_le : {A : Type 0} (w : A → ℕ) (p : A → Bool) (xs : List A) → sum (map w (keep p xs)) ≤ sum (map w xs)
keep_le w p [] = omega arith
keep_le w p (x ∷ xs) = go (p x) refl (keep_le w p xs)
  where
    go : (b : Bool) → p x ≡ b → sum (map w (keep p xs)) ≤ sum (map w xs) → sum (map w (keep p (x ∷ xs))) ≤ w x + sum (map w xs)
    go true e h = rw (e, keep) (omega arith)
    go false e h = rw (e, keep) (omega arith)

-- terms with their parameters replaced
pub kind_le : (f : ℕ → Kind) → ((n : ℕ) → kind_weight (f n) ≤ 1) → (k : Kind) → kind_weight (on_parameter f k) ≤ kind_weight k
kind_le f h (parameter n) = h n
kind_le f h (variable n) = omega arith
kind_le f h (value s v) = omega arith
kind_le f h (operation o) = omega arith
kind_le f h not = omega arith
kind_le f h and = omega arith
kind_le f h or = omega arith
kind_le f h equal = omega arith

mutual
  pub replaced_le : (t : Term) (f : ℕ → Kind) → ((n : ℕ) → kind_weight (f n) ≤ 1) → term_weight (replaced f t) ≤ term_weight t
  replaced_le (node k ts) f h = omega (arith, kind_le f h k, replaceds_le ts f h)

  pub replaceds_le : (ts : Terms) (f : ℕ → Kind) → ((n : ℕ) → kind_weight (f n) ≤ 1) →
      sum (folds (terms (folds ts (λ k parts. term (on_parameter f k) parts))) W) ≤ sum (folds ts W)
  replaceds_le none f h = omega arith
  replaceds_le (more t ts) f h = omega (arith, replaced_le t f h, replaceds_le ts f h)

pub full_two : (b : Bool) → fullness b ≤ 2
full_two true = omega arith
full_two false = omega arith

pub full_le : (t : Term) (f : ℕ → Kind) → fullness (false_term (replaced f t)) ≤ fullness (false_term t)
full_le (node (parameter n) ts) f = full_two (false_term (replaced f (node (parameter n) ts)))
full_le (node (variable n) ts) f = omega arith
full_le (node (value s v) ts) f = omega arith
full_le (node (operation o) ts) f = omega arith
full_le (node not ts) f = omega arith
full_le (node and ts) f = omega arith
full_le (node or ts) f = omega arith
full_le (node equal ts) f = omega arith

-- clauses
module _ (g : ℕ → List Term → List Term) (f : Term → Term) (hg : (j : ℕ) (ts : List Term) → sum (map term_weight (g j ts)) ≤ sum (map term_weight ts))
    (hf : (t : Term) → term_weight (f t) ≤ term_weight t) where
  pub occurrence_le : (o : Occurrence) → occurrence_weight (on_occurrence g f o) ≤ occurrence_weight o
  occurrence_le o = omega (arith, map_le term_weight f hf (g o.target o.arguments), hg o.target o.arguments)

  pub clause_le : (c : Clause) → clause_weight (on_clause g f c) ≤ clause_weight c
  clause_le c = omega (arith, hf c.guard, map_le occurrence_weight (on_occurrence g f) occurrence_le c.occurrences)

pub cut_le : (masks : List (List Bool)) (i : ℕ) (e : Equation) → equation_weight (cut_equation masks i e) ≤ equation_weight e
cut_le masks i e =
    let mask = get_or masks i [] in
    let f : ℕ → Kind = λ n. parameter (place mask n) in
    let one : (n : ℕ) → kind_weight (f n) ≤ 1 = λ n. omega arith in
    omega (
      arith,
      full_le e.h f,
      strike_short mask e.sorts,
      replaced_le e.h f one,
      map_le clause_weight (on_clause (λ j ts. strike (get_or masks j []) ts) (replaced f))
          (clause_le (λ j ts. strike (get_or masks j []) ts) (replaced f) (λ j ts. strike_le term_weight (get_or masks j []) ts) (λ t. replaced_le t f one)) e.clauses,
    )

pub r_le : (a : Alg) (s : System) → weight (pass_r a s) ≤ weight s
r_le a s = from_le equation_weight 0 (cut_equation (needed s)) (cut_le (needed s)) s.equations

pub for_le : (ss : List ℕ) (ks : Known) (n : ℕ) → kind_weight (kind_for ss ks n) ≤ 1
for_le ss ks n = go (get_or ks n None) refl
  where
    go : (o : Option ℕ) → get_or ks n None ≡ o → kind_weight (kind_for ss ks n) ≤ 1
    go None e = rw (e, kind_for) (omega arith)
    go (Some v) e = rw (e, kind_for) (omega arith)

pub full_one : (b : Bool) → 1 ≤ fullness b
full_one true = omega arith
full_one false = omega arith

pub inserted_le : (e : Equation) (k : Option Known) → equation_weight (inserted e k) ≤ equation_weight e
inserted_le e None = omega (arith, full_one (false_term e.h))
inserted_le e (Some ks) =
    let f = kind_for e.sorts ks in
    omega (
      arith,
      full_le e.h f,
      replaced_le e.h f (for_le e.sorts ks),
      map_le clause_weight (on_clause (λ j ts. ts) (replaced f)) (clause_le (λ j ts. ts) (replaced f) (λ j ts. omega arith) (λ t. replaced_le t f (for_le e.sorts ks))) e.clauses,
    )

pub c_le : (a : Alg) (s : System) → weight (pass_c a s) ≤ weight s
c_le a s =
    let K = least_knowledge a s in
    let es = s.equations in
    let masks = map_from 0 (λ i e. unknown_of e (get_or K i None)) es in
    omega (
      arith,
      from_le equation_weight 0 (cut_equation masks) (cut_le masks) (map_from 0 (λ i e. inserted e (get_or K i None)) es),
      from_le equation_weight 0 (λ i e. inserted e (get_or K i None)) (λ i e. inserted_le e (get_or K i None)) es,
    )

-- U
pub renamed_same : (f : ℕ → ℕ) (e : Equation) → equation_weight (renamed f e) ≤ equation_weight e
renamed_same f e =
    let g : Occurrence → Occurrence = λ o. record { target = f o.target; arguments = o.arguments } in
    let c : Clause → Clause = λ c. record { guard = c.guard; occurrences = map g c.occurrences } in
    omega (arith, map_le clause_weight c (λ x. omega (arith, map_le occurrence_weight g (λ o. omega arith) x.occurrences)) e.clauses)

pub u_le : (a : Alg) (s : System) → weight (pass_u a s) ≤ weight s
u_le a s =
    let mask = reachable s in
    omega (arith, map_le equation_weight (renamed (place mask)) (renamed_same (place mask)) (strike mask s.equations), strike_le equation_weight mask s.equations)

-- F
pub node_le : (a : Alg) (k : Kind) (o : Option ℕ) (ts : Terms) → term_weight (folded_as a k o ts) ≤ kind_weight k + sum (folds ts W)
node_le a k None ts = omega arith
node_le a k (Some v) ts = omega arith

mutual
  pub folded_le : (t : Term) (a : Alg) → term_weight (folded t a) ≤ term_weight t
  folded_le (node k ts) a = omega (arith, node_le a k (known a [] (node k ts)) (foldeds ts a), foldeds_le ts a)

  pub foldeds_le : (ts : Terms) (a : Alg) → sum (folds (foldeds ts a) W) ≤ sum (folds ts W)
  foldeds_le none a = omega arith
  foldeds_le (more t ts) a = omega (arith, folded_le t a, foldeds_le ts a)

pub full_folded : (t : Term) (a : Alg) → fullness (false_term (folded t a)) ≤ fullness (false_term t)
full_folded (node (parameter n) ts) a = full_two (false_term (folded (node (parameter n) ts) a))
full_folded (node (variable n) ts) a = full_two (false_term (folded (node (variable n) ts) a))
full_folded (node (value s v) ts) a = omega arith
full_folded (node (operation o) ts) a = full_two (false_term (folded (node (operation o) ts) a))
full_folded (node not ts) a = full_two (false_term (folded (node not ts) a))
full_folded (node and ts) a = full_two (false_term (folded (node and ts) a))
full_folded (node or ts) a = full_two (false_term (folded (node or ts) a))
full_folded (node equal ts) a = full_two (false_term (folded (node equal ts) a))

pub folded_equation_lem : (a : Alg) (e : Equation) → equation_weight (folded_equation a e) ≤ equation_weight e
folded_equation_lem a e = go (is_false (known a [] e.h)) refl
  where
    go : (b : Bool) → is_false (known a [] e.h) ≡ b → equation_weight (folded_equation a e) ≤ equation_weight e
    go true p = rw (p, folded_equation) (omega (arith, full_one (false_term e.h)))
    go false p =
        let kept = keep (λ (c : Clause). flip (is_false (known a [] c.guard))) e.clauses in
        let f : Term → Term = λ t. folded t a in
        rw (p, folded_equation)
        (omega (
          arith,
          full_folded e.h a,
          folded_le e.h a,
          keep_le clause_weight (λ (c : Clause). flip (is_false (known a [] c.guard))) e.clauses,
          map_le clause_weight (on_clause (λ j ts. ts) f) (clause_le (λ j ts. ts) f (λ j ts. omega arith) (λ t. folded_le t a)) kept,
        ))

pub f_le : (a : Alg) (s : System) → weight (pass_f a s) ≤ weight s
f_le a s = map_le equation_weight (folded_equation a) (folded_equation_lem a) s.equations
