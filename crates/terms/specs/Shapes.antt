-- Terms as they stand in a file, whatever their sorts: a kind, and the parts behind it.
use Rattle.std.specs.Prelude.{◌≡◌, ℕ, zero, suc, ◌≤◌, true, false, List, [], ◌∷◌, length, Some, None, Option, nat_le, slice_index_or}
use Rattle.definitions.specs.Lists.{bind}
use Rattle.definitions.specs.Alg.{Alg}
use Rattle.definitions.specs.Systems.{Kind, parameter, variable, value, operation, not, and, or, equal, Term, Terms, node, none, more}
use Rattle.definitions.specs.Reading.{Step, next, stop, take}
use Rattle.definitions.specs.ReadSystem.{Scope, Sorted, read_term}

-- what stands in a file from a place on, and the place behind it
abbrev pub Shape : Type 0 → Type 0
Shape A = List ℕ → ℕ → Option (A × ℕ)

infixl 20 ◌>>=◌
abbrev pub ◌>>=◌ : {A B : Type 0} → Shape A → (A → Shape B) → Shape B
◌>>=◌ m k f p = bind (m f p) (λ x. k x.0 f x.1)

abbrev pub give : {A : Type 0} → A → Shape A
give x f p = Some (x, p)

-- what there is, if it is
abbrev pub given : {A : Type 0} → Option A → Shape A
given o f p = bind o (λ x. Some (x, p))

abbrev pub came : {A : Type 0} → Step A → Option (A × ℕ)
came (next x q) = Some (x, q)
came (stop r q) = None

-- a field of w bits; none in a file that is longer than 65,536 bytes
unfoldable pub field_at : ℕ → Shape ℕ
field_at w f p = elim (nat_le (length f) 65536) [ true ↦ came (take w f p) | false ↦ None ]

-- a kind, by its number, with the count of its parts
abbrev pub shape_kind : Alg → ℕ → Shape (Kind × ℕ)
shape_kind a k =
    slice_index_or ((field_at 4 >>= λ n. give (parameter n, 0)) ∷ (field_at 2 >>= λ n. give (variable n, 0)) ∷
    (field_at 4 >>= λ s. field_at 8 >>= λ v. give (value s v, 0)) ∷ (field_at 6 >>= λ o. given (a.arity o) >>= λ n. give (operation o, n)) ∷
    give (not, 1) ∷ give (and, 2) ∷ give (or, 2) ∷ []) k (give (equal, 2))

abbrev pub opening : Alg → Shape (Kind × ℕ)
opening a = do
  k ← field_at 3
  shape_kind a k

-- how many parts there are, and the place of the first
abbrev pub parts_counted : Option ((Kind × ℕ) × ℕ) → Option (ℕ × ℕ)
parts_counted None = None
parts_counted (Some o) = Some (o.0.1, o.1)

-- n terms in a row
abbrev pub row : Shape Term → ℕ → Shape Terms
row r zero = give none
row r (suc n) = do
  t ← r
  ts ← row r n
  give (more t ts)

-- a term of depth at most d
abbrev pub shape : Alg → ℕ → Shape Term
shape a zero f p = None
shape a (suc d) f p = (opening a >>= λ k. row (shape a d) k.1 >>= λ ts. give (node k.0 ts)) f p

abbrev pub what : {A : Type 0} → Option (A × ℕ) → Option A
what None = None
what (Some x) = Some x.0

abbrev pub behind : {A : Type 0} → Option (A × ℕ) → Option ℕ
behind None = None
behind (Some x) = Some x.1

-- the term of depth at most d that stands at the place p
abbrev pub standing : Alg → ℕ → List ℕ → ℕ → Option Term
standing a d f p = what (shape a d f p)

-- where a reading of a system reads a term, the same term stands, up to the same place
abbrev pub ReadStands : Alg → ℕ → List ℕ → ℕ → Type 0
ReadStands a d f p = (c : Scope) (need : Option ℕ) (x : Sorted) (q : ℕ) → length f ≤ 65536 → read_term a c d need f p ≡ next x q → shape a d f p ≡ Some (x.the_term, q)
