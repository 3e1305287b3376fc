-- Where the terms of bodies, clauses and occurrences stand, and how an accepted file's are found.
use Rattle.std.specs.Prelude.{◌≡◌, ℕ, zero, suc, ◌≤◌, List, [], ◌∷◌, map, length, Some, None, Option, slice_index}
use Rattle.std.specs.Option.{option_map}
use Rattle.definitions.specs.Lists.{at, bind}
use Rattle.definitions.specs.Alg.{Alg}
use Rattle.definitions.specs.Systems.{Term, Occurrence, Clause, Equation}
use Rattle.definitions.specs.Reading.{next, repeated}
use Rattle.definitions.specs.ReadSystem.{Scope, Header, scope, greatest_depth, read_occurrence, read_clause, read_body}
use Rattle.terms.specs.Shapes.{field_at, shape, behind, standing}
use Rattle.rows.specs.declared.row.Row.{Row}
use Rattle.rows.specs.Listed.{listed}
use Rattle.system.specs.declared.places.BodyAt.{BodyAt}
use Rattle.system.specs.declared.places.ClauseAt.{ClauseAt}
use Rattle.system.specs.declared.places.OccurrenceAt.{OccurrenceAt}

-- the place behind the term at a place
abbrev pub term_end : Alg → List ℕ → ℕ → Option ℕ
term_end a f p = behind (shape a greatest_depth f p)

-- the place of a term, the number behind it in w bits, and the place behind that
abbrev pub counted : Alg → ℕ → List ℕ → ℕ → Option (ℕ × ℕ)
counted a w f p = bind (term_end a f p) (field_at w f)

-- the places of n terms in a row, and the place behind them
abbrev pub term_places : Alg → ℕ → List ℕ → ℕ → Option (List ℕ × ℕ)
term_places a zero f p = Some ([], p)
term_places a (suc n) f p = bind (term_end a f p) (λ q. bind (term_places a n f q) (λ x. Some (p ∷ x.0, x.1)))

-- an occurrence's target, how many arguments it has, and the place of the first
abbrev pub target_place : List Header → List ℕ → ℕ → Option (ℕ × ℕ × ℕ)
target_place hs f p = bind (field_at 5 f p) (λ i. bind (at hs i.0) (λ h. Some (i.0, length h.sorts, i.1)))

-- an occurrence's target, the places of its arguments, and the place behind it
abbrev pub occurrence_places : Alg → List Header → List ℕ → ℕ → Option (ℕ × (List ℕ × ℕ))
occurrence_places a hs f p = bind (field_at 5 f p) (λ i. bind (at hs i.0) (λ h. bind (term_places a (length h.sorts) f i.1) (λ x. Some (i.0, x))))

-- the place behind n occurrences, and behind a clause
abbrev pub occurrences_end : Alg → List Header → ℕ → List ℕ → ℕ → Option ℕ
occurrences_end a hs zero f p = Some p
occurrences_end a hs (suc n) f p = bind (occurrence_places a hs f p) (λ x. occurrences_end a hs n f x.1.1)

abbrev pub clause_end : Alg → List Header → List ℕ → ℕ → Option ℕ
clause_end a hs f p = bind (counted a 3 f p) (λ n. occurrences_end a hs (suc n.0) f n.1)

-- n things in a row, each found with the place behind it, and the place behind the last
abbrev pub in_row : {X : Type 0} → (ℕ → Option (X × ℕ)) → ℕ → ℕ → Option (List X × ℕ)
in_row s zero p = Some ([], p)
in_row s (suc n) p = bind (s p) (λ x. bind (in_row s n x.1) (λ r. Some (x.0 ∷ r.0, r.1)))

-- of what is found with the place behind it, that place
abbrev pub ended : {X : Type 0} → Option (X × ℕ) → Option ℕ
ended None = None
ended (Some x) = Some x.1

-- an occurrence with the place behind it
abbrev pub occurrence_next : Alg → List Header → List ℕ → ℕ → Option ((ℕ × (List ℕ × ℕ)) × ℕ)
occurrence_next a hs f p = bind (occurrence_places a hs f p) (λ x. Some (x, x.1.1))

-- a clause's place, its occurrence count and the place of the first, with the place behind the clause
abbrev pub clause_next : Alg → List Header → List ℕ → ℕ → Option ((ℕ × (ℕ × ℕ)) × ℕ)
clause_next a hs f p = bind (counted a 3 f p) (λ n. bind (occurrences_end a hs (suc n.0) f n.1) (λ q. Some ((p, (suc n.0, n.1)), q)))

-- what was filled, with the place behind what was read into it, where one is told
abbrev pub filled : {X : Type 0} → X → Option ℕ → Option (X × ℕ)
filled x None = None
filled x (Some q) = Some (x, q)

-- the answers
abbrev pub arguments_of : Option (Row ℕ 15 × ℕ) → Option (List ℕ × ℕ)
arguments_of None = None
arguments_of (Some x) = Some (listed x.0, x.1)

abbrev pub occurrence_told : OccurrenceAt → ℕ × (List ℕ × ℕ)
occurrence_told o = (o.target, (listed o.arguments, o.next))

abbrev pub clause_told : ClauseAt → ℕ × (ℕ × ℕ)
clause_told c = (c.guard, (c.count, c.next))

abbrev pub occurrences_of : Option (Row OccurrenceAt 8 × ℕ) → Option (List (ℕ × (List ℕ × ℕ)) × ℕ)
occurrences_of None = None
occurrences_of (Some x) = Some (map occurrence_told (listed x.0), x.1)

-- the occurrences of an open clause in a row, with the place behind them
abbrev pub RowPlaces : Alg → List Header → List ℕ → ClauseAt → Row OccurrenceAt 8 → Option ℕ → Type 0
RowPlaces a hs f c os r = occurrences_of (filled os r) ≡ in_row (occurrence_next a hs f) c.count c.next

-- the occurrences of an open clause, and the clauses of an open body
abbrev pub OccurrencesPlaces : Alg → List Header → List ℕ → ClauseAt → Option (Row OccurrenceAt 8) → Type 0
OccurrencesPlaces a hs f c r = option_map (λ os. map occurrence_told (listed os)) r ≡ option_map (λ x. x.0) (in_row (occurrence_next a hs f) c.count c.next)

abbrev pub ClausesPlaces : Alg → List Header → List ℕ → BodyAt → Option (Row ClauseAt 15) → Type 0
ClausesPlaces a hs f b r = option_map (λ cs. map clause_told (listed cs)) r ≡ option_map (λ x. x.0) (in_row (clause_next a hs f) b.count b.next)

-- a body that opens at p
abbrev pub BodyPlaces : Alg → List ℕ → ℕ → Option BodyAt → Type 0
BodyPlaces a f p None = counted a 4 f p ≡ None
BodyPlaces a f p (Some b) = (b.h ≡ p) × (counted a 4 f p ≡ Some (b.count, b.next))

abbrev pub ClausePlaces : Alg → List ℕ → ℕ → Option ClauseAt → Type 0
ClausePlaces a f p None = counted a 3 f p ≡ None
ClausePlaces a f p (Some c) = (c.guard ≡ p) × ((n : ℕ) × ((c.count ≡ suc n) × (counted a 3 f p ≡ Some (n, c.next))))

abbrev pub OccurrencePlaces : Alg → List Header → List ℕ → ℕ → Option OccurrenceAt → Type 0
OccurrencePlaces a hs f p None = occurrence_places a hs f p ≡ None
OccurrencePlaces a hs f p (Some o) = occurrence_places a hs f p ≡ Some (o.target, (listed o.arguments, o.next))

-- of an equation that is read, up to q: its h stands at the place told, and behind the opening its clauses are read
pub record BodyOf (a : Alg) (hs : List Header) (h : Header) (f : List ℕ) (e : Equation) (q : ℕ) (b : BodyAt) : Type 0 where
  pub h_stands : standing a greatest_depth f b.h ≡ Some e.h
  pub count : b.count ≡ length e.clauses
  pub clauses : repeated (read_clause a hs (scope h)) b.count f b.next ≡ next e.clauses q

-- of a clause that is read, up to q
pub record ClauseOf (a : Alg) (hs : List Header) (c : Scope) (f : List ℕ) (k : Clause) (q : ℕ) (x : ClauseAt) : Type 0 where
  pub guard : standing a greatest_depth f x.guard ≡ Some k.guard
  pub count : x.count ≡ length k.occurrences
  pub occurrences : repeated (read_occurrence a hs c) x.count f x.next ≡ next k.occurrences q

-- of an occurrence that is read, up to q
pub record OccurrenceOf (a : Alg) (f : List ℕ) (o : Occurrence) (q : ℕ) (x : OccurrenceAt) : Type 0 where
  pub target : x.target ≡ o.target
  pub count : length (listed x.arguments) ≡ length o.arguments
  pub arguments : (k : ℕ) (t : Term) → at o.arguments k ≡ Some t → standing a greatest_depth f (slice_index (listed x.arguments) k) ≡ Some t
  pub end : x.next ≡ q

-- whatever is read at p is found
abbrev pub Found : {X : Type 0} → Option X → (X → Type 0) → Type 0
Found None P = ⊥
Found (Some x) P = P x

abbrev pub BodyFound : Alg → List ℕ → ℕ → Option BodyAt → Type 0
BodyFound a f p r = (hs : List Header) (h : Header) (e : Equation) (q : ℕ) → length f ≤ 65536 → read_body a hs h f p ≡ next e q → Found r (BodyOf a hs h f e q)

abbrev pub ClauseFound : Alg → List ℕ → ℕ → Option ClauseAt → Type 0
ClauseFound a f p r = (hs : List Header) (c : Scope) (k : Clause) (q : ℕ) → length f ≤ 65536 → read_clause a hs c f p ≡ next k q → Found r (ClauseOf a hs c f k q)

abbrev pub OccurrenceFound : Alg → List Header → List ℕ → ℕ → Option OccurrenceAt → Type 0
OccurrenceFound a hs f p r = (c : Scope) (o : Occurrence) (q : ℕ) → length f ≤ 65536 → read_occurrence a hs c f p ≡ next o q → Found r (OccurrenceOf a f o q)

abbrev pub EndFound : Alg → List Header → List ℕ → ℕ → Option ℕ → Type 0
EndFound a hs f p r = (c : Scope) (k : Clause) (q : ℕ) → length f ≤ 65536 → read_clause a hs c f p ≡ next k q → r ≡ Some q

-- one by one, and as many of the ones as of the others
abbrev pub Pairs : {X Y : Type 0} → (X → Y → Type 0) → List X → List Y → Type 0
Pairs P [] [] = Unit {0}
Pairs P [] (y ∷ ys) = ⊥
Pairs P (x ∷ xs) [] = ⊥
Pairs P (x ∷ xs) (y ∷ ys) = P x y × Pairs P xs ys

-- occurrences and clauses that are read behind an opening are found one by one
abbrev pub OccurrencesFound : Alg → List Header → List ℕ → ClauseAt → Option (Row OccurrenceAt 8) → Type 0
OccurrencesFound a hs f k r = (c : Scope) (os : List Occurrence) (q : ℕ) → length f ≤ 65536 → repeated (read_occurrence a hs c) k.count f k.next ≡ next os q →
    Found r (λ xs. Pairs (λ x o. (u : ℕ) × OccurrenceOf a f o u x) (listed xs) os)

abbrev pub RowFound : Alg → List Header → List ℕ → ClauseAt → Row OccurrenceAt 8 → Option ℕ → Type 0
RowFound a hs f k xs r = (c : Scope) (os : List Occurrence) (q : ℕ) → length f ≤ 65536 → repeated (read_occurrence a hs c) k.count f k.next ≡ next os q →
    (r ≡ Some q) × Pairs (λ x o. (u : ℕ) × OccurrenceOf a f o u x) (listed xs) os

abbrev pub ClausesFound : Alg → List Header → List ℕ → BodyAt → Option (Row ClauseAt 15) → Type 0
ClausesFound a hs f b r = (c : Scope) (ks : List Clause) (q : ℕ) → length f ≤ 65536 → repeated (read_clause a hs c) b.count f b.next ≡ next ks q →
    Found r (λ xs. Pairs (λ x k. (u : ℕ) × ClauseOf a hs c f k u x) (listed xs) ks)
