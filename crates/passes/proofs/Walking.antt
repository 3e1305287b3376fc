-- Going through a body's clauses by their places, one after another.
use Rattle.std.proofs.Common.{◌≡◌, ℕ, suc, ◌+◌, ◌≤◌, List, ◌∷◌, map, length, drop, Some, None, Option, Ok, Result, sym, ap, ◌∙◌, subst, add-one}
use Rattle.std.proofs.lemmas.List.{drop_all}
use Rattle.definitions.specs.Lists.{at, flat}
use Rattle.definitions.specs.Alg.{Alg}
use Rattle.definitions.specs.Systems.{Term, Clause}
use Rattle.definitions.specs.Reading.{next, follow, take, repeated}
use Rattle.definitions.specs.ReadSystem.{Scope, Sorted, Header, greatest_depth, read_term, read_of, read_occurrence, read_clause}
use Rattle.definitions.specs.Constants.{Brought}
use Rattle.terms.specs.Shapes.{what, standing}
use Rattle.terms.proofs.Laws.{followed, term_stands}
use Rattle.rows.specs.declared.row.Row.{Row}
use Rattle.rows.specs.Listed.{listed}
use Rattle.system.specs.declared.places.ClauseAt.{ClauseAt}
use Rattle.system.specs.declared.places.OccurrenceAt.{OccurrenceAt}
use Rattle.system.specs.Walks.{Pairs, OccurrenceOf, ClauseOf, ClauseFound, RowFound}
use Rattle.system.proofs.Rows.{dropped}
use Rattle.passes.specs.declared.constants.Known.{Known as Kept}
use Rattle.passes.specs.declared.plan.Missing.{Missing}
use Rattle.passes.specs.Learned.{Brings, Follows}
use Rattle.passes.proofs.Learning.{brings_none, brings_join, brings_same, there, not_missing}

-- the guard of a clause that is read stands at the clause's place
pub guard_stands : (a : Alg) (hs : List Header) (f : List ℕ) → length f ≤ 65536 → (c : Scope) (p : ℕ) (k : Clause) (q : ℕ) → read_clause a hs c f p ≡ next k q → standing a greatest_depth f p ≡ Some k.guard
guard_stands a hs f short c p k q e =
    let d = followed (read_of a c 0 f p) (λ g u. follow (take 3 f u) (λ n v. follow (repeated (read_occurrence a hs c) (suc n) f v) (λ os w. next (record { guard = g; occurrences = os }) w))) k q e in
    let n = followed (take 3 f d.1.0) (λ n v. follow (repeated (read_occurrence a hs c) (suc n) f v) (λ os w. next (record { guard = d.0; occurrences = os }) w)) k q d.1.1.1 in
    let b = followed (repeated (read_occurrence a hs c) (suc n.0) f n.1.0) (λ os w. next (record { guard = d.0; occurrences = os }) w) k q n.1.1.1 in
    let t = followed (read_term a c greatest_depth (Some 0) f p) (λ (x : Sorted) u. next x.the_term u) d.0 d.1.0 d.1.1.0 in
    ap what (term_stands a c f short greatest_depth (Some 0) p t.0 t.1.0 t.1.1.0) ∙ ap Some (term_of t.0.the_term d.0 t.1.0 d.1.0 t.1.1.1 ∙ guard_of (record { guard = d.0; occurrences = b.0 }) k b.1.0 q b.1.1.1)
  where
    term_of : (t u : Term) (v w : ℕ) → next t v ≡ next u w → t ≡ u
    term_of t u v w e = cc

    guard_of : (x y : Clause) (v w : ℕ) → next x v ≡ next y w → x.guard ≡ y.guard
    guard_of x y v w e = let i : x ≡ y = cc in ap (λ (z : Clause). z.guard) i

-- a clause that is read is opened, its occurrences are found, and the place behind it is told
module _ (a : Alg) (hs : List Header) (f : List ℕ) (short : length f ≤ 65536) (c : Scope) (p : ℕ) (k : Clause) (q : ℕ) (read : read_clause a hs c f p ≡ next k q) (o : Option ClauseAt) (found : ClauseFound a f p o) where
  pub not_closed : o ≡ None → ⊥
  not_closed e = not_missing (ClauseOf a hs c f k q) o e (found hs c k q short read)

  pub walked : (x : ClauseAt) → o ≡ Some x → (row : Row OccurrenceAt 8) (r : Option ℕ) → RowFound a hs f x row r → (xs : List OccurrenceAt) → xs ≡ listed row → (r ≡ Some q) × Pairs (λ x o. (u : ℕ) × OccurrenceOf a f o u x) xs k.occurrences
  walked x e row r got xs same =
      let w = got c k.occurrences q short (there (ClauseOf a hs c f k q) o x e (found hs c k q short read)).occurrences in
      (w.0, subst (λ (ys : List OccurrenceAt). Pairs (λ x o. (u : ℕ) × OccurrenceOf a f o u x) ys k.occurrences) (sym same) w.1)

-- answers with a value
pub same_end : {E : Type 0} (p q : ℕ) → ◌≡◌ {A = Result ℕ E} (Ok p) (Ok q) → q ≡ p
same_end p q e = cc

pub follows_told : {X : Type 0} {bs : List Brought} (T U : List Kept) (r : Result X Missing) (x : X) → r ≡ Ok x → Brings bs T U → Follows bs T U r
follows_told {bs = bs} T U r x e b = subst (Follows bs T U) (sym e) b

-- the first j things have brought what they bring
abbrev pub Leaving : {Y : Type 0} → (Y → List Brought) → List Y → ℕ → List Kept → List Kept → Type 0
Leaving f ys j old now = (new : List Kept) → Brings (flat (map f (drop j ys))) now new → Brings (flat (map f ys)) old new

module _ {Y : Type 0} (f : Y → List Brought) (ys : List Y) where
  pub leaving_first : (T : List Kept) → Leaving f ys 0 T T
  leaving_first T new b = b

  pub leaving_next : (j : ℕ) (y : Y) (old now mid : List Kept) → at ys j ≡ Some y → Leaving f ys j old now → Brings (f y) now mid → Leaving f ys (j + 1) old mid
  leaving_next j y old now mid is l w new b =
      let e : drop j ys ≡ y ∷ drop (j + 1) ys = dropped ys j y is ∙ ap (λ i. y ∷ drop i ys) (sym (add-one j)) in
      l new (brings_same (ap (λ zs. flat (map f zs)) (sym e)) (brings_join (f y) (flat (map f (drop (j + 1) ys))) w b))

  pub leaving_end : (j : ℕ) (old now : List Kept) → length ys ≤ j → Leaving f ys j old now → Brings (flat (map f ys)) old now
  leaving_end j old now h l = l now (brings_same (ap (λ zs. flat (map f zs)) (sym (drop_all j ys h))) (brings_none now))
