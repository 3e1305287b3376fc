-- What stands behind an opening, and the form behind h.
use Rattle.std.proofs.Common.{◌≡◌, ℕ, Bool, true, false, List, [], ◌∷◌, map, length, Some, None, Option, Result, refl, ap, ◌∙◌, subst, arith}
use Rattle.std.specs.Option.{is_some, option_map}
use Rattle.definitions.specs.Lists.{keep}
use Rattle.definitions.specs.Alg.{Alg}
use Rattle.definitions.specs.Systems.{forall, Occurrence, Clause, Equation, System}
use Rattle.definitions.specs.ReadSystem.{Scope, Header}
use Rattle.definitions.specs.Values.{holds}
use Rattle.definitions.specs.Truth.{Instance}
use Rattle.definitions.specs.Boolean.{Form, known, over, all_of, clause_form, inside_form}
use Rattle.definitions.specs.Fits.{Every, OccurrenceFits, ClauseFits}
use Rattle.system.specs.declared.places.ClauseAt.{ClauseAt}
use Rattle.system.specs.declared.places.OccurrenceAt.{OccurrenceAt}
use Rattle.system.specs.Walks.{Pairs, Found, OccurrenceOf, ClauseOf}
use Rattle.expansion.specs.Bodies.{OccurrenceThere, ClauseThere}
use Rattle.expansion.specs.declared.draft.Draft.{Draft}
use Rattle.expansion.specs.declared.draft.Unfinished.{Unfinished}
use Rattle.expansion.specs.Drafts.{DraftsForm}
use Rattle.expansion.proofs.Walking.{pairs_with}

-- what is read into a row, which is now y
pub not_found : {X Y P : Type 0} (o : Option X) (y : Y) (Q : Y → Type 0) → false ≡ is_some o → Found (option_map (λ _. y) o) Q → P
not_found None y Q e h = absurd h
not_found (Some x) y Q e h = absurd cc

pub found : {X Y : Type 0} (o : Option X) (y : Y) (Q : Y → Type 0) (x : X) → o ≡ Some x → Found (option_map (λ _. y) o) Q → Q y
found o y Q x e h = subst (λ p. Found (option_map (λ _. y) p) Q) e h

pub not_some : {X P : Type 0} (o : Option X) (x : X) → false ≡ is_some o → o ≡ Some x → P
not_some None x e h = absurd cc
not_some (Some y) x e h = absurd cc

module _ (a : Alg) (hs : List Header) (c : Scope) (f : List ℕ) where
  pub occurrences_there : (xs : List OccurrenceAt) (os : List Occurrence) → Pairs (λ x o. (u : ℕ) × OccurrenceOf a f o u x) xs os → Every (OccurrenceFits a hs c) os → Pairs (OccurrenceThere a hs c f) xs os
  occurrences_there xs os p h =
      pairs_with (λ x o. (u : ℕ) × OccurrenceOf a f o u x) (OccurrenceFits a hs c) (OccurrenceThere a hs c f) (λ x o q k. record { end = q.0; found = q.1; fits = k }) xs os p h

  pub clauses_there : (xs : List ClauseAt) (ks : List Clause) → Pairs (λ x k. (u : ℕ) × ClauseOf a hs c f k u x) xs ks → Every (ClauseFits a hs c) ks → Pairs (ClauseThere a hs c f) xs ks
  clauses_there xs ks p h =
      pairs_with (λ x k. (u : ℕ) × ClauseOf a hs c f k u x) (ClauseFits a hs c) (ClauseThere a hs c f) (λ x o q k. record { end = q.0; found = q.1; fits = k }) xs ks p h

-- the form behind h, by what is tested
module _ (a : Alg) (e : Equation) (ps vs : List ℕ) where
  abbrev pub guarded : List (Form Instance)
  guarded = map (clause_form a ps vs) (keep (λ (k : Clause). holds a ps vs k.guard) e.clauses)

  inside_by : (b : Bool) → holds a ps vs e.h ≡ b → inside_form a e ps vs ≡ elim b as (λ _. Form Instance) [ true ↦ all_of guarded | false ↦ known false ]
  inside_by b h = ap (λ b. elim b as (λ _. Form Instance) [ true ↦ all_of guarded | false ↦ known false ]) h

  pub inside_false : holds a ps vs e.h ≡ false → inside_form a e ps vs ≡ known false
  inside_false h = inside_by false h

  pub inside_empty : holds a ps vs e.h ≡ true → length guarded ≡ 0 → inside_form a e ps vs ≡ known true
  inside_empty h l = inside_by true h ∙ go guarded l
    where
      go : (ps : List (Form Instance)) → length ps ≡ 0 → all_of ps ≡ known true
      go [] l = refl
      go (p ∷ ps) l = absurd (omega arith)

  pub inside_some : holds a ps vs e.h ≡ true → (length guarded ≡ 0 → ⊥) → inside_form a e ps vs ≡ over forall guarded
  inside_some h l = inside_by true h ∙ go guarded l
    where
      go : (ps : List (Form Instance)) → (length ps ≡ 0 → ⊥) → all_of ps ≡ over forall ps
      go [] l = absurd (l refl)
      go (p ∷ ps) l = refl

pub form_same : {T : Type 0} (s : System) {p q : Form Instance} → p ≡ q → (old new : Draft) (r : Result T Unfinished) → DraftsForm s p old new r → DraftsForm s q old new r
form_same s e old new r h = subst (λ (z : Form Instance). DraftsForm s z old new r) e h
