-- A body that fits and stands in a file: where its h ends, and where its clauses begin.
use Rattle.std.proofs.Common.{◌≡◌, ℕ, suc, ◌+◌, ◌*◌, ◌≤◌, List, [], ◌∷◌, ◌++◌, map, length, Some, None, Option, sym, refl, ap, ◌∙◌, subst, arith}
use Rattle.definitions.specs.Lists.{at, flat}
use Rattle.definitions.specs.Bits.{bits, Stands}
use Rattle.definitions.specs.Alg.{Alg, Lawful}
use Rattle.definitions.specs.Systems.{Term, Clause, Equation}
use Rattle.definitions.specs.Reading.{next, follow, take, repeated}
use Rattle.definitions.specs.ReadSystem.{Header, Sorted, scope, greatest_depth, read_kind, read_term, read_of, read_clause, read_body}
use Rattle.definitions.specs.Written.{term_bits, clause_bits, body_bits}
use Rattle.definitions.specs.Fits.{Every, BodyFits, header_of}
use Rattle.theorems.proofs.Fields.{stands_left, stands_right, stands_most, takes, took}
use Rattle.theorems.proofs.Listing.{none_some, some_same}
use Rattle.theorems.proofs.Goods.{bits_long}
use Rattle.theorems.proofs.Back.{reads}
use Rattle.theorems.proofs.Sounds.{sound_body}
use Rattle.terms.specs.Shapes.{shape, behind}
use Rattle.terms.proofs.Laws.{followed, field_is, term_stands}
use Rattle.system.specs.declared.outline.Equation.{Equation as Told}
use Rattle.system.specs.declared.places.BodyAt.{BodyAt}
use Rattle.system.specs.Walks.{counted, BodyPlaces, Pairs}
use Rattle.system.proofs.Found.{counted_term}
use Rattle.outsider.specs.declared.pieces.Piece.{Piece}
use Rattle.outsider.specs.Pieces.{Made, EquationThere}

module _ (a : Alg) (hs : List Header) (f : List ℕ) (short : length f ≤ 65536) (p : ℕ) (e : Equation) (fit : BodyFits a hs e) (s : Stands f p (body_bits e)) where
  abbrev pub behind_h : ℕ
  behind_h = p + length (term_bits e.h)

  abbrev clauses : List ℕ
  clauses = flat (map clause_bits e.clauses)

  abbrev count : List ℕ
  count = bits 4 (length e.clauses)

  h_stands : Stands f p (term_bits e.h)
  h_stands = stands_left f p (term_bits e.h) (count ++ clauses) s

  rest_stands : Stands f behind_h (count ++ clauses)
  rest_stands = stands_right f p (term_bits e.h) (count ++ clauses) s

  pub clauses_stand : Stands f (behind_h + 4) clauses
  clauses_stand = subst (λ n. Stands f (behind_h + n) clauses) (bits_long 4 (length e.clauses)) (stands_right f behind_h count clauses rest_stands)

  h_made : Made f (term_bits e.h) (record { at = p; count = length (term_bits e.h) })
  h_made = record { stands = h_stands; count = refl }

  pub h_ends : behind (shape a greatest_depth f p) ≡ Some behind_h
  h_ends = ap behind (term_stands a (scope (header_of e)) f short greatest_depth (Some 0) p (record { the_term = e.h; the_sort = 0 }) behind_h (reads fit.h f (Some 0) refl p h_stands))

  opened : counted a 4 f p ≡ Some (length e.clauses, behind_h + 4)
  opened =
      counted_term a f 4 p behind_h (Some (length e.clauses, behind_h + 4)) (sym h_ends)
      (sym (field_is f short 4 behind_h (length e.clauses) (behind_h + 4) (takes f behind_h 4 (length e.clauses) fit.few (stands_left f behind_h count clauses rest_stands))))

  pub not_unopened : (r : Option BodyAt) → r ≡ None → BodyPlaces a f p r → ⊥
  not_unopened (Some b) i h = none_some {P = ⊥} b (sym i)
  not_unopened None i h = none_some {P = ⊥} (length e.clauses, behind_h + 4) (sym h ∙ opened)

  pub opens : (r : Option BodyAt) (b : BodyAt) → r ≡ Some b → BodyPlaces a f p r → (b.count ≡ length e.clauses) × (b.next ≡ behind_h + 4)
  opens r b i h =
      let k : (b.h ≡ p) × (counted a 4 f p ≡ Some (b.count, b.next)) = subst (BodyPlaces a f p) i h in
      let x : (b.count, b.next) ≡ (length e.clauses, behind_h + 4) = some_same (b.count, b.next) (length e.clauses, behind_h + 4) (sym k.1 ∙ opened) in
      (ap (λ (z : ℕ × ℕ). z.0) x, ap (λ (z : ℕ × ℕ). z.1) x)

  pub not_endless : (r : Option ℕ) → r ≡ None → r ≡ behind (shape a greatest_depth f p) → ⊥
  not_endless r i h = none_some {P = ⊥} behind_h (sym i ∙ h ∙ h_ends)

  pub ends : (r : Option ℕ) (q : ℕ) → r ≡ Some q → r ≡ behind (shape a greatest_depth f p) → q ≡ behind_h
  ends r q i h = some_same q behind_h (sym i ∙ h ∙ h_ends)

  pub h_there : (r : Option Piece) (x : Piece) (q : ℕ) → r ≡ Some x → q ≡ behind_h → ((n : ℕ) → q ≡ p + n → r ≡ Some (record { at = p; count = n })) → Made f (term_bits e.h) x
  h_there r x q i u h =
      let y : Piece = record { at = p; count = length (term_bits e.h) } in
      subst (Made f (term_bits e.h)) (some_same y x (sym (h (length (term_bits e.h)) u) ∙ i)) h_made

  pub not_missing : (r : Option Piece) (q : ℕ) → r ≡ None → q ≡ behind_h → ((n : ℕ) → q ≡ p + n → r ≡ Some (record { at = p; count = n })) → ⊥
  not_missing r q i u h = none_some {P = ⊥} (record { at = p; count = length (term_bits e.h) }) (sym i ∙ h (length (term_bits e.h)) u)

-- a body that is read begins inside the file
abbrev built : Header → Term → List Clause → Equation
built h g cs = record { sign = h.sign; sorts = h.sorts; quantified = h.quantified; h = g; clauses = cs }

inside : (a : Alg) (hs : List Header) (h : Header) (f : List ℕ) (p : ℕ) (e : Equation) (q : ℕ) → read_body a hs h f p ≡ next e q → p ≤ 8 * length f
inside a hs h f p e q k =
    let d = followed (read_of a (scope h) 0 f p) (λ g u. follow (take 4 f u) (λ n v. follow (repeated (read_clause a hs (scope h)) n f v) (λ cs w. next (built h g cs) w))) e q k in
    let t = followed (read_term a (scope h) greatest_depth (Some 0) f p) (λ (x : Sorted) u. next x.the_term u) d.0 d.1.0 d.1.1.0 in
    let i = followed (take 3 f p) (λ k u. read_kind a (scope h) (read_term a (scope h) 31) p (Some 0) k f u) t.0 t.1.0 t.1.1.0 in
    let m = stands_most f p (bits 3 i.0) (took f p 3 i.0 i.1.0 i.1.1.0).stands in
    omega arith

pub equations_there : (a : Alg) → Lawful a → (hs : List Header) (f : List ℕ) (ts : List Told) (es : List Equation) → length ts ≡ length es → Every (BodyFits a hs) es →
    ((i : ℕ) (e : Equation) (t : Told) → at es i ≡ Some e → at ts i ≡ Some t → (q : ℕ) × (read_body a hs (header_of e) f t.body ≡ next e q)) → Pairs (EquationThere a hs f) ts es
equations_there a law hs f [] [] l b r = tt
equations_there a law hs f [] (e ∷ es) l b r = absurd (omega arith)
equations_there a law hs f (t ∷ ts) [] l b r = absurd (omega arith)
equations_there a law hs f (t ∷ ts) (e ∷ es) l b r =
    let x = r 0 e t refl refl in
    let c = (sound_body f a law hs (header_of e)).run t.body (inside a hs (header_of e) f t.body e x.0 x.1) e x.0 x.1 in (
      record { fits = b.0; stands = subst (Stands f t.body) c.fact.0 c.stands },
      equations_there a law hs f ts es (omega arith) b.1 (λ i e u h k. r (suc i) e u h k),
    )
