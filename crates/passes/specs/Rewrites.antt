-- What stands in a file where a system is written anew from it.
use Rattle.std.specs.Prelude.{◌≡◌, ℕ, true, false, not as flip, Bool, ◌||◌, List, [], ◌∷◌, ◌++◌, Some}
use Rattle.definitions.specs.Lists.{bind}
use Rattle.definitions.specs.Alg.{Alg}
use Rattle.definitions.specs.Bits.{bits}
use Rattle.definitions.specs.Systems.{Term, Quantified, Occurrence, Clause, Equation}
use Rattle.definitions.specs.Values.{known, is_false}
use Rattle.definitions.specs.Reading.{next}
use Rattle.definitions.specs.ReadSystem.{Scope, Header, greatest_depth, read_body}
use Rattle.definitions.specs.Written.{quantifier_bits}
use Rattle.definitions.specs.Fits.{Fits, HeaderFits, OccurrenceFits, ClauseFits, BodyFits, header_of}
use Rattle.terms.specs.Shapes.{standing}
use Rattle.system.specs.declared.outline.Equation.{Equation as Told}
use Rattle.system.specs.declared.places.ClauseAt.{ClauseAt}
use Rattle.system.specs.declared.places.OccurrenceAt.{OccurrenceAt}
use Rattle.system.specs.Files.{kept_header}
use Rattle.system.specs.Walks.{OccurrenceOf, ClauseOf}
use Rattle.passes.specs.declared.plan.Change.{Change}
use Rattle.passes.specs.declared.plan.Plan.{Plan}
use Rattle.passes.specs.Planned.{remains}

abbrev pub quantified_bits : Quantified → List ℕ
quantified_bits q = quantifier_bits q.quantifier ++ bits 4 q.sort

-- a term that fits stands at the place
pub record TermAt (a : Alg) (c : Scope) (f : List ℕ) (p : ℕ) (t : Term) : Type 0 where
  pub stands : standing a greatest_depth f p ≡ Some t
  pub sort : ℕ
  pub fits : Fits a c greatest_depth sort t

-- an occurrence and a clause that are read and fit
pub record OccurrenceThere (a : Alg) (hs : List Header) (c : Scope) (f : List ℕ) (x : OccurrenceAt) (o : Occurrence) : Type 0 where
  pub end : ℕ
  pub found : OccurrenceOf a f o end x
  pub fits : OccurrenceFits a hs c o

pub record ClauseThere (a : Alg) (hs : List Header) (c : Scope) (f : List ℕ) (x : ClauseAt) (k : Clause) : Type 0 where
  pub end : ℕ
  pub found : ClauseOf a hs c f k end x
  pub fits : ClauseFits a hs c k

-- an equation whose header is kept and fits
pub record HeaderThere (a : Alg) (t : Told) (e : Equation) : Type 0 where
  pub kept : header_of e ≡ kept_header t.header
  pub fits : HeaderFits a (header_of e)

-- and whose body is read and fits
pub record EquationThere (a : Alg) (hs : List Header) (f : List ℕ) (t : Told) (e : Equation) : Type 0 where
  pub header : HeaderThere a t e
  pub fits : BodyFits a hs e
  pub end : ℕ
  pub read : read_body a hs (header_of e) f t.body ≡ next e end

-- whether the term at the place is known false
abbrev pub false_at : Alg → List ℕ → ℕ → Bool
false_at a f p = is_false (bind (standing a greatest_depth f p) (known a []))

abbrev pub stays_at : Alg → Plan → List ℕ → ClauseAt → Bool
stays_at a P f x = flip P.fold || flip (false_at a f x.guard)

-- what becomes of equations that do not go, each with its change
abbrev pub changed : {X : Type 0} → (Change → Equation → X) → List Change → List Equation → List X
changed f [] es = []
changed f (c ∷ cs) [] = []
changed f (c ∷ cs) (e ∷ es) = elim (remains c.equation) [ true ↦ f c e ∷ changed f cs es | false ↦ changed f cs es ]
