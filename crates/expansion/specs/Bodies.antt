-- What stands in the file where the body of an instance is written from it.
use Rattle.std.specs.Prelude.{ℕ, List, map, Some}
use Rattle.definitions.specs.Alg.{Alg}
use Rattle.definitions.specs.Systems.{Occurrence, Clause}
use Rattle.definitions.specs.ReadSystem.{Scope, Header}
use Rattle.definitions.specs.Fits.{OccurrenceFits, ClauseFits}
use Rattle.terms.specs.declared.value.Environment.{Environment}
use Rattle.terms.specs.Known.{Alike}
use Rattle.system.specs.declared.places.ClauseAt.{ClauseAt}
use Rattle.system.specs.declared.places.OccurrenceAt.{OccurrenceAt}
use Rattle.system.specs.Walks.{OccurrenceOf, ClauseOf}

-- the environment has the values of the parameters, and of the quantified variables that are bound
pub record Bound (ps vs : List ℕ) (env : Environment) : Type 0 where
  pub parameters : Alike env.parameters (map Some ps)
  pub variables : Alike env.variables (map Some vs)

-- an occurrence and a clause that are read and fit
pub record OccurrenceThere (a : Alg) (hs : List Header) (c : Scope) (f : List ℕ) (x : OccurrenceAt) (o : Occurrence) : Type 0 where
  pub end : ℕ
  pub found : OccurrenceOf a f o end x
  pub fits : OccurrenceFits a hs c o

pub record ClauseThere (a : Alg) (hs : List Header) (c : Scope) (f : List ℕ) (x : ClauseAt) (k : Clause) : Type 0 where
  pub end : ℕ
  pub found : ClauseOf a hs c f k end x
  pub fits : ClauseFits a hs c k
