-- What the answers on whole files say.
use Rattle.std.specs.Prelude.{◌≡◌, ℕ, List, map, length, Some, Ok, Err, Result}
use Rattle.faults.specs.declared.Stop.{Stop}
use Rattle.faults.specs.declared.ReadFault.{ReadFault}
use Rattle.definitions.specs.Lists.{at}
use Rattle.definitions.specs.Alg.{Alg}
use Rattle.definitions.specs.Systems.{Equation, System}
use Rattle.definitions.specs.Reading.{next, stop, Reader, ◌>>=◌, give, one_by_one, got, bad}
use Rattle.definitions.specs.ReadSystem.{Header, read_body, read_target, read_value_of, read_system, reading}
use Rattle.definitions.specs.Fits.{header_of}
use Rattle.rows.specs.Listed.{listed}
use Rattle.system.specs.declared.outline.Equation.{Equation as Told}
use Rattle.system.specs.declared.outline.Outline.{Outline}
use Rattle.system.specs.Files.{kept_header}
use Rattle.system.specs.Bodies.{padded}

-- a system behind its headers
abbrev pub read_rest : Alg → List Header → Reader System
read_rest a hs = do
  es ← one_by_one (read_body a hs) hs
  t ← read_target hs
  vs ← one_by_one (read_value_of a) t.1.sorts
  give (record { equations = es; start = t.0; values = vs })

abbrev pub kept_headers : Outline → List Header
kept_headers o = map (λ e. kept_header e.header) (listed o.equations)

-- the outline of a file is of the system s
pub record Outlined (a : Alg) (f : List ℕ) (s : System) (o : Outline) : Type 0 where
  -- the file is read as s, and its content ends at the outline's end
  pub whole : read_system a f 0 ≡ next s o.end
  pub count : length (listed o.equations) ≡ length s.equations
  pub headers : kept_headers o ≡ map header_of s.equations
  -- each equation is read at the place of its body
  pub bodies : (i : ℕ) (e : Equation) (t : Told) → at s.equations i ≡ Some e → at (listed o.equations) i ≡ Some t → (q : ℕ) × (read_body a (kept_headers o) (header_of e) f t.body ≡ next e q)
  pub start : o.start.equation ≡ s.start
  pub values : o.start.values ≡ padded s.values

abbrev pub SystemTold : Alg → List ℕ → Result Outline Stop → Type 0
SystemTold a f (Ok o) = (s : System) × Outlined a f s o
SystemTold a f (Err e) = read_system a f 0 ≡ stop e.reason e.place

-- the file is that of a system, which the outline outlines, or it is not, for the reason and at the place told
abbrev pub Read : Alg → List ℕ → Result Outline ReadFault → Type 0
Read a f (Ok o) = (s : System) × ((reading a f ≡ got s) × Outlined a f s o)
Read a f (Err e) = reading a f ≡ bad e.reason e.place
