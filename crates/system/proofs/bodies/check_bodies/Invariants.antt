use Rattle.std.proofs.Common.{◌≡◌, ◌++◌, map, take, drop}
use Rattle.definitions.specs.ReadSystem.{read_body}
use Rattle.rows.specs.Listed.{listed}
use Rattle.system.specs.declared.outline.Equation.{Equation}
use Rattle.system.specs.Bodies.{places_of}
use Rattle.system.specs.Files.{kept_header}
use Rattle.system.specs.Rows.{Skipped}
use Rattle.system.proofs.bodies.check_bodies.Given as goal

abbrev pub invariant-loop-header : goal.invariant-loop-header
invariant-loop-header g l =
    let hs = map kept_header l.headers in
    let r = read_body (g.G.Algebra.meaning l.alg) hs in
    (map (λ (e : Equation). e.header) (listed l.equations) ≡ take l.header-index l.headers) ×
    (places_of r hs l.fn.cursor.bytes.now l.fn.cursor.at ≡ map (λ (e : Equation). e.body) (listed l.equations) ++ places_of r (drop l.header-index hs) l.fn.cursor.bytes.now l.cursor.at) ×
    Skipped r hs l.header-index l.fn.cursor.bytes.now l.fn.cursor.at l.cursor
