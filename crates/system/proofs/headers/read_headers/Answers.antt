use Rattle.std.proofs.Common.{[], ◌∷◌, map, arith}
use Rattle.std.proofs.lemmas.List.{length-map, map-append}
use Rattle.definitions.specs.ReadSystem.{read_header}
use Rattle.bits.proofs.InRow.{begun_next, begun_stop}
use Rattle.rows.specs.Listed.{listed}
use Rattle.system.specs.Files.{kept_header}
use Rattle.system.proofs.headers.read_headers.Goals as goal

pub returns-in_err-header : goal.returns-in_err-header
returns-in_err-header g c =
    begun_stop (read_header (g.G.Algebra.meaning c.args.alg.now)) c.read_header.new.cursor (λ r. map kept_header (listed r)) c.from_residual.result c.in_err-header.field-0.0 (omega arith) c.loop.invariant c.in_err-header.ensures c.from_residual.ensures.1

pub loop-preserved : goal.loop-preserved
loop-preserved g c =
    let n = c.loop.invariant.count in
    let e = length-map (listed c.loop.headers) kept_header in rw (c.push.ensures.added (omega arith)) (rw (map-append kept_header (listed c.loop.headers) (c.in_ok-header.header ∷ [])) (begun_next (read_header (g.G.Algebra.meaning c.args.alg.now)) c.read_header.new.cursor (kept_header c.in_ok-header.header) (omega arith) c.loop.invariant c.in_ok-header.ensures))
