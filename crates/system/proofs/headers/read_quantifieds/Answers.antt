use Rattle.std.proofs.Common.{[], ◌∷◌, map, arith}
use Rattle.std.proofs.lemmas.List.{length-map, map-append}
use Rattle.definitions.specs.ReadSystem.{read_quantified}
use Rattle.bits.proofs.InRow.{begun_next, begun_stop}
use Rattle.rows.specs.Listed.{listed}
use Rattle.system.specs.Files.{kept_quantified}
use Rattle.system.proofs.headers.read_quantifieds.Goals as goal

pub returns-in_err-variable : goal.returns-in_err-variable
returns-in_err-variable g c =
    begun_stop (read_quantified (g.G.Algebra.meaning c.args.alg.now)) c.read_quantified.new.cursor (λ r. map kept_quantified (listed r)) c.from_residual.result c.in_err-variable.field-0.0 (omega arith) c.loop.invariant c.in_err-variable.ensures c.from_residual.ensures.1

pub loop-preserved : goal.loop-preserved
loop-preserved g c =
    let n = c.loop.invariant.count in
    let e = length-map (listed c.loop.quantified) kept_quantified in rw (c.push.ensures.added (omega arith)) (rw (map-append kept_quantified (listed c.loop.quantified) (c.in_ok-variable.variable ∷ [])) (begun_next (read_quantified (g.G.Algebra.meaning c.args.alg.now)) c.read_quantified.new.cursor (kept_quantified c.in_ok-variable.variable) (omega arith) c.loop.invariant c.in_ok-variable.ensures))
