use Rattle.std.proofs.Common.{◌≡◌, ◌≤◌, ◌+◌, Ok, Err, sym, ap, ◌∙◌, arith}
use Rattle.std.proofs.lemmas.List.{length-take}
use Rattle.std.proofs.lemmas.Result.{err_from_is_err_and}
use Rattle.bench.specs.Holds.{holding}
use Rattle.bench.proofs.Held.{held_bytes}
use Rattle.bench.proofs.Rounding.{begun_first, begun_next, begun_equal, fewer, rounds_stop, same_held}
use Rattle.bench.proofs.Bench.run_rounds.Given.{Over}
use Rattle.bench.proofs.Bench.run_rounds.Goals as goal

pub loop-before-init : goal.loop-before-init
loop-before-init g c = begun_first (g.G.Algebra.meaning c.args.alg.now) (g.met.G.Algebra.lawful c.args.alg.now) (holding c.args.self.now) (held_bytes c.args.self.now)
    (omega (arith, length-take c.args.self.now.len c.args.self.now.bytes, c.args.self.now.bound))

pub returns-in_err-run_round : goal.returns-in_err-run_round
returns-in_err-run_round g c =
    let t = err_from_is_err_and c.from_residual.result c.from_residual.ensures.1 in
    rounds_stop (g.G.Algebra.meaning c.args.alg.now) (holding c.args.self.now) (holding c.loop-before.self) _ c.loop-before.round _ _ c.from_residual.result c.loop-before.invariant c.in_err-run_round.ensures t.1 t.2

pub returns-then-eq : goal.returns-then-eq
returns-then-eq g c =
    begun_equal (g.G.Algebra.meaning c.args.alg.now) (holding c.args.self.now) (holding c.loop-before.self) _ c.loop-before.round c.loop-before.invariant c.in_ok-run_round.ensures
    (sym c.held-in-loop-before.ensures ∙ (sym ((same_held c.held.result.now c.held-in-loop-before.result.now c.eq.result c.eq.ensures).0 c.if-eq.true) ∙ c.held.ensures))

differs : (g : Over) → (c : goal.Else-eq g) → ◌≡◌ (holding c.run_round.new.self) (holding c.loop-before.self) → ⊥
differs g c q =
    let t = (same_held c.held.result.now c.held-in-loop-before.result.now c.eq.result c.eq.ensures).1 (c.held.ensures ∙ (sym q ∙ sym c.held-in-loop-before.ensures)) in
    let f = c.if-eq.false in
    cc

pub loop-before-smaller : goal.loop-before-smaller
loop-before-smaller g c =
    fewer (g.G.Algebra.meaning c.args.alg.now) (g.met.G.Algebra.lawful c.args.alg.now) (holding c.loop-before.self) _ (held_bytes c.loop-before.self) c.in_ok-run_round.ensures (differs g c)

pub loop-before-preserved : goal.loop-before-preserved
loop-before-preserved g c =
    begun_next (g.G.Algebra.meaning c.args.alg.now) (g.met.G.Algebra.lawful c.args.alg.now) (holding c.args.self.now) (holding c.loop-before.self) _ c.loop-before.round c.loop-before.invariant c.in_ok-run_round.ensures (differs g c) (held_bytes c.run_round.new.self)
