use Rattle.std.proofs.Common.{length, ap, arith, drop_of_length-le}
use Rattle.definitions.specs.Systems.{Equation}
use Rattle.definitions.specs.Written.{body_bits}
use Rattle.system.specs.Whole.{kept_headers}
use Rattle.outsider.specs.Repeats.{equation_without_repeats}
use Rattle.outsider.specs.Pieces.{EquationThere}
use Rattle.outsider.proofs.Along.{item, going_first, going_next, going_stop, going_end}
use Rattle.outsider.proofs.repeats.write_bodies.Goals as goal

pub loop-equation-init : goal.loop-equation-init
loop-equation-init g c = λ es short p.
    let R = EquationThere (g.G.Algebra.meaning c.args.accepted.now.alg.now) (kept_headers c.args.accepted.now.outline.now) c.args.accepted.now.file.now in
    going_first R (λ (e : Equation). body_bits (equation_without_repeats e)) c.args.equations.now es c.args.writer.now p

pub returns-in_err-write_body : goal.returns-in_err-write_body
returns-in_err-write_body g c = λ es short p.
    let R = EquationThere (g.G.Algebra.meaning c.args.accepted.now.alg.now) (kept_headers c.args.accepted.now.outline.now) c.args.accepted.now.file.now in
    let x = c.equation-item.result in
    let r = c.from_residual in
    going_stop R (λ (e : Equation). body_bits (equation_without_repeats e)) x c.write_body.new.writer r.result r.ensures.0 (item c.args.equations.now c.loop-equation.equation-index x (omega arith) c.equation-item.is) (c.loop-equation.invariant es short p) (λ e h. c.in_err-write_body.ensures e short h.fits h.stands)

pub loop-equation-preserved : goal.loop-equation-preserved
loop-equation-preserved g c = λ es short p.
    let R = EquationThere (g.G.Algebra.meaning c.args.accepted.now.alg.now) (kept_headers c.args.accepted.now.outline.now) c.args.accepted.now.file.now in
    let x = c.equation-item.result in
    going_next R (λ (e : Equation). body_bits (equation_without_repeats e)) x c.write_body.new.writer (item c.args.equations.now c.loop-equation.equation-index x (omega arith) c.equation-item.is) (c.loop-equation.invariant es short p) (λ e h. c.in_ok-write_body.ensures e short h.fits h.stands)

pub returns : goal.returns
returns g c = λ es short p.
    let R = EquationThere (g.G.Algebra.meaning c.args.accepted.now.alg.now) (kept_headers c.args.accepted.now.outline.now) c.args.accepted.now.file.now in
    let i = c.loop-equation.equation-index in
    going_end R (λ (e : Equation). body_bits (equation_without_repeats e)) (ap length (drop_of_length-le c.args.equations.now {i = i} (omega arith))) (c.loop-equation.invariant es short p)
