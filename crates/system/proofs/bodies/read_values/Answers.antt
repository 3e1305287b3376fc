use Rattle.std.proofs.Common.{◌≡◌, ◌+◌, length, get_or, take, sym, ap, ◌∙◌, subst, add-one, arith, length-set}
use Rattle.std.proofs.Math.Seq.{take-suc-set}
use Rattle.definitions.specs.Reading.{next}
use Rattle.definitions.specs.ReadSystem.{read_value_of}
use Rattle.bits.proofs.InRow.{passed}
use Rattle.system.specs.Rows.{Kept}
use Rattle.system.proofs.Lists.{at_some}
use Rattle.system.proofs.Rows.{stopped, kept_next, kept_stop, kept_end}
use Rattle.system.proofs.Fills.{zeros_next, zeros_end}
use Rattle.system.proofs.bodies.read_values.Goals as goal

pub returns-in_err-values : goal.returns-in_err-values
returns-in_err-values g c =
    let e = c.in_err-values.field-0.0 in
    let x = c.in_err-values.ensures in
    let ss = c.args.sorts.now in
    let l = c.loop-i in
    record {
      reads = (
        stopped (λ vs. take (length ss) vs) c.read_value.new.cursor.at c.from_residual.result e _ c.from_residual.ensures.1 (kept_stop (read_value_of (g.G.Algebra.meaning c.args.alg.now)) ss e (get_or ss l.i 0) (sym (at_some ss l.i (omega arith))) l.invariant.1 x.0),
        x.1 ∙ l.invariant.1.same,
      );
      zeros = rw (passed c.from_residual.result e c.from_residual.ensures.1) tt;
    }

pub loop-i-preserved : goal.loop-i-preserved
loop-i-preserved g c =
    let x = c.in_ok-values.field-0 in
    let ss = c.args.sorts.now in
    let l = c.loop-i in
    let r = read_value_of (g.G.Algebra.meaning c.args.alg.now) in (
      length-set l.values l.i x ∙ l.invariant.0,
      subst (λ vs. Kept r ss (l.i + 1) vs c.args.cursor.now.bytes.now c.args.cursor.now.at c.read_value.new.cursor) (rw add-one (sym (take-suc-set l.values l.i x (omega (arith, l.invariant.0)))))
          (kept_next r ss c.read_value.new.cursor (get_or ss l.i 0) x (sym (at_some ss l.i (omega arith))) l.invariant.1 c.in_ok-values.ensures),
      zeros_next l.values l.i 15 x l.invariant.2 (omega arith),
    )

pub returns : goal.returns
returns g c =
    let ss = c.args.sorts.now in
    let l = c.loop-i in
    let n : length ss ≡ l.i = omega arith in
    record {
      reads = (ap (λ k. next (take k l.values) l.cursor.at) n ∙ kept_end (read_value_of (g.G.Algebra.meaning c.args.alg.now)) ss (omega arith) l.invariant.1, l.invariant.1.same);
      zeros = zeros_end l.values (length ss) (omega (arith, l.invariant.0)) (rw n l.invariant.2);
    }
