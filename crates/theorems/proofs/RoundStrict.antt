-- A round that does not lower the weight changes nothing.
use Rattle.std.proofs.Common.{◌∙◌, arith}
use Rattle.definitions.specs.Constants.{pass_c}
use Rattle.definitions.specs.Passes.{pass_f, pass_r}
use Rattle.theorems.specs.SettleLaws.{ChangingRoundsLighter}
use Rattle.theorems.proofs.PassRules.{passes_rule}
use Rattle.theorems.proofs.Weights.{c_le, f_le, r_le, u_le}
use Rattle.theorems.proofs.Strict.{c_strict, f_strict, r_strict, u_strict}

pub round_strict : ChangingRoundsLighter
round_strict a law s fit l =
    let c = pass_c a s in
    let f = pass_f a c in
    let r = pass_r a f in
    let fit_c = passes_rule.C.fits a law s fit in
    let fit_f = passes_rule.F.fits a law c fit_c in
    let fit_r = passes_rule.R.fits a law f fit_f in
    let wc = c_le a s in
    let wf = f_le a c in
    let wr = r_le a f in
    let wu = u_le a r in
    u_strict a r fit_r (omega (arith, wc, wf, wr, l)) ∙
    (r_strict a f fit_f (omega (arith, wc, wf, wu, l)) ∙ (f_strict a c fit_c (omega (arith, wc, wr, wu, l)) ∙ c_strict a s fit (omega (arith, wf, wr, wu, l))))
