-- What the passes mean, and that each keeps the rules of a pass.
use Rattle.definitions.specs.Settle.{Pass}
use Rattle.definitions.specs.Constants.{pass_c}
use Rattle.definitions.specs.Passes.{pass_f, pass_r, pass_u}
use Rattle.definitions.specs.Rules.{Rules}
use Rattle.theorems.proofs.PassRules.{passes_rule}
use Rattle.passes.specs.declared.named.Named.{Named}
use Rattle.passes.specs.declared.named.Named.TheVariants.{Constants, Fold, Redundant, Unreachable}

abbrev pub meaning_of : Named → Pass
meaning_of Constants = pass_c
meaning_of Fold = pass_f
meaning_of Redundant = pass_r
meaning_of Unreachable = pass_u

pub c_rules : Rules pass_c
c_rules = passes_rule.C

pub f_rules : Rules pass_f
f_rules = passes_rule.F

pub r_rules : Rules pass_r
r_rules = passes_rule.R

pub u_rules : Rules pass_u
u_rules = passes_rule.U

pub named_rules : (x : Named) → Rules (meaning_of x)
named_rules Constants = c_rules
named_rules Fold = f_rules
named_rules Redundant = r_rules
named_rules Unreachable = u_rules
