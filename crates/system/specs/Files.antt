-- What the headers as kept say.
use Rattle.std.specs.Prelude.{map}
use Rattle.definitions.specs.Solution.{Sign, least, greatest}
use Rattle.definitions.specs.Systems.{Quantifier, exists, forall, Quantified}
use Rattle.definitions.specs.ReadSystem.{Header}
use Rattle.rows.specs.Listed.{listed}
use Rattle.system.specs.declared.header.Sign.{Sign as KeptSign}
use Rattle.system.specs.declared.header.Sign.TheVariants.{Least, Greatest}
use Rattle.system.specs.declared.header.Quantifier.{Quantifier as KeptQuantifier}
use Rattle.system.specs.declared.header.Quantifier.TheVariants.{Exists, ForAll}
use Rattle.system.specs.declared.header.Quantified.{Quantified as Kept}
use Rattle.system.specs.declared.header.Header.{Header as KeptHeader}

abbrev pub kept_sign : KeptSign → Sign
kept_sign Least = least
kept_sign Greatest = greatest

abbrev pub kept_quantifier : KeptQuantifier → Quantifier
kept_quantifier Exists = exists
kept_quantifier ForAll = forall

abbrev pub kept_quantified : Kept → Quantified
kept_quantified q = record { quantifier = kept_quantifier q.quantifier; sort = q.sort }

abbrev pub kept_header : KeptHeader → Header
kept_header h = record { sign = kept_sign h.sign; sorts = listed h.sorts; quantified = map kept_quantified (listed h.quantified) }
