use Rattle.std.proofs.Common.{◌≡◌, map, Bor, ap, ◌∙◌, rules}
use Rattle.std.specs.Option.{option_map}
use Rattle.definitions.specs.Lists.{at}
use Rattle.definitions.specs.Reading.{follow}
use Rattle.definitions.specs.ReadSystem.{scope}
use Rattle.system.specs.declared.header.Quantified.{Quantified}
use Rattle.system.specs.Steps.{named}
use Rattle.system.specs.Files.{kept_quantified, kept_header}
use Rattle.system.proofs.Chains.{variable_at}
use Rattle.system.proofs.term.Checker.check_variable.Goals as goal

pub returns : goal.returns
returns g c =
    let f = c.args.cursor.now.bytes.now in
    let p = c.args.cursor.now.at in
    let n = c.in_ok-number.field-0 in
    let q = c.field.new.self.at in
    let s : c.map-sort.result ≡ option_map (λ (x : Bor Quantified). x.now.sort) c.get.result = search rules in
    let v = s ∙ variable_at c.as_slice-variables.result.now n c.get.result c.get.ensures.lookup ∙ ap (λ xs. at (map (λ q. q.sort) (map kept_quantified xs)) n) c.as_slice-variables.ensures in (
      c.check_name.ensures f q ∙ ap (λ o. named o p c.args.start c.args.need f q) v ∙
          ap (λ m. follow m (λ n t. named (at (scope (kept_header c.args.self.now.header.now)).variables n) p c.args.start c.args.need f t)) c.in_ok-number.ensures.reads.0,
      c.in_ok-number.ensures.reads.1,
    )
