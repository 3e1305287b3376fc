use Rattle.std.proofs.Common.{◌≡◌, length, ap, ◌∙◌, arith}
use lib.ListN.{length-map}
use Rattle.definitions.specs.ReadSystem.{Header}
use Rattle.rows.specs.Listed.{listed}
use Rattle.system.specs.Files.{kept_quantified}
use Rattle.outsider.proofs.Lengths.{header_long}
use Rattle.outsider.proofs.repeats.bits_of_header.Goals as goal

pub returns-clause-long : goal.returns-clause-long
returns-clause-long c = λ e h.
    let x = c.args.header.now in
    let sorts : length e.sorts ≡ length (listed x.sorts) = ap (λ (h : Header). length h.sorts) h in
    let quantified : length e.quantified ≡ length (listed x.quantified) = ap (λ (h : Header). length h.quantified) h ∙ length-map (listed x.quantified) kept_quantified in
    let n = header_long e in
    let s = c.len.ensures.count in
    let q = c.len-2.ensures.count in
    omega arith
