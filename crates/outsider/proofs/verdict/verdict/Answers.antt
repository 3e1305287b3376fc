use Rattle.std.proofs.Common.{nat_eq, [], Some, refl, inl, ap, ◌∙◌}
use Rattle.std.specs.Option.{option_eq}
use Rattle.outsider.specs.Lamps.{lamps, lamps_lawful}
use Rattle.outsider.proofs.Truths.{is_one}
use Rattle.outsider.proofs.verdict.verdict.Goals as goal

-- each call adds itself to the history of the bench, which begins with its making; the last says what the theorem says
pub returns : goal.returns
returns c =
    let loaded = (c.in_ok-load.ensures.history [] c.new-bench.ensures.past).0 in
    let run = (c.in_ok-run.ensures.history _ loaded).0 in
    let settled = (c.in_ok-settle.ensures.history _ run).0 in
    let expanded = (c.in_ok-expansion.ensures.history _ settled).1 in
    let kept = expanded.kept lamps lamps_lawful c.args.file.now (refl, (refl, (refl, (refl, refl)))) in
    let byte = (kept.solved _ (inl refl)).byte _ _ _ c.in_ok-solve.ensures in
    (kept.first, (kept.loaded, c.eq.ensures ∙ (ap (λ o. option_eq nat_eq o (Some 1)) (c.first.ensures ∙ byte) ∙ is_one _)))
