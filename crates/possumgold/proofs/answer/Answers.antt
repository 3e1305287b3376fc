use Rattle.std.proofs.Common.{ℕ, List, sym, ap, ◌∙◌, subst}
use Rattle.definitions.specs.Tables.{table_reading}
use Rattle.algebra.specs.Tabled.{tabled}
use Rattle.possumgold.specs.Told.{IsVerdict}
use Rattle.possumgold.proofs.answer.Goals as goal

pub returns : goal.returns
returns c =
    let put = c.in_ok-bench.ensures in
    let table = c.settled.new.table in (
      table,
      (
        ap table_reading (sym c.split_input.ensures.table) ∙ put.0,
        subst (λ (f : List ℕ). IsVerdict (tabled table) f c.in_ok-verdict.verdict.truth) c.split_input.ensures.system (c.in_ok-verdict.ensures _ put.1),
      ),
    )
