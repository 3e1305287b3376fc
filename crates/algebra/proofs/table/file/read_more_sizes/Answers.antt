use Rattle.std.proofs.Common.{◌≡◌, ℕ, suc, List, [], ◌∷◌, ◌++◌, arith, ap, ◌∙◌, length}
use Rattle.bits.proofs.InRow.{begun_next, begun_stop}
use Rattle.rows.specs.Listed.{listed}
use Rattle.definitions.specs.Reading.{repeated, next}
use Rattle.definitions.specs.Tables.{read_size}
use Rattle.algebra.proofs.Rows.{follow_stop}
use Rattle.algebra.proofs.table.file.read_more_sizes.Goals as goal

pub returns-in_err-size : goal.returns-in_err-size
returns-in_err-size c =
    let (xs, e, b) = c.loop.invariant in
    let s = begun_stop read_size c.read_size.new.cursor (λ r. listed r) c.from_residual.result c.in_err-size.field-0.0 (omega arith) b c.in_err-size.ensures c.from_residual.ensures.1 in (
      follow_stop (λ r. listed r) (λ r. listed r) (λ (zs : List ℕ) q. next (2 ∷ zs) q) c.read_size.new.cursor.at (repeated read_size c.args.more c.args.cursor.now.bytes.now c.args.cursor.now.at) c.from_residual.result c.in_err-size.field-0.0
          c.from_residual.ensures.1 s.0,
      s.1,
    )

pub loop-preserved : goal.loop-preserved
loop-preserved c =
    let (xs, e, b) = c.loop.invariant in
    let n = b.count in
    let size = c.in_ok-size.size in
    let l : length (listed c.loop.sizes) ≡ suc (length xs) = ap (λ (l : List ℕ). length l) e in (
      xs ++ (size ∷ []),
      c.push-in-loop.ensures.added (omega arith) ∙ ap (λ (l : List ℕ). l ++ (size ∷ [])) e,
      begun_next read_size c.read_size.new.cursor size (omega arith) b c.in_ok-size.ensures,
    )
