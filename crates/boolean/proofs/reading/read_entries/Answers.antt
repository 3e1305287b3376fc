use Rattle.std.proofs.Common.{◌≡◌, ℕ, ◌-◌, ◌<◌, length, sym, refl, ◌∙◌, subst, arith}
use Rattle.std.proofs.Common.{None}
use Rattle.bits.proofs.InRow.{passed}
use Rattle.rows.specs.Listed.{listed}
use Rattle.boolean.specs.Files.{Listing, ListTold}
use Rattle.boolean.proofs.Entering.{alike_everywhere, none_entered, all_kept_long, listing_first, listing_next, listing_stop}
use Rattle.boolean.proofs.reading.read_entries.Goals as goal

pub loop-init : goal.loop-init
loop-init c =
    let f = c.args.cursor.now.bytes.now in
    (listing_first f c.args.count c.args.cursor.now.at 0 _ (none_entered f c.args.count _ c.new.ensures (alike_everywhere None 32)), refl)

pub read_entry-requires-clause-few : goal.read_entry-requires-clause-few
read_entry-requires-clause-few c =
    let i = c.loop.invariant.0 in
    let l = all_kept_long c.args.cursor.now.bytes.now c.args.count i.variables (listed c.loop.variables.entries) i.entered.entries in
    let few : length (listed c.loop.variables.entries) < 4096 = omega (arith, i.long) in
    few

pub returns-in_err-read_entry-clause-told : goal.returns-in_err-read_entry-clause-told
returns-in_err-read_entry-clause-told c =
    let e = c.in_err-read_entry.field-0.0 in
    let i = c.loop.invariant in
    subst (ListTold c.args.count c.args.cursor.now c.read_entry.new.cursor) (sym (passed c.from_residual.result e c.from_residual.ensures.1))
    (listing_stop c.args.cursor.now.bytes.now c.args.count c.args.cursor.now.at c.loop.counter c.loop.cursor.at c.loop.variables i.0 (omega arith) c.loop.cursor.bytes.now i.1
    e.reason e.place (c.in_err-read_entry.ensures.told i.0.variables))

pub loop-preserved : goal.loop-preserved
loop-preserved c =
    let i = c.loop.invariant in (
      listing_next c.args.cursor.now.bytes.now c.args.count c.args.cursor.now.at c.loop.counter c.loop.cursor.at c.loop.variables i.0 (omega arith) c.loop.cursor.bytes.now i.1
          c.read_entry.new.cursor.at c.read_entry.new.variables (c.in_ok-read_entry.ensures.told i.0.variables),
      c.in_ok-read_entry.ensures.same ∙ i.1,
    )

pub returns-clause-told : goal.returns-clause-told
returns-clause-told c =
    let k : c.args.count - c.loop.counter ≡ 0 = omega arith in
    subst (λ (m : ℕ). Listing c.args.cursor.now.bytes.now c.args.count c.args.cursor.now.at m c.loop.cursor.at c.loop.variables) k c.loop.invariant.0
