use Rattle.std.proofs.Common.{false, get_or, sym, refl, ◌∙◌, true≢false}
use Rattle.std.specs.Cmp.{booleans_Decides}
use Rattle.std.proofs.lemmas.Bool.{not-true, not-false}
use Rattle.std.proofs.lemmas.Bool.Decides.{not_from_Decides}
use Rattle.rows.specs.Listed.{listed}
use Rattle.boolean.specs.Steps.{assigned}
use Rattle.boolean.proofs.Sweeping.{belongs_told, body_told, body_reads}
use Rattle.boolean.proofs.solver.Solver.visit.Goals as goal

pub returns-then-not-belongs : goal.returns-then-not-belongs
returns-then-not-belongs c =
    let s = c.args.self.now in
    let told = belongs_told s c.args.v c.args.entry.now (listed s.variables.now.entries) refl c.requires.its c.requires.few c.args.k in
    (refl, λ p _. absurd (true≢false (sym p ∙ sym told ∙ sym c.belongs.ensures ∙ c.if-not-belongs.true)))

pub returns-in_default : goal.returns-in_default
returns-in_default c =
    let s = c.args.self.now in
    let es = c.as_slice in (
      refl,
      λ _ _. absurd (body_reads s c.args.v c.args.entry.now es.result.now es.ensures (rw es.ensures c.requires.its) (rw es.ensures c.requires.few)
          (assigned c.args.truths.now) c.in_default.field-0.reason c.in_default.field-0.place c.in_default.ensures.0),
    )

pub returns-then-truth-to : goal.returns-then-truth-to
returns-then-truth-to c =
    let s = c.args.self.now in
    let es = c.as_slice in
    let told = body_told s c.args.v c.args.entry.now es.result.now es.ensures (rw es.ensures c.requires.its) (rw es.ensures c.requires.few)
    (assigned c.args.truths.now) c.in-Ok.truth c.read_body.new.cursor.at c.in-Ok.ensures.0 in
    (refl, λ _ q. absurd (not_from_Decides _ (booleans_Decides c.in-Ok.truth c.args.to) (not-true _ c.if-truth-to.true) (told ∙ q)))

pub returns : goal.returns
returns c =
    let s = c.args.self.now in
    let es = c.as_slice in
    let there = belongs_told s c.args.v c.args.entry.now (listed s.variables.now.entries) refl c.requires.its c.requires.few c.args.k in
    let told = body_told s c.args.v c.args.entry.now es.result.now es.ensures (rw es.ensures c.requires.its) (rw es.ensures c.requires.few)
    (assigned c.args.truths.now) c.in-Ok.truth c.read_body.new.cursor.at c.in-Ok.ensures.0 in (
      refl,
      (
        sym there ∙ sym c.belongs.ensures ∙ c.if-not-belongs.false,
        (
          sym told ∙ (booleans_Decides c.in-Ok.truth c.args.to).0 (not-false _ c.if-truth-to.false),
          not_from_Decides _ (booleans_Decides (get_or c.args.truths.now c.args.v false) c.args.to) c.if-truths-v.false,
        ),
      ),
    )
