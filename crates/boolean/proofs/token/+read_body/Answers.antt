use Rattle.std.proofs.Common.{◌+◌, ◌-◌, Bool, eqb, [], ◌∷◌, ◌++◌, Err, sym, refl, ap, ◌∙◌, arith}
use Rattle.std.specs.Cmp.{booleans_Decides}
use Rattle.std.proofs.lemmas.Bool.Decides.{not_from_Decides}
use Rattle.definitions.specs.Reading.{next, stop}
use Rattle.definitions.specs.Boolean.{said, read_token}
use Rattle.bits.specs.Told.{told}
use Rattle.bits.proofs.InRow.{passed, begun_first, begun_next, begun_stop, begun_end}
use Rattle.boolean.specs.Steps.{assigned, mapped}
use Rattle.boolean.proofs.Parts.{unmapped, unstopped, of_parts, of_none, decides, stays, body_false, body_true, body_none, body_name, body_cut, body_parts}
use Rattle.boolean.proofs.token.+read_body.Goals as goal
use Rattle.boolean.proofs.token.+read_body.Goals.{then-part-any, else-part-any}

pub returns-in_err-variable-in-4 : goal.returns-in_err-variable-in-4
returns-in_err-variable-in-4 t c =
    let e = c.in_err-variable-in-4.field-0.0 in
    let r = c.in_ok-kind.ensures.reads in
    let s = c.in_err-variable-in-4.ensures.reads in (
      ap (told (λ x. x) c.field_below.new.self.at) (passed c.from_residual-in_err-variable-in-4.result e c.from_residual-in_err-variable-in-4.ensures.1) ∙
          body_name c.args.variables c.args.depth c.args.cursor.now.bytes.now c.args.cursor.now.at c.in_ok-kind.kind c.field.new.self.at (assigned c.args.truths.now) c.if-depth-eq0.false r.0 c.field.new.self.bytes.now r.1 c.in-4.is (stop e.reason e.place) s.0,
      s.1 ∙ r.1,
    )

pub returns-in_err-parts-in-2 : goal.returns-in_err-parts-in-2
returns-in_err-parts-in-2 t c =
    let e = c.in_err-parts-in-2.field-0.0 in
    let r = c.in_ok-kind.ensures.reads in
    let s = c.in_err-parts-in-2.ensures.reads in (
      ap (told (λ x. x) c.field-in-2.new.self.at) (passed c.from_residual-in_err-parts-in-2.result e c.from_residual-in_err-parts-in-2.ensures.1) ∙
          body_cut c.args.variables c.args.depth c.args.cursor.now.bytes.now c.args.cursor.now.at c.in_ok-kind.kind c.field.new.self.at (assigned c.args.truths.now) c.if-depth-eq0.false r.0 c.field.new.self.bytes.now r.1 e.reason e.place (omega arith) (omega arith) s.0,
      s.1 ∙ r.1,
    )

pub loop-init : goal.loop-init
loop-init t c = ([], begun_first (read_token c.args.variables (c.args.depth - 1)) (c.in_ok-parts-in-2.field-0 + 1) c.field-in-2.new.self, of_none (eqb c.in_ok-kind.kind 3) (assigned c.args.truths.now))

pub returns-in_err-part-in-2 : goal.returns-in_err-part-in-2
returns-in_err-part-in-2 t c =
    let h = assigned c.args.truths.now in
    let k = c.in_ok-kind.kind in
    let e = c.in_err-part-in-2.field-0.0 in
    let r = c.in_ok-kind.ensures.reads in
    let s = c.in_ok-parts-in-2.ensures.reads in
    let tok = read_token c.args.variables (c.args.depth - 1) in
    let x = c.in_err-part-in-2.ensures in
    let b = begun_stop tok c.read_body.new.cursor (λ (_ : Bool). []) (Err e) e (omega arith) c.loop.invariant.1 (unstopped (λ p. said p h) e.reason e.place (tok c.loop.cursor.bytes.now c.loop.cursor.at) x.0, x.1) refl in (
      ap (told (λ x. x) c.read_body.new.cursor.at) (passed c.from_residual-in_err-part-in-2.result e c.from_residual-in_err-part-in-2.ensures.1) ∙
          ap (mapped (of_parts (eqb k 3) h)) b.0 ∙
          body_parts c.args.variables c.args.depth c.args.cursor.now.bytes.now c.args.cursor.now.at k c.field.new.self.at h c.if-depth-eq0.false r.0 c.field.new.self.bytes.now r.1
          c.in_ok-parts-in-2.field-0 c.field-in-2.new.self.at (omega arith) (omega arith) s.0 c.field-in-2.new.self.bytes.now s.1,
      b.1 ∙ s.1 ∙ r.1,
    )

pub loop-preserved : goal.loop-preserved
loop-preserved t c =
    let h = assigned c.args.truths.now in
    let b = eqb c.in_ok-kind.kind 3 in
    let tok = read_token c.args.variables (c.args.depth - 1) in
    let u = c.in_ok-part-in-2.part in
    let i = c.loop.invariant in
    let x = c.in_ok-part-in-2.ensures in
    let m = unmapped (λ p. said p h) u c.read_body.new.cursor.at (tok c.loop.cursor.bytes.now c.loop.cursor.at) x.0 in (
      i.0 ++ (m.0 ∷ []),
      begun_next tok c.read_body.new.cursor m.0 (omega arith) i.1 (sym m.1, x.1),
      elim c.if-part-any.branch [
        | then-part-any w ↦ w.truth-is ∙ decides h i.0 m.0 b (sym m.2 ∙ (booleans_Decides u b).0 w.if-part-any.true)
        | else-part-any w ↦ w.truth-is ∙ i.2 ∙ stays h i.0 m.0 b (λ z. not_from_Decides _ (booleans_Decides u b) w.if-part-any.false (m.2 ∙ z))
      ],
    )

pub returns-in-0 : goal.returns-in-0
returns-in-0 t c =
    let r = c.in_ok-kind.ensures.reads in
    (body_false c.args.variables c.args.depth c.args.cursor.now.bytes.now c.args.cursor.now.at c.in_ok-kind.kind c.field.new.self.at (assigned c.args.truths.now) c.if-depth-eq0.false r.0 c.in-0.is, r.1)

pub returns-in-1 : goal.returns-in-1
returns-in-1 t c =
    let r = c.in_ok-kind.ensures.reads in
    (body_true c.args.variables c.args.depth c.args.cursor.now.bytes.now c.args.cursor.now.at c.in_ok-kind.kind c.field.new.self.at (assigned c.args.truths.now) c.if-depth-eq0.false r.0 c.in-1.is, r.1)

pub returns-in_ok-variable-in-4 : goal.returns-in_ok-variable-in-4
returns-in_ok-variable-in-4 t c =
    let r = c.in_ok-kind.ensures.reads in
    let s = c.in_ok-variable-in-4.ensures.reads in (
      body_name c.args.variables c.args.depth c.args.cursor.now.bytes.now c.args.cursor.now.at c.in_ok-kind.kind c.field.new.self.at (assigned c.args.truths.now) c.if-depth-eq0.false r.0 c.field.new.self.bytes.now r.1 c.in-4.is (next c.in_ok-variable-in-4.variable c.field_below.new.self.at) s.0,
      s.1 ∙ r.1,
    )

pub returns-after-loop : goal.returns-after-loop
returns-after-loop t c =
    let h = assigned c.args.truths.now in
    let k = c.in_ok-kind.kind in
    let r = c.in_ok-kind.ensures.reads in
    let s = c.in_ok-parts-in-2.ensures.reads in
    let i = c.loop.invariant in (
      ap (λ z. next z c.loop.cursor.at) i.2 ∙
          ap (mapped (of_parts (eqb k 3) h)) (begun_end (read_token c.args.variables (c.args.depth - 1)) (omega arith) i.1) ∙
          body_parts c.args.variables c.args.depth c.args.cursor.now.bytes.now c.args.cursor.now.at k c.field.new.self.at h c.if-depth-eq0.false r.0 c.field.new.self.bytes.now r.1
          c.in_ok-parts-in-2.field-0 c.field-in-2.new.self.at (omega arith) (omega arith) s.0 c.field-in-2.new.self.bytes.now s.1,
      i.1.same ∙ s.1 ∙ r.1,
    )

pub returns-in_default : goal.returns-in_default
returns-in_default t c =
    let r = c.in_ok-kind.ensures.reads in
    (body_none c.args.variables c.args.depth c.args.cursor.now.bytes.now c.args.cursor.now.at c.in_ok-kind.kind c.field.new.self.at (assigned c.args.truths.now) c.if-depth-eq0.false r.0 (omega arith), r.1)
