use Rattle.std.proofs.Common.{rules, ◌≡◌, ◌-◌, length, min, take, Err, refl, ap, ◌∙◌, sym, arith}
use Rattle.std.proofs.lemmas.Result.{err_from_is_err_and}
use Rattle.faults.specs.declared.ExpandFault.TheVariants.{Refused}
use Rattle.faults.specs.declared.Reason.TheVariants.{TooManyInstances}
use Rattle.definitions.specs.Boolean.{numbering}
use Rattle.expansion.specs.Whole.{variables_bits}
use Rattle.expansion.proofs.Made.{few_places, too_many, all_written, handed}
use Rattle.expansion.proofs.whole.write_file.Goals as goal

pub returns-in_err-or : goal.returns-in_err-or
returns-in_err-or g c = λ s short out fit.
    let a = g.G.Algebra.meaning c.args.accepted.now.alg.now in
    let work = length c.args.work.now in
    let places = length (take (c.min-places.result - 0) c.args.work.now) in
    let p : places ≡ min work 4096 = few_places c.min-places.result c.args.work.now c.min-places.ensures in
    let b = c.args.out.now in
    let d = c.new-draft.ensures.fresh s (omega arith) (omega arith) in
    let h = too_many a s c.new-draft.result.writer work places p b b c.new-draft.result c.write_variables.new.draft c.write_variables.result c.in_err-or.field-0.0 (c.write_variables.ensures s short out fit) d (sym c.or.ensures ∙ c.in_err-or.was) refl in
    let t = err_from_is_err_and c.from_residual.result c.from_residual.ensures.1 in
    rw (t.1 ∙ ap Err t.2) h

pub returns : goal.returns
returns g c = λ s short out fit.
    let a = g.G.Algebra.meaning c.args.accepted.now.alg.now in
    let work = length c.args.work.now in
    let places = length (take (c.min-places.result - 0) c.args.work.now) in
    let p : places ≡ min work 4096 = few_places c.min-places.result c.args.work.now c.min-places.ensures in
    let first = c.new-draft.result.writer in
    let b = c.args.out.now in
    let n = c.hand_over.new.out in
    let d = c.new-draft.ensures.fresh s (omega arith) (omega arith) in
    let w = all_written a s first work places p b n c.new-draft.result c.write_variables.new.draft c.write_variables.result (Refused TooManyInstances) c.in_ok-or.field-0 (c.write_variables.ensures s short out fit) d (sym c.or.ensures ∙ c.in_ok-or.was) in
    let long = ap length c.new-draft.ensures.same in
    handed a s first work places p b n (length first.bytes.now) c.write_variables.new.draft c.hand_over.result (search (rules, long)) w
    (c.hand_over.ensures s first places (numbering a s) (variables_bits a s (numbering a s)) w c.new-draft.ensures.front)
