use Rattle.std.proofs.Common.{◌≡◌, ℕ, refl, arith}
use Rattle.system.specs.declared.places.OccurrenceAt.{OccurrenceAt}
use Rattle.passes.specs.declared.unreachable_equations.EquationNumber.{EquationNumber}
use Rattle.passes.specs.Comes.{number}
use Rattle.passes.proofs.Coming.{item_at, front_first, front_next, front_end}
use Rattle.passes.proofs.ComingU.{number_fits, number_brought}
use Rattle.passes.proofs.unreachable_equations.targets_come.Goals as goal

abbrev wanted : ℕ → OccurrenceAt → EquationNumber → Type 0
wanted j o x = x ≡ number o.target

pub loop-occurrence-init : goal.loop-occurrence-init
loop-occurrence-init c = λ p room pass. front_first p wanted c.args.occurrences.now c.args.list.now room

pub loop-occurrence-preserved : goal.loop-occurrence-preserved
loop-occurrence-preserved c = λ p room pass.
    let i = c.loop-occurrence.occurrence-index in
    let o = c.occurrence-item.result in
    let here = item_at c.args.occurrences.now i o c.loop-occurrence-test.true c.occurrence-item.is in
    let l = c.loop-occurrence.invariant p room pass in
    front_next p wanted c.args.occurrences.now i o here l
    (number_brought o.target c.loop-occurrence.list c.come.new.self c.come.result c.in_ok-ok_or.field-0 c.in_ok-ok_or.ensures.ok_part l.room (pass (number o.target) (i, o, here, refl)) c.come.ensures)

pub returns-in_err-ok_or : goal.returns-in_err-ok_or
returns-in_err-ok_or c = λ p room pass.
    let i = c.loop-occurrence.occurrence-index in
    let o = c.occurrence-item.result in
    let here = item_at c.args.occurrences.now i o c.loop-occurrence-test.true c.occurrence-item.is in
    absurd (number_fits o.target c.loop-occurrence.list c.come.new.self c.come.result c.in_err-ok_or.ensures.ok_part (c.loop-occurrence.invariant p room pass).room (pass (number o.target) (i, o, here, refl)) c.come.ensures)

pub returns : goal.returns
returns c = λ p room pass. front_end p wanted c.args.occurrences.now c.loop-occurrence.occurrence-index (omega arith) (λ x w. w) (c.loop-occurrence.invariant p room pass)
