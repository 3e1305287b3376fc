use Rattle.passes.specs.Comes.{wanted}
use Rattle.passes.proofs.Coming.{brings_as}
use Rattle.passes.proofs.ComingR.{marks_wanted, all_wanted}
use Rattle.passes.proofs.redundant.needed_come.Goals as goal

pub returns-in_err-marked_come : goal.returns-in_err-marked_come
returns-in_err-marked_come g c = λ s short out fit room. absurd (c.in_err-marked_come.ensures s short out (wanted s) room (marks_wanted s))

pub returns : goal.returns
returns g c = λ s short out fit room.
    let b = c.in_ok-marked_come.ensures s short out (wanted s) room (marks_wanted s) in
    brings_as (wanted s) c.rounds_come.result (λ d. all_wanted s b d) (c.rounds_come.ensures s short out fit b.room)
