use Rattle.std.proofs.Common.{Some, refl, ap, ◌∙◌}
use Rattle.passes.specs.Comes.{reached, number}
use Rattle.passes.proofs.Coming.{brings_as, brought_after}
use Rattle.passes.proofs.ComingU.{number_fits, number_brought, start_reached, all_reached}
use Rattle.passes.proofs.unreachable_equations.reached_come.Goals as goal

pub returns-in_err-ok_or : goal.returns-in_err-ok_or
returns-in_err-ok_or g c = λ s short out fit room.
    let a = g.G.Algebra.meaning c.args.accepted.now.alg.now in
    let i = c.args.accepted.now.outline.now.start.equation in
    absurd (number_fits i c.args.list.now c.come.new.self c.come.result c.in_err-ok_or.ensures.ok_part room (ap (λ j. reached s (number j)) out.start ∙ start_reached a s fit) c.come.ensures)

pub returns : goal.returns
returns g c = λ s short out fit room.
    let a = g.G.Algebra.meaning c.args.accepted.now.alg.now in
    let i = c.args.accepted.now.outline.now.start.equation in
    let b = number_brought i c.args.list.now c.come.new.self c.come.result c.in_ok-ok_or.field-0 c.in_ok-ok_or.ensures.ok_part room (ap (λ j. reached s (number j)) out.start ∙ start_reached a s fit) c.come.ensures in
    let h = b.came (number i) refl in
    brings_as (reached s) c.followed.result
    (λ d. all_reached a s fit (h.0, d.kept h.0 (number s.start) (h.1 ∙ ap (λ j. Some (number j)) out.start)) (brought_after (reached s) b d)) (c.followed.ensures s short out fit b.room)
