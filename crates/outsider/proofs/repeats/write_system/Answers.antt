use Rattle.std.proofs.Common.{◌≡◌, ◌++◌, List, map, Some, sym, subst, ◌∙◌}
use Rattle.definitions.specs.Lists.{at}
use Rattle.definitions.specs.ReadSystem.{Header}
use Rattle.definitions.specs.Written.{system_bits}
use Rattle.definitions.specs.Fits.{Every, BodyFits}
use Rattle.bits.proofs.Left.{left_first, left_next}
use Rattle.rows.specs.Listed.{listed}
use Rattle.system.specs.declared.outline.Equation.{Equation as Told}
use Rattle.system.specs.Files.{kept_header}
use Rattle.system.specs.Walks.{Pairs}
use Rattle.system.specs.Whole.{kept_headers}
use Rattle.system.proofs.Lists.{at_item}
use Rattle.outsider.specs.Repeats.{without_repeats}
use Rattle.outsider.specs.Pieces.{HeaderThere, EquationThere}
use Rattle.outsider.proofs.Writing.{left_none, left_same, left_last}
use Rattle.outsider.proofs.Bodies.{equations_there}
use Rattle.outsider.proofs.Systems.{heads, bodies_left, start, parts_left, headers_there, heads_made, start_values, start_there, start_made}
use Rattle.outsider.proofs.repeats.write_system.Goals as goal

pub returns-in_err-copy : goal.returns-in_err-copy
returns-in_err-copy g c = λ s short out fit.
    let a = g.G.Algebra.meaning c.args.accepted.now.alg.now in
    let law = g.met.G.Algebra.lawful c.args.accepted.now.alg.now in
    let f = c.args.accepted.now.file.now in
    let o = c.args.accepted.now.outline.now in
    let hs = subst (λ (ts : List Told). Pairs (λ (t : Told). HeaderThere t.header) ts s.equations) (sym c.as_slice-equations.ensures) (headers_there (listed o.equations) s.equations out.headers) in
    let made = heads_made a law f s o out fit c.bits_of_headers.result (c.bits_of_headers.ensures s.equations hs) in
    let l0 = left_same (parts_left a s) (left_first (system_bits (without_repeats a s)) c.args.writer.now) in
    let r = c.from_residual in
    left_none (heads s) (bodies_left s ++ start s) c.copy.new.writer r.result r.ensures.0 l0 (c.in_err-copy.ensures (heads s) short made)

pub returns-in_err-write_bodies : goal.returns-in_err-write_bodies
returns-in_err-write_bodies g c = λ s short out fit.
    let a = g.G.Algebra.meaning c.args.accepted.now.alg.now in
    let law = g.met.G.Algebra.lawful c.args.accepted.now.alg.now in
    let f = c.args.accepted.now.file.now in
    let o = c.args.accepted.now.outline.now in
    let hs = subst (λ (ts : List Told). Pairs (λ (t : Told). HeaderThere t.header) ts s.equations) (sym c.as_slice-equations.ensures) (headers_there (listed o.equations) s.equations out.headers) in
    let made = heads_made a law f s o out fit c.bits_of_headers.result (c.bits_of_headers.ensures s.equations hs) in
    let l0 = left_same (parts_left a s) (left_first (system_bits (without_repeats a s)) c.args.writer.now) in
    let l1 = left_next {rest = bodies_left s ++ start s} (heads s) c.copy.new.writer l0 (c.in_ok-copy.ensures (heads s) short made) in
    let fits = subst (λ (hs : List Header). Every (BodyFits a hs) s.equations) (sym out.headers) fit.bodies in
    let there = equations_there a law (kept_headers o) f (listed o.equations) s.equations out.count fits out.bodies in
    let es = subst (λ (ts : List Told). Pairs (EquationThere a (kept_headers o) f) ts s.equations) (sym c.as_slice-equations.ensures) there in
    let r = c.from_residual-in_err-write_bodies in
    left_none (bodies_left s) (start s) c.write_bodies.new.writer r.result r.ensures.0 l1 (c.in_err-write_bodies.ensures s.equations short es)

pub returns-in_err-start : goal.returns-in_err-start
returns-in_err-start g c = λ s short out fit.
    let a = g.G.Algebra.meaning c.args.accepted.now.alg.now in
    let law = g.met.G.Algebra.lawful c.args.accepted.now.alg.now in
    let f = c.args.accepted.now.file.now in
    let o = c.args.accepted.now.outline.now in
    let x = c.index-equations-number.result in
    let there = o.present in
    let it = subst (λ (ts : List Told). Some (kept_header x.header) ≡ at (map (λ (e : Told). kept_header e.header) ts) o.start.equation) c.as_slice-equations.ensures
    (at_item (λ (e : Told). kept_header e.header) c.as_slice-equations.result.now o.start.equation x (rw c.as_slice-equations.ensures there) c.index-equations-number.is) in
    let same = c.len.ensures.count ∙ start_values a law f s o out fit x it in
    absurd (start_there a law f s o out fit c.len.result same c.before-2.result c.before-2.ensures c.in_err-start.ensures.ok_part)

pub returns : goal.returns
returns g c = λ s short out fit.
    let a = g.G.Algebra.meaning c.args.accepted.now.alg.now in
    let law = g.met.G.Algebra.lawful c.args.accepted.now.alg.now in
    let f = c.args.accepted.now.file.now in
    let o = c.args.accepted.now.outline.now in
    let hs = subst (λ (ts : List Told). Pairs (λ (t : Told). HeaderThere t.header) ts s.equations) (sym c.as_slice-equations.ensures) (headers_there (listed o.equations) s.equations out.headers) in
    let made = heads_made a law f s o out fit c.bits_of_headers.result (c.bits_of_headers.ensures s.equations hs) in
    let l0 = left_same (parts_left a s) (left_first (system_bits (without_repeats a s)) c.args.writer.now) in
    let l1 = left_next {rest = bodies_left s ++ start s} (heads s) c.copy.new.writer l0 (c.in_ok-copy.ensures (heads s) short made) in
    let fits = subst (λ (hs : List Header). Every (BodyFits a hs) s.equations) (sym out.headers) fit.bodies in
    let there = equations_there a law (kept_headers o) f (listed o.equations) s.equations out.count fits out.bodies in
    let es = subst (λ (ts : List Told). Pairs (EquationThere a (kept_headers o) f) ts s.equations) (sym c.as_slice-equations.ensures) there in
    let l2 = left_next {rest = start s} (bodies_left s) c.write_bodies.new.writer l1 (c.in_ok-write_bodies.ensures s.equations short es) in
    let x = c.index-equations-number.result in
    let present = o.present in
    let it = subst (λ (ts : List Told). Some (kept_header x.header) ≡ at (map (λ (e : Told). kept_header e.header) ts) o.start.equation) c.as_slice-equations.ensures
    (at_item (λ (e : Told). kept_header e.header) c.as_slice-equations.result.now o.start.equation x (rw c.as_slice-equations.ensures present) c.index-equations-number.is) in
    let same = c.len.ensures.count ∙ start_values a law f s o out fit x it in
    let y = c.copy-2 in
    left_last (start s) y.new.writer y.result l2 (y.ensures (start s) short (start_made a law f s o out fit c.len.result same c.before-2.result c.before-2.ensures c.in_ok-start.start c.in_ok-start.ensures.ok_part))
