use Rattle.std.proofs.Common.{◌≡◌, ℕ, ◌<◌, List, ◌++◌, sym, refl, ap, ◌∙◌, subst, arith}
use Rattle.definitions.specs.Alg.{Alg}
use Rattle.definitions.specs.Bits.{bits}
use Rattle.definitions.specs.Systems.{value as value_kind, Equation}
use Rattle.definitions.specs.ReadSystem.{Header}
use Rattle.definitions.specs.Written.{kind_bits, body_bits}
use Rattle.definitions.specs.Fits.{SortFits, header_of}
use Rattle.bits.proofs.Left.{left_first, left_next}
use Rattle.passes.specs.declared.plan.EquationChange.{EquationChange}
use Rattle.passes.specs.declared.plan.EquationChange.TheVariants.{Stays, Bare}
use Rattle.passes.specs.declared.plan.Change.{Change}
use Rattle.passes.specs.declared.plan.Plan.{Plan}
use Rattle.passes.specs.Planned.{equation_by, body_left, Narrow}
use Rattle.passes.proofs.TermBits.{left_last}
use Rattle.theorems.proofs.Listing.{every_with}
use Rattle.passes.proofs.Masks.{writes_same}
use Rattle.passes.proofs.rewrite.write_changed.Goals as goal

abbrev bare_bits : List ℕ
bare_bits = kind_bits (value_kind 0 0) ++ bits 4 0

bare_left : (a : Alg) (P : Plan) (c : Change) (e : Equation) → c.equation ≡ Bare → body_left a P c e ≡ bare_bits
bare_left a P c e s = ap (λ (x : EquationChange). body_left a P (record { equation = x; parameters = c.parameters }) e) s

whole_left : (a : Alg) (P : Plan) (c : Change) (e : Equation) → c.equation ≡ Stays → body_left a P c e ≡ body_bits (equation_by a P c e)
whole_left a P c e s = let by : EquationChange → Change = λ x. record { equation = x; parameters = c.parameters } in ap (λ (x : EquationChange). body_left a P (by x) e) s ∙ sym (ap (λ (x : EquationChange). body_bits (equation_by a P (by x) e)) s)

pub returns-in_ok-write_value-in-Bare : goal.returns-in_ok-write_value-in-Bare
returns-in_ok-write_value-in-Bare g c = λ e q short headers head fit read.
    let a = g.G.Algebra.meaning c.args.accepted.now.alg.now in
    let w = c.args.writer.now in
    let l1 = left_next {rest = bits 4 0} (kind_bits (value_kind 0 0)) c.write_value.new.writer (left_first bare_bits w) (c.in_ok-write_value-in-Bare.ensures (omega arith)) in
    writes_same w c.put.new.self c.put.result (sym (bare_left a c.args.plan.now c.args.change.now e c.in-Bare.is)) (left_last (bits 4 0) c.put.new.self c.put.result l1 (c.put.ensures.writes (omega arith) (omega arith)))

pub returns-in-Stays : goal.returns-in-Stays
returns-in-Stays g c = λ e q short headers head fit read.
    let a = g.G.Algebra.meaning c.args.accepted.now.alg.now in
    let x = c.write_body in
    let same : e.sorts ≡ c.as_slice-sorts.result.now = ap (λ (h : Header). h.sorts) headers ∙ sym c.as_slice-sorts.ensures in
    let few = head.few in
    let narrow : Narrow e.sorts = record { few = omega arith; small = every_with (SortFits a) (λ n. n < 16) e.sorts head.sorts (λ n p. p.0) } in
    writes_same c.args.writer.now x.new.writer x.result (sym (whole_left a c.args.plan.now c.args.change.now e c.in-Stays.is)) (x.ensures e (header_of e) q short (subst Narrow same narrow) same refl fit read c.in-Stays.is)
