use Rattle.std.proofs.Common.{◌≡◌, ℕ, List, map, sym, ap, ◌∙◌, subst, arith}
use Rattle.definitions.specs.Lists.{flat, strike, place}
use Rattle.definitions.specs.Bits.{bits}
use Rattle.definitions.specs.Written.{term_bits, occurrence_bits}
use Rattle.bits.specs.Writes.{Wrote, NoRoom, Writes}
use Rattle.bits.proofs.Left.{left_first, left_next}
use Rattle.rows.specs.Listed.{listed}
use Rattle.system.specs.Walks.{Pairs}
use Rattle.passes.specs.Planned.{mask, remaining, change_of, term_by, occurrence_by}
use Rattle.passes.specs.Rewrites.{TermAt}
use Rattle.passes.proofs.TermBits.{left_last}
use Rattle.theorems.proofs.Refit.{place_low}
use Rattle.passes.proofs.Masks.{left_none}
use Rattle.passes.proofs.Places.{terms_there}
use Rattle.passes.proofs.written.Edit.write_occurrence.Goals as goal

pub returns-in_err-put : goal.returns-in_err-put
returns-in_err-put g c = λ o vs q n s f.
    let P = c.args.self.now.plan.now in
    let F = term_by (g.G.Algebra.meaning c.args.self.now.accepted.now.alg.now) P c.args.self.now.sorts.now c.args.self.now.change.now in
    let w = c.args.writer.now in
    let t = c.args.occurrence.now.target in
    let few = c.args.occurrence.now.present in
    let least = place_low (remaining P) t in
    let number : c.number_of.result ≡ place (remaining P) t = c.number_of.ensures in
    let same : c.number_of.result ≡ place (remaining P) o.target = number ∙ ap (place (remaining P)) f.target in
    let r = c.from_residual in
    left_none (bits 5 (place (remaining P) o.target)) (flat (map term_bits (map F (strike (mask (change_of P o.target)) o.arguments)))) c.put.new.self r.result r.ensures.0 (left_first (occurrence_bits (occurrence_by P F o)) w)
    (subst (λ (k : ℕ). NoRoom (bits 5 k) w) same (c.in_err-put.ensures.writes (omega arith) (omega arith)))

pub returns : goal.returns
returns g c = λ o vs q n s f.
    let a = g.G.Algebra.meaning c.args.self.now.accepted.now.alg.now in
    let P = c.args.self.now.plan.now in
    let F = term_by a P c.args.self.now.sorts.now c.args.self.now.change.now in
    let R = TermAt a (record { parameters = c.args.self.now.sorts.now; variables = vs }) c.args.self.now.accepted.now.file.now in
    let w = c.args.writer.now in
    let t = c.args.occurrence.now.target in
    let few = c.args.occurrence.now.present in
    let least = place_low (remaining P) t in
    let number : c.number_of.result ≡ place (remaining P) t = c.number_of.ensures in
    let same : c.number_of.result ≡ place (remaining P) o.target = number ∙ ap (place (remaining P)) f.target in
    let rest = λ (k : ℕ). flat (map term_bits (map F (strike (mask (change_of P k)) o.arguments))) in
    let l = left_next {rest = rest o.target} (bits 5 (place (remaining P) o.target)) c.put.new.self (left_first (occurrence_bits (occurrence_by P F o)) w)
    (subst (λ (k : ℕ). Wrote (bits 5 k) w c.put.new.self) same (c.in_ok-put.ensures.writes (omega arith) (omega arith))) in
    let there = subst (λ (ps : List ℕ). Pairs R ps o.arguments) (sym c.as_slice.ensures) (terms_there a (record { parameters = c.args.self.now.sorts.now; variables = vs }) c.args.self.now.accepted.now.file.now s.header.sorts (listed c.args.occurrence.now.arguments) o.arguments s.fit f.count f.arguments) in
    let x = c.write_arguments in
    left_last (rest o.target) x.new.writer x.result l (subst (λ (k : ℕ). Writes (rest k) c.put.new.self x.new.writer x.result) f.target (x.ensures o.arguments vs n there))
