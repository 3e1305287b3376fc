use Rattle.std.proofs.Common.{Some, None, sym, refl, ◌∙◌}
use Rattle.terms.proofs.Fields.{field_came}
use Rattle.system.proofs.Found.{counted_term}
use Rattle.system.proofs.walk.counted.Goals as goal

pub returns-in_err-number-clause-reads : goal.returns-in_err-number-clause-reads
returns-in_err-number-clause-reads g c =
    let a = g.G.Algebra.meaning c.args.alg.now in
    let f = c.args.bytes.now in
    let w = c.args.width in
    let u = c.in_ok-end.end in
    let e = c.in_ok-end.ensures.reads in
    c.from_residual-in_err-number.ensures ∙ sym (counted_term a f w c.args.at u None e (field_came w f u u None (λ l. c.in_err-number.ensures.reads l c.requires) (λ _. refl)))

pub returns-clause-reads : goal.returns-clause-reads
returns-clause-reads g c =
    let a = g.G.Algebra.meaning c.args.alg.now in
    let f = c.args.bytes.now in
    let w = c.args.width in
    let u = c.in_ok-end.end in
    let n = c.in_ok-number.number in
    let v = c.next.new.self.at in
    let e = c.in_ok-end.ensures.reads in
    sym (counted_term a f w c.args.at u (Some (n, v)) e (field_came w f u v (Some n) (λ l. c.in_ok-number.ensures.reads l c.requires) (λ h. c.in_ok-number.ensures.refuses (λ l w. h l))))
