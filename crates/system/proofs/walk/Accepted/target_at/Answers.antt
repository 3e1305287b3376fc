use Rattle.std.proofs.Common.{◌≡◌, ◌<◌, ◌≤◌, List, length, get_or, Some, None, sym, refl, ap, ◌∙◌, subst, lit≤}
use Rattle.rows.specs.Listed.{listed}
use Rattle.terms.proofs.Fields.{field_came}
use Rattle.system.specs.declared.outline.Equation.{Equation}
use Rattle.system.specs.Files.{kept_header}
use Rattle.system.specs.Whole.{kept_headers}
use Rattle.system.proofs.Lists.{at_item, at_none}
use Rattle.system.proofs.Found.{target_none, target_found}
use Rattle.system.proofs.walk.Accepted.target_at.Goals as goal

pub returns-in_err-target-clause-reads : goal.returns-in_err-target-clause-reads
returns-in_err-target-clause-reads g c =
    let a = g.G.Algebra.meaning c.args.self.now.alg.now in
    let f = c.args.self.now.file.now in
    let t = c.args.at in
    c.from_residual.ensures ∙ sym (target_none a f (kept_headers c.args.self.now.outline.now) t (field_came 5 f t t None (λ l. c.in_err-target.ensures.reads l (lit≤ tt)) (λ _. refl)))

pub returns-in_err-equation-clause-reads : goal.returns-in_err-equation-clause-reads
returns-in_err-equation-clause-reads g c =
    let a = g.G.Algebra.meaning c.args.self.now.alg.now in
    let f = c.args.self.now.file.now in
    let o = c.args.self.now.outline.now in
    let t = c.args.at in
    let i = c.in_ok-target.target in
    let u = c.next.new.self.at in
    let e = field_came 5 f t u (Some i) (λ l. c.in_ok-target.ensures.reads l (lit≤ tt)) (λ h. c.in_ok-target.ensures.refuses (λ l w. h l)) in
    let h = subst (λ (xs : List Equation). length xs ≤ i) c.as_slice.ensures c.in_err-equation.ensures.lookup.3 in
    c.from_residual-in_err-equation.ensures ∙ sym (target_found a f (kept_headers o) t i u e None (at_none (λ (x : Equation). kept_header x.header) (listed o.equations) i h))

pub returns-clause-reads : goal.returns-clause-reads
returns-clause-reads g c =
    let a = g.G.Algebra.meaning c.args.self.now.alg.now in
    let f = c.args.self.now.file.now in
    let o = c.args.self.now.outline.now in
    let t = c.args.at in
    let i = c.in_ok-target.target in
    let u = c.next.new.self.at in
    let e = field_came 5 f t u (Some i) (λ l. c.in_ok-target.ensures.reads l (lit≤ tt)) (λ h. c.in_ok-target.ensures.refuses (λ l w. h l)) in
    let x = c.in_ok-equation.equation.now in
    let h = subst (λ (xs : List Equation). i < length xs) c.as_slice.ensures c.in_ok-equation.ensures.lookup.3.0 in
    let k = subst (λ (xs : List Equation). x ≡ get_or xs i x) c.as_slice.ensures c.in_ok-equation.ensures.lookup.1 in
    let m = at_item (λ (x : Equation). kept_header x.header) (listed o.equations) i x h k in
    ap (λ n. Some (i, n, u)) c.len.ensures.count ∙ sym (target_found a f (kept_headers o) t i u e (Some (kept_header x.header)) m)
