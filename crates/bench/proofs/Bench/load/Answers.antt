use Rattle.std.proofs.Common.{◌≡◌, Ok, Err, length, take, sym, ap, ◌∙◌, subst, arith}
use Rattle.std.proofs.lemmas.Result.{err_from_is_err_and}
use Rattle.definitions.specs.Calls.{Bytes}
use Rattle.bench.specs.Holds.{holding}
use Rattle.bench.proofs.Tails.{zeros, tail_zero, seam_front, seam_rest}
use Rattle.system.proofs.Outlines.{got_short}
use Rattle.bench.proofs.Held.{are_bytes, each_byte, declined_load, load_follows}
use Rattle.bench.proofs.Bench.load.Goals as goal

pub returns-in_err-read-clause-history : goal.returns-in_err-read-clause-history
returns-in_err-read-clause-history g c =
    let m = g.G.Algebra.meaning c.args.alg.now in
    let h = holding c.args.self.now in
    load_follows m c.args.file.now h h c.from_residual.result (λ i. let t = c.type_inv.file i in omega arith)
    (declined_load m c.args.file.now h c.from_residual.result _ c.in_err-read.ensures
    (let t = err_from_is_err_and c.from_residual.result c.from_residual.ensures.1 in t.1 ∙ ap Err t.2))

pub invariant_of-self : goal.invariant_of-self
invariant_of-self g c =
    let d = c.in_ok-read.ensures in
    let n : c.unwrap-len.result ≡ length c.args.file.now = rw c.unwrap-len.ensures at c.deliver.ensures.count in
    let e = rw c.unwrap-len.ensures at c.deliver.ensures.delivered in
    record {
      bound = omega (arith, n, got_short (g.G.Algebra.meaning c.args.alg.now) c.args.file.now d.0 d.1.0);
      small = each_byte _ (subst Bytes (sym (ap (λ m. take m c.deliver.new.out) n ∙ seam_front c.args.file.now _ c.deliver.new.out e)) (are_bytes c.args.file.now (λ i. let t = c.type_inv.file i in omega arith)));
      zeros = λ k h. tail_zero (length c.args.file.now) c.deliver.new.out _ (seam_rest c.args.file.now _ _ e) (zeros 8192) k (omega (arith, n, h));
    }

pub returns-clause-history : goal.returns-clause-history
returns-clause-history g c =
    let d = c.in_ok-read.ensures in
    let n : c.unwrap-len.result ≡ length c.args.file.now = rw c.unwrap-len.ensures at c.deliver.ensures.count in
    let e = rw c.unwrap-len.ensures at c.deliver.ensures.delivered in
    load_follows (g.G.Algebra.meaning c.args.alg.now) c.args.file.now (holding c.args.self.now) _ (Ok tt) (λ i. let t = c.type_inv.file i in omega arith)
    (record { system = d.0; read = d.1.0; holds = ap (λ m. take m c.deliver.new.out) n ∙ seam_front c.args.file.now _ c.deliver.new.out e })
