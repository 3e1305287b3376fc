use Rattle.std.proofs.Common.{rules, ℕ, slice_index_or, Fits, w8, refl, arith}
use Rattle.std.proofs.lemmas.Result.{err_from_is_err_and}
use Rattle.definitions.specs.Written.{system_bits}
use Rattle.bits.specs.Back.{Bytes}
use Rattle.outsider.specs.Repeats.{without_repeats}
use Rattle.outsider.proofs.Files.{system_are, packed_whole, packed_large}
use Rattle.outsider.proofs.repeats.draft.Goals as goal

pub returns-in_err-write_system : goal.returns-in_err-write_system
returns-in_err-write_system g c = λ s small short o k.
    let all = system_bits (without_repeats (g.G.Algebra.meaning c.args.accepted.now.alg.now) s) in
    let t = err_from_is_err_and c.from_residual.result c.from_residual.ensures.1 in
    rw t.1 (packed_large all c.args.buffer.now 0 (c.in_err-write_system.ensures s short o k small) refl)

pub returns : goal.returns
returns g c = λ s small short o k.
    let t = without_repeats (g.G.Algebra.meaning c.args.accepted.now.alg.now) s in
    let buffer = c.args.buffer.now in
    let b : (k : ℕ) → Fits w8 (slice_index_or buffer k 0) = λ k. search rules in
    let bytes : Bytes buffer = λ k. (let h = (b k).fits in omega arith) in
    let whole = packed_whole (system_bits t) buffer c.close.new.self.bytes.now c.close.result bytes (system_are t) (c.in_ok-write_system.ensures s short o k) refl refl c.close.ensures.padded c.close.ensures.count in
    (whole.0, whole.1, search (rules, whole.2))
