use Rattle.std.proofs.Common.{ℕ, ◌-◌, ◌*◌, ◌/◌, ◌%◌, ◌^◌, ◌<◌, get_or, set, sym, ◌∙◌, subst, ap₂, arith, rules}
use Rattle.bits.proofs.Fields.{weight}
use Rattle.bits.proofs.Puts.{with_bits, with_bits_small, put_in}
use Rattle.bits.proofs.writer.put_part.Goals as goal

pub overflow_cast-bytes : goal.overflow_cast-bytes
overflow_cast-bytes c =
    let p = c.args.at in
    let k = c.args.count in
    let x = get_or c.args.bytes.now (p / 8) 0 in
    let small : x < 256 = search rules in
    let h = weight (8 - p % 8) (omega arith) in
    let l = weight (8 - p % 8 - k) (omega arith) in
    let raw : ℕ → ℕ = λ n. (1 * 2 ^ n) % 2 ^ 32 in
    let v = c.args.value in
    record { fits = subst (λ (m : ℕ). with_bits x m (raw (8 - p % 8 - k)) v < 256) (sym h) (subst (λ (n : ℕ). with_bits x (2 ^ (8 - p % 8)) n v < 256) (sym l) (with_bits_small x (8 - p % 8) (8 - p % 8 - k) k v small (omega arith) (omega arith) c.requires.fits)) }

pub returns : goal.returns
returns c =
    let f = c.args.bytes.now in
    let p = c.args.at in
    let k = c.args.count in
    let h = weight (8 - p % 8) (omega arith) in
    let l = weight (8 - p % 8 - k) (omega arith) in
    ap₂ (λ (m n : ℕ). set f (p / 8) (with_bits (get_or f (p / 8) 0) m n c.args.value)) h l ∙ sym (put_in f p k c.args.value c.requires.one_byte c.requires.fits c.requires.inside)
