use Rattle.std.proofs.Common.{◌≡◌, ℕ, min, ◌+◌, ◌-◌, ◌*◌, ◌/◌, ◌%◌, ◌<◌, ◌≤◌, List, length, get_or, drop, take, ap, ◌∙◌, arith, rules, length-take-le, length-drop}
use Rattle.std.proofs.lemmas.List.{get_or-take, get_or-drop}
use Rattle.definitions.specs.Bits.{field}
use Rattle.bits.proofs.Fields.{field_byte, field_of_bytes}
use Rattle.bits.proofs.reader.number_of_bytes.Goals as goal

-- the bytes that a field touches are there
part_long : (f : List ℕ) (a b : ℕ) → b ≤ length f → length (take (b - a) (drop a f)) ≡ b - a
part_long f a b h = length-take-le (b - a) (drop a f) (let l : length (drop a f) ≡ length f - a = length-drop a f in omega arith)

pub loop-byte-preserved : goal.loop-byte-preserved
loop-byte-preserved c =
    let f = c.args.bytes.now in
    let a = c.args.at / 8 in
    let b : ℕ = c.div_ceil-last.result in
    let x = c.args.at + c.args.width in
    let e : b ≡ x / 8 + min 1 (x % 8) = c.div_ceil-last.ensures in
    let i = c.loop-byte.byte-index in
    let l = part_long f a b (omega arith) in
    let y : get_or (take (b - a) (drop a f)) i 0 ≡ get_or f (a + i) 0 = get_or-take (b - a) (drop a f) i 0 (omega arith) ∙ get_or-drop a f i 0 in
    let s : get_or f (a + i) 0 < 256 = search rules in
    ap (λ n. c.loop-byte.all * 256 % 18446744073709551616 + n) y ∙ field_byte f a i c.loop-byte.all (omega arith) s c.loop-byte.invariant

pub returns : goal.returns
returns c =
    let f = c.args.bytes.now in
    let a = c.args.at / 8 in
    let b : ℕ = c.div_ceil-last.result in
    let x = c.args.at + c.args.width in
    let e : b ≡ x / 8 + min 1 (x % 8) = c.div_ceil-last.ensures in
    let l = part_long f a b (omega arith) in
    field_of_bytes f c.args.at c.args.width (b - a) (8 * b - x) c.loop-byte.all c.requires.narrow (omega arith) (c.loop-byte.invariant ∙ ap (λ n. field f (8 * a) (8 * n)) (omega (arith, l)))
