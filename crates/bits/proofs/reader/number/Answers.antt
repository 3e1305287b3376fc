use Rattle.std.proofs.Common.{◌≡◌, ℕ, ◌+◌, ◌-◌, ◌/◌, ◌%◌, ◌<◌, get_or, drop, ap, ◌∙◌, arith, rules}
use Rattle.std.proofs.lemmas.List.{take_rest, get_or-take, get_or-drop}
use Rattle.bits.proofs.Fields.{four_bytes, field_of_bytes}
use Rattle.bits.proofs.reader.number.Goals as goal

pub returns-in-Some : goal.returns-in-Some
returns-in-Some c =
    let f = c.args.bytes.now in
    let a = c.args.at / 8 in
    let four = c.in-Some.four.now in
    let small : (k : ℕ) → get_or f k 0 < 256 = λ k. search rules in
    let same : (i : ℕ) → i < 4 → get_or four i 0 ≡ get_or f (a + i) 0 = λ i h. ap (λ bs. get_or bs i 0) (rw take_rest at c.in-Some.ensures.cases.same) ∙ get_or-take 4 (drop a f) i 0 h ∙ get_or-drop a f i 0 in
    field_of_bytes f c.args.at c.args.width 4 (32 - c.args.at % 8 - c.args.width) c.from_be_bytes-all.result c.requires.narrow (omega arith) (c.from_be_bytes-all.ensures ∙ four_bytes f four a small same)
