use Rattle.std.proofs.Common.{rules, tests, ◌≡◌, ℕ, ◌<◌, List, ◌++◌, map, length, sym, ap, ◌∙◌, subst, arith}
use Rattle.std.proofs.lemmas.List.{append-nil, length-map}
use denote.Enum.Declared.{tag_of}
use Rattle.definitions.specs.Lists.{flat, strike, place}
use Rattle.definitions.specs.Alg.{Alg}
use Rattle.definitions.specs.Bits.{bits}
use Rattle.definitions.specs.Systems.{Quantified}
use Rattle.definitions.specs.ReadSystem.{Header}
use Rattle.definitions.specs.Written.{sign_bits}
use Rattle.definitions.specs.Fits.{Every, SortFits, HeaderFits}
use Rattle.bits.specs.declared.writer.BitWriter.{BitWriter}
use Rattle.bits.specs.Writes.{Wrote, NoRoom, Writes, Left}
use Rattle.bits.proofs.Left.{left_first, left_next}
use Rattle.rows.specs.Listed.{listed}
use Rattle.system.specs.declared.header.Header.{Header as Kept}
use Rattle.system.specs.declared.header.Quantified.{Quantified as KeptQuantified}
use Rattle.system.specs.contracts.header.Sign.{the_type}
use Rattle.system.specs.Files.{kept_sign, kept_header, kept_quantified}
use Rattle.passes.specs.declared.plan.EquationChange.TheVariants.{Bare}
use Rattle.passes.specs.declared.plan.Change.{Change}
use Rattle.passes.specs.Planned.{mask}
use Rattle.passes.specs.Rewrites.{quantified_bits}
use Rattle.passes.proofs.TermBits.{left_last}
use Rattle.theorems.proofs.Refit.{place_low}
use Rattle.theorems.proofs.Listing.{every_with}
use Rattle.passes.proofs.Numbering.{struck_long}
use Rattle.passes.proofs.Masks.{left_none, left_same, wrote_same, writes_same}
use Rattle.passes.proofs.Heads.{sign_bit, sign_small, variables_bits, sorts_bits, head_bits, headed, is_bare, all_variables}
use Rattle.passes.proofs.rewrite.write_header.Goals as goal

-- how many sorts there are, and what is behind that
abbrev counted : Header → Change → List ℕ
counted h c = bits 4 (length (strike (mask c) h.sorts))

abbrev behind : Header → Change → List ℕ
behind h c = sorts_bits h c ++ variables_bits c.equation h.quantified

signed : (h : Kept) (c : Change) {old : BitWriter} (new : BitWriter) → Wrote (bits 1 (tag_of the_type h.sign)) old new → Left (head_bits (kept_header h) c) (counted (kept_header h) c ++ behind (kept_header h) c) old new
signed h c {old = old} new w = left_next (sign_bits (kept_sign h.sign)) new (left_first (head_bits (kept_header h) c) old) (wrote_same (sign_bit h.sign) w)

number : (h : Header) (c : Change) (m n : ℕ) → n ≡ place (mask c) m → m ≡ length h.sorts → n ≡ length (strike (mask c) h.sorts)
number h c m n e d = e ∙ ap (place (mask c)) d ∙ sym (struck_long (mask c) h.sorts)

number_small : (h : Header) (c : Change) (m n : ℕ) → n ≡ place (mask c) m → m ≡ length h.sorts → length h.sorts < 16 → n < 16
number_small h c m n e d s = let l = place_low (mask c) m in omega arith

narrow : (a : Alg) (h : Header) → HeaderFits a h → Every (λ n. n < 16) h.sorts
narrow a h k = every_with (SortFits a) (λ n. n < 16) h.sorts k.sorts (λ n p. p.0)

pub returns-in_err-put : goal.returns-in_err-put
returns-in_err-put c = λ a P e s k.
    let h = c.args.header.now in
    let ch = c.args.change.now in
    let all = headed a P ch e ∙ ap (λ (x : Header). head_bits x ch) s in
    writes_same c.args.writer.now c.put.new.self c.from_residual.result (sym all)
    (left_none (sign_bits (kept_sign h.sign)) (counted (kept_header h) ch ++ behind (kept_header h) ch) c.put.new.self c.from_residual.result c.from_residual.ensures.0 (left_first (head_bits (kept_header h) ch) c.args.writer.now)
    (subst (λ (bs : List ℕ). NoRoom bs c.args.writer.now) (sign_bit h.sign) (c.in_err-put.ensures.writes (omega arith) (sign_small h.sign))))

pub returns-in_err-put-2 : goal.returns-in_err-put-2
returns-in_err-put-2 c = λ a P e s k.
    let h = c.args.header.now in
    let ch = c.args.change.now in
    let all = headed a P ch e ∙ ap (λ (x : Header). head_bits x ch) s in
    let n = c.number_of.result in
    let m = c.len.result in
    let l1 = signed h ch c.put.new.self (c.in_ok-put.ensures.writes (omega arith) (sign_small h.sign)) in
    let r = c.from_residual-in_err-put-2 in
    writes_same c.args.writer.now c.put-2.new.self r.result (sym all)
    (left_none (counted (kept_header h) ch) (behind (kept_header h) ch) c.put-2.new.self r.result r.ensures.0 l1
    (subst (λ (k : ℕ). NoRoom (bits 4 k) c.put.new.self) (number (kept_header h) ch m n c.number_of.ensures c.len.ensures.count) (c.in_err-put-2.ensures.writes (omega arith) (number_small (kept_header h) ch m n c.number_of.ensures c.len.ensures.count k.few))))

numbered : (h : Kept) (c : Change) (m n : ℕ) {old now : BitWriter} (new : BitWriter) → n ≡ place (mask c) m → m ≡ length (listed h.sorts) → Left (head_bits (kept_header h) c) (counted (kept_header h) c ++ behind (kept_header h) c) old now →
    Wrote (bits 4 n) now new → Left (head_bits (kept_header h) c) (behind (kept_header h) c) old new
numbered h c m n {now = now} new e d l w = left_next (counted (kept_header h) c) new l (subst (λ (k : ℕ). Wrote (bits 4 k) now new) (number (kept_header h) c m n e d) w)

pub returns-in_err-write_staying : goal.returns-in_err-write_staying
returns-in_err-write_staying c = λ a P e s k.
    let h = c.args.header.now in
    let ch = c.args.change.now in
    let all = headed a P ch e ∙ ap (λ (x : Header). head_bits x ch) s in
    let n = c.number_of.result in
    let m = c.len.result in
    let few = number_small (kept_header h) ch m n c.number_of.ensures c.len.ensures.count k.few in
    let l1 = signed h ch c.put.new.self (c.in_ok-put.ensures.writes (omega arith) (sign_small h.sign)) in
    let l2 = numbered h ch m n c.put-2.new.self c.number_of.ensures c.len.ensures.count l1 (c.in_ok-put-2.ensures.writes (omega arith) few) in
    let r = c.from_residual-in_err-write_staying in
    writes_same c.args.writer.now c.write_staying.new.writer r.result (sym all)
    (left_none (sorts_bits (kept_header h) ch) (variables_bits ch.equation (kept_header h).quantified) c.write_staying.new.writer r.result r.ensures.0 l2
    (subst (λ (ns : List ℕ). Every (λ n. n < 16) ns → NoRoom (flat (map (bits 4) (strike (mask ch) ns))) c.put-2.new.self) c.as_slice.ensures (c.in_err-write_staying.ensures (omega arith)) (narrow a (kept_header h) k)))

pub returns-then-eq : goal.returns-then-eq
returns-then-eq c = λ a P e s k.
    let h = c.args.header.now in
    let ch = c.args.change.now in
    let all = headed a P ch e ∙ ap (λ (x : Header). head_bits x ch) s in
    let n = c.number_of.result in
    let m = c.len.result in
    let few = number_small (kept_header h) ch m n c.number_of.ensures c.len.ensures.count k.few in
    let l1 = signed h ch c.put.new.self (c.in_ok-put.ensures.writes (omega arith) (sign_small h.sign)) in
    let l2 = numbered h ch m n c.put-2.new.self c.number_of.ensures c.len.ensures.count l1 (c.in_ok-put-2.ensures.writes (omega arith) few) in
    let l3 = left_next {rest = variables_bits ch.equation (kept_header h).quantified} (sorts_bits (kept_header h) ch) c.write_staying.new.writer l2
    (subst (λ (ns : List ℕ). Every (λ n. n < 16) ns → Wrote (flat (map (bits 4) (strike (mask ch) ns))) c.put-2.new.self c.write_staying.new.writer) c.as_slice.ensures (c.in_ok-write_staying.ensures (omega arith)) (narrow a (kept_header h) k)) in
    let bare : ch.equation ≡ Bare = is_bare c.eq.result ch.equation (search (rules, tests)) c.if-eq.true in
    let l4 = left_same (ap (λ x. variables_bits x (kept_header h).quantified) bare) l3 in
    writes_same c.args.writer.now c.put-then-eq.new.self c.put-then-eq.result (sym all)
    (left_last (bits 2 0) c.put-then-eq.new.self c.put-then-eq.result (left_same (append-nil (bits 2 0)) l4) (c.put-then-eq.ensures.writes (omega arith) (omega arith)))

pub returns-in_err-put-3 : goal.returns-in_err-put-3
returns-in_err-put-3 c = λ a P e s k.
    let h = c.args.header.now in
    let ch = c.args.change.now in
    let all = headed a P ch e ∙ ap (λ (x : Header). head_bits x ch) s in
    let n = c.number_of.result in
    let m = c.len.result in
    let few = number_small (kept_header h) ch m n c.number_of.ensures c.len.ensures.count k.few in
    let l1 = signed h ch c.put.new.self (c.in_ok-put.ensures.writes (omega arith) (sign_small h.sign)) in
    let l2 = numbered h ch m n c.put-2.new.self c.number_of.ensures c.len.ensures.count l1 (c.in_ok-put-2.ensures.writes (omega arith) few) in
    let l3 = left_next {rest = variables_bits ch.equation (kept_header h).quantified} (sorts_bits (kept_header h) ch) c.write_staying.new.writer l2
    (subst (λ (ns : List ℕ). Every (λ n. n < 16) ns → Wrote (flat (map (bits 4) (strike (mask ch) ns))) c.put-2.new.self c.write_staying.new.writer) c.as_slice.ensures (c.in_ok-write_staying.ensures (omega arith)) (narrow a (kept_header h) k)) in
    let vs = map kept_quantified (listed h.quantified) in
    let full : variables_bits ch.equation vs ≡ bits 2 (length vs) ++ flat (map quantified_bits vs) = all_variables c.eq.result ch.equation vs (search (rules, tests)) c.if-eq.false in
    let l4 = left_same full l3 in
    let m2 : c.len-2.result ≡ length vs = c.len-2.ensures.count ∙ sym (length-map (listed h.quantified) kept_quantified) in
    let few2 = k.few_quantified in
    let r = c.from_residual-in_err-put-3 in
    writes_same c.args.writer.now c.put-3.new.self r.result (sym all)
    (left_none (bits 2 (length vs)) (flat (map quantified_bits vs)) c.put-3.new.self r.result r.ensures.0 l4
    (subst (λ (k : ℕ). NoRoom (bits 2 k) c.write_staying.new.writer) m2 (c.in_err-put-3.ensures.writes (omega arith) (omega arith))))

pub returns : goal.returns
returns c = λ a P e s k.
    let h = c.args.header.now in
    let ch = c.args.change.now in
    let all = headed a P ch e ∙ ap (λ (x : Header). head_bits x ch) s in
    let n = c.number_of.result in
    let m = c.len.result in
    let few = number_small (kept_header h) ch m n c.number_of.ensures c.len.ensures.count k.few in
    let l1 = signed h ch c.put.new.self (c.in_ok-put.ensures.writes (omega arith) (sign_small h.sign)) in
    let l2 = numbered h ch m n c.put-2.new.self c.number_of.ensures c.len.ensures.count l1 (c.in_ok-put-2.ensures.writes (omega arith) few) in
    let l3 = left_next {rest = variables_bits ch.equation (kept_header h).quantified} (sorts_bits (kept_header h) ch) c.write_staying.new.writer l2
    (subst (λ (ns : List ℕ). Every (λ n. n < 16) ns → Wrote (flat (map (bits 4) (strike (mask ch) ns))) c.put-2.new.self c.write_staying.new.writer) c.as_slice.ensures (c.in_ok-write_staying.ensures (omega arith)) (narrow a (kept_header h) k)) in
    let vs = map kept_quantified (listed h.quantified) in
    let full : variables_bits ch.equation vs ≡ bits 2 (length vs) ++ flat (map quantified_bits vs) = all_variables c.eq.result ch.equation vs (search (rules, tests)) c.if-eq.false in
    let l4 = left_same full l3 in
    let m2 : c.len-2.result ≡ length vs = c.len-2.ensures.count ∙ sym (length-map (listed h.quantified) kept_quantified) in
    let few2 = k.few_quantified in
    let l5 = left_next {rest = flat (map quantified_bits vs)} (bits 2 (length vs)) c.put-3.new.self l4 (subst (λ (k : ℕ). Wrote (bits 2 k) c.write_staying.new.writer c.put-3.new.self) m2 (c.in_ok-put-3.ensures.writes (omega arith) (omega arith))) in
    let small = every_with (λ (q : Quantified). SortFits a q.sort) (λ (q : Quantified). q.sort < 16) vs k.quantified (λ q p. p.0) in
    let w = c.write_variables in
    writes_same c.args.writer.now w.new.writer w.result (sym all)
    (left_last (flat (map quantified_bits vs)) w.new.writer w.result l5
    (subst (λ (qs : List KeptQuantified). Every (λ (q : Quantified). q.sort < 16) (map kept_quantified qs) → Writes (flat (map quantified_bits (map kept_quantified qs))) c.put-3.new.self w.new.writer w.result) c.as_slice-2.ensures w.ensures small))
