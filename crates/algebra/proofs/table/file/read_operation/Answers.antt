use Rattle.std.proofs.Common.{◌≡◌, ℕ, ◌+◌, ◌-◌, ◌≤◌, ltb, List, length, get_or, drop, ap, ◌∙◌, arith, length-drop}
use Rattle.faults.specs.declared.Reason.TheVariants.{NoSuchSort, ValueTooLarge}
use Rattle.rows.specs.Listed.{listed}
use Rattle.definitions.specs.Alg.{sized}
use Rattle.definitions.specs.Lists.{each, product}
use Rattle.definitions.specs.Reading.{next, repeated, take_for, below, take as take_field}
use Rattle.definitions.specs.Tables.{TableOp, read_sort}
use Rattle.algebra.proofs.Rows.{take_inv, for_on, row_below, row_below_on}
use Rattle.algebra.proofs.Sounds.{op_read}
use Rattle.algebra.proofs.Stays.{longer, all_from}
use Rattle.algebra.proofs.table.file.read_operation.Goals as goal

pub lists-number-requires-clause-known : goal.lists-number-requires-clause-known
lists-number-requires-clause-known c =
    let n = length c.args.sizes.now in
    ap (λ (x : List ℕ). each (λ s. ltb s n) x) c.as_slice.ensures ∙
    (row_below 4 n NoSuchSort c.field.new.self.bytes.now c.in_ok-arity.arity c.field.new.self.at (listed c.in_ok-sorts.sorts) c.read_sorts.new.cursor.at c.in_ok-sorts.ensures.0).0

pub read_values-requires-clause-ahead : goal.read_values-requires-clause-ahead
read_values-requires-clause-ahead c =
    let n = length c.args.sizes.now in
    let p = c.field.new.self.at in
    let q = c.read_sorts.new.cursor.at in
    let g : p ≡ c.args.cursor.now.at + 2 = (take_inv 2 c.args.cursor.now.bytes.now c.args.cursor.now.at c.in_ok-arity.arity p c.in_ok-arity.ensures.reads.0).0 in
    let h : p ≤ q = row_below_on 4 n NoSuchSort c.field.new.self.bytes.now c.in_ok-arity.arity p (listed c.in_ok-sorts.sorts) q c.in_ok-sorts.ensures.0 in
    let i : q ≤ c.read_sort.new.cursor.at = for_on 4 n NoSuchSort c.read_sorts.new.cursor.bytes.now q c.in_ok-result.result c.read_sort.new.cursor.at c.in_ok-result.ensures.0 in
    omega arith

pub returns-clause-reads : goal.returns-clause-reads
returns-clause-reads c =
    let sizes = c.args.sizes.now in
    let f = c.args.cursor.now.bytes.now in
    let p₁ = c.field.new.self.at in
    let p₂ = c.read_sorts.new.cursor.at in
    let p₃ = c.read_sort.new.cursor.at in
    let p₄ = c.read_values.new.cursor.at in
    let s₁ : c.field.new.self.bytes.now ≡ f = c.in_ok-arity.ensures.reads.1 in
    let s₂ : c.read_sorts.new.cursor.bytes.now ≡ f = c.in_ok-sorts.ensures.1 ∙ s₁ in
    let s₃ : c.read_sort.new.cursor.bytes.now ≡ f = c.in_ok-result.ensures.1 ∙ s₂ in
    let s₄ : c.read_values.new.cursor.bytes.now ≡ f = c.in_ok-read_values.ensures.reads.1 ∙ s₃ in
    let a = c.in_ok-arity.arity in
    let ss = listed c.in_ok-sorts.sorts in
    let res = c.in_ok-result.result in
    let ws = listed c.read_values.new.values in
    let n = length (listed c.args.values.now) in
    let m = product (sized sizes ss) in
    let r = take_for 8 (below (get_or sizes res 0)) ValueTooLarge in
    let e₁ : next a p₁ ≡ take_field 2 f c.args.cursor.now.at = c.in_ok-arity.ensures.reads.0 in
    let e₂ : next ss p₂ ≡ repeated (read_sort sizes) a f p₁ = c.in_ok-sorts.ensures.0 ∙ ap (λ (g : List ℕ). repeated (read_sort sizes) a g p₁) s₁ in
    let e₃ : next res p₃ ≡ read_sort sizes f p₂ = c.in_ok-result.ensures.0 ∙ ap (λ (g : List ℕ). read_sort sizes g p₂) s₂ in
    let number : c.lists-number.result ≡ m = c.lists-number.ensures ∙ ap (λ (l : List ℕ). product (sized sizes l)) c.as_slice.ensures in
    let e₄ : next (drop n ws) p₄ ≡ repeated r m f p₃ =
    c.in_ok-read_values.ensures.reads.0 ∙ ap (λ (g : List ℕ). repeated r c.lists-number.result g p₃) s₃ ∙ ap (λ (k : ℕ). repeated r k f p₃) number in
    let long = (row_below 8 (get_or sizes res 0) ValueTooLarge f m p₃ (drop n ws) p₄ e₄).1 in
    let made : List ℕ → TableOp = λ l. record { args = ss; res = res; values = l } in
    let part = all_from m (length c.as_slice-offset.result.now) n ws (ap (λ (l : List ℕ). length l) c.as_slice-offset.ensures) long in
    (ap (λ (l : List ℕ). next (made l) p₄) part ∙ op_read sizes f c.args.cursor.now.at p₁ p₂ p₃ p₄ a res ss (drop n ws) e₁ e₂ e₃ e₄, s₄)

pub returns-clause-fit : goal.returns-clause-fit
returns-clause-fit c =
    let sizes = c.args.sizes.now in
    let vs = listed c.args.values.now in
    let ws = listed c.read_values.new.values in
    let m = product (sized sizes (listed c.in_ok-sorts.sorts)) in
    let number : c.lists-number.result ≡ m = c.lists-number.ensures ∙ ap (λ (l : List ℕ). product (sized sizes l)) c.as_slice.ensures in
    let long : length (drop (length vs) ws) ≡ c.lists-number.result =
    (row_below 8 (get_or sizes c.in_ok-result.result 0) ValueTooLarge c.read_sort.new.cursor.bytes.now c.lists-number.result c.read_sort.new.cursor.at (drop (length vs) ws) c.read_values.new.cursor.at c.in_ok-read_values.ensures.reads.0).1 in
    let off : length c.as_slice-offset.result.now ≡ length vs = ap (λ (l : List ℕ). length l) c.as_slice-offset.ensures in
    let rest : length (drop (length vs) ws) ≡ length ws - length vs = length-drop (length vs) ws in
    let more : length vs ≤ length ws = longer vs ws c.in_ok-read_values.ensures.before in
    let fits : length c.as_slice-offset.result.now + m ≤ length ws = omega arith in
    (fits, c.in_ok-read_values.ensures.ahead)
