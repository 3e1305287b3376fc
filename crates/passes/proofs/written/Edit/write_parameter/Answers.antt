use Rattle.std.proofs.Common.{◌≡◌, ℕ, ◌<◌, ◌≤◌, length, Some, Bor, slice_index, slice_index_or, rules, arith, ap, sym, ◌∙◌, subst}
use Rattle.std.proofs.lemmas.List.{length-map}
use Rattle.std.specs.Option.{option_map, unwrap_or}
use Rattle.definitions.specs.Bits.{bits}
use Rattle.definitions.specs.Lists.{place}
use Rattle.definitions.specs.Systems.{Kind, parameter, value}
use Rattle.definitions.specs.Written.{kind_bits}
use Rattle.algebra.specs.Lists.{at_in, every_at}
use Rattle.bits.specs.Writes.{Writes}
use Rattle.bits.proofs.Left.{left_first, left_next}
use Rattle.passes.specs.declared.plan.ParameterChange.{ParameterChange}
use Rattle.passes.specs.declared.plan.ParameterChange.TheVariants.{Goes}
use Rattle.passes.specs.Planned.{stays, mask}
use Rattle.passes.proofs.TermBits.{left_last}
use Rattle.passes.proofs.Numbering.{place_few, kind_becomes, kind_numbered}
use Rattle.passes.proofs.written.Edit.write_parameter.Goals as goal

pub returns-in_ok-ok_or-in-Becomes : goal.returns-in_ok-ok_or-in-Becomes
returns-in_ok-ok_or-in-Becomes g c = λ narrow within.
    let change = c.args.self.now.change.now in
    let ss = c.args.self.now.sorts.now in
    let n = c.args.n in
    let v = c.in-Becomes.value in
    let got : c.get.result ≡ Some c.in_ok-value.field-0 = search rules in
    let is : slice_index_or change.parameters n Goes ≡ c.in_ok-value.field-0.now = sym (c.get.ensures.lookup.4 (omega arith) Goes) ∙ ap (λ (o : _). unwrap_or (option_map (λ (x : Bor ParameterChange). x.now) o) Goes) got in
    let kind = kind_becomes ss change n v (is ∙ c.in-Becomes.is) in
    let found : c.get-in-Becomes.result ≡ Some c.in_ok-ok_or-in-Becomes.field-0 = search rules in
    let sort : slice_index ss n ≡ c.in_ok-ok_or-in-Becomes.field-0.now = sym (c.get-in-Becomes.ensures.lookup.4 (omega arith) 0) ∙ ap (λ (o : _). unwrap_or (option_map (λ (x : Bor ℕ). x.now) o) 0) found in
    let small : slice_index ss n < 16 = every_at (λ s. s < 16) ss n (slice_index ss n) narrow.small (at_in ss n 0 within) in
    subst (λ (k : Kind). Writes (kind_bits k) c.args.writer.now c.write_value.new.writer c.write_value.result) (sym (kind ∙ ap (λ s. value s v) sort)) (c.write_value.ensures (subst (λ (s : ℕ). s < 16) sort small))

pub returns-in_ok-put-in_default : goal.returns-in_ok-put-in_default
returns-in_ok-put-in_default g c = λ narrow within.
    let change = c.args.self.now.change.now in
    let ss = c.args.self.now.sorts.now in
    let n = c.args.n in
    let m = c.number_of.result in
    let long : length change.parameters ≡ 15 = search rules in
    let got : c.get.result ≡ Some c.in_ok-value.field-0 = search rules in
    let is : slice_index_or change.parameters n Goes ≡ c.in_ok-value.field-0.now = sym (c.get.ensures.lookup.4 (omega arith) Goes) ∙ ap (λ (o : _). unwrap_or (option_map (λ (x : Bor ParameterChange). x.now) o) Goes) got in
    let kind = kind_numbered ss change n c.in_ok-value.field-0.now is c.in_default.not-Becomes in
    let few : place (mask change) n ≤ 15 = subst (λ (k : ℕ). place (mask change) n ≤ k) (length-map change.parameters stays ∙ long) (place_few (mask change) n) in
    let small : m < 16 = omega (arith, c.number_of.ensures) in
    let l = left_next {rest = bits 4 m} (bits 3 0) c.put.new.self (left_first (kind_bits (parameter m)) c.args.writer.now) (c.in_ok-put-in_default.ensures.writes (omega arith) (omega arith)) in
    let w = left_last (bits 4 m) c.put-in_default.new.self c.put-in_default.result l (c.put-in_default.ensures.writes (omega arith) small) in
    subst (λ (k : Kind). Writes (kind_bits k) c.args.writer.now c.put-in_default.new.self c.put-in_default.result) (sym (kind ∙ ap parameter (sym c.number_of.ensures))) w
