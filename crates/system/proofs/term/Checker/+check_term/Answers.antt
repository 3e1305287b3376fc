use Rattle.std.proofs.Common.{◌≡◌, ℕ, ◌-◌, Some, None, Ok, refl, ap, ◌∙◌, subst, arith}
use Rattle.definitions.specs.Lists.{up_to}
use Rattle.definitions.specs.Reading.{next, stop}
use Rattle.definitions.specs.ReadSystem.{read_value, read_operation, read_term, scope}
use Rattle.system.specs.Steps.{sorts, sort_only, placed, read_name, operated}
use Rattle.system.proofs.Rows.{stopped, handed, placed_sorts, skipped_next, skipped_stop, skipped_end, at_up_to, length_from}
use Rattle.system.proofs.Behind.{opened, named_parameter, named_variable, unsuited, truths, no_left, right, operation_done}
use Rattle.system.specs.Files.{kept_header}
use Rattle.system.proofs.term.Checker.+check_term.Goals as goal

pub returns-in-0 : goal.returns-in-0
returns-in-0 g t c =
    let a = g.G.Algebra.meaning c.args.self.now.alg.now in
    let s = scope (kept_header c.args.self.now.header.now) in
    let f = c.args.cursor.now.bytes.now in
    let d = c.args.depth in
    let p = c.args.cursor.now.at in
    let n = c.args.need in
    let m = c.field.new.self in
    let part = read_term a s (d - 1) in
    handed (λ s. s) (read_name s.parameters 4 p n) (sort_only (read_term a s d n)) c.args.cursor.now m c.check_parameter.new.cursor c.check_parameter.result c.in_ok-kind.ensures.reads.1 c.check_parameter.ensures
    (named_parameter a s part p n f m.at ∙ opened a s d n f p c.in_ok-kind.kind m.at 0 c.if-depth-eq0.false c.in_ok-kind.ensures.reads.0 c.in-0.is)

pub returns-in-1 : goal.returns-in-1
returns-in-1 g t c =
    let a = g.G.Algebra.meaning c.args.self.now.alg.now in
    let s = scope (kept_header c.args.self.now.header.now) in
    let f = c.args.cursor.now.bytes.now in
    let d = c.args.depth in
    let p = c.args.cursor.now.at in
    let n = c.args.need in
    let m = c.field.new.self in
    let part = read_term a s (d - 1) in
    handed (λ s. s) (read_name s.variables 2 p n) (sort_only (read_term a s d n)) c.args.cursor.now m c.check_variable.new.cursor c.check_variable.result c.in_ok-kind.ensures.reads.1 c.check_variable.ensures
    (named_variable a s part p n f m.at ∙ opened a s d n f p c.in_ok-kind.kind m.at 1 c.if-depth-eq0.false c.in_ok-kind.ensures.reads.0 c.in-1.is)

pub returns-in-2 : goal.returns-in-2
returns-in-2 g t c =
    let a = g.G.Algebra.meaning c.args.self.now.alg.now in
    let s = scope (kept_header c.args.self.now.header.now) in
    let f = c.args.cursor.now.bytes.now in
    let d = c.args.depth in
    let p = c.args.cursor.now.at in
    let n = c.args.need in
    let m = c.field.new.self in
    let part = read_term a s (d - 1) in
    handed (λ s. s) (sort_only (read_value a s part p n)) (sort_only (read_term a s d n)) c.args.cursor.now m c.check_value.new.cursor c.check_value.result c.in_ok-kind.ensures.reads.1 (c.check_value.ensures s part)
    (opened a s d n f p c.in_ok-kind.kind m.at 2 c.if-depth-eq0.false c.in_ok-kind.ensures.reads.0 c.in-2.is)

pub returns-in_err-o-in-3 : goal.returns-in_err-o-in-3
returns-in_err-o-in-3 g t c =
    let a = g.G.Algebra.meaning c.args.self.now.alg.now in
    let s = scope (kept_header c.args.self.now.header.now) in
    let f = c.args.cursor.now.bytes.now in
    let d = c.args.depth in
    let p = c.args.cursor.now.at in
    let n = c.args.need in
    let m = c.field.new.self in
    let part = read_term a s (d - 1) in
    let e = c.in_err-o-in-3.field-0.0 in
    let o = c.in_err-o-in-3.ensures in
    (stopped (λ s. s) c.check_operation.new.cursor.at c.from_residual-in_err-o-in-3.result e _ c.from_residual-in_err-o-in-3.ensures.1 (ap sorts (o.reads s part) ∙ ap (λ g. sorts (read_operation a s part p n g m.at)) c.in_ok-kind.ensures.reads.1 ∙ opened a s d n f p c.in_ok-kind.kind m.at 3 c.if-depth-eq0.false c.in_ok-kind.ensures.reads.0 c.in-3.is), o.same ∙ c.in_ok-kind.ensures.reads.1)

pub returns-in_err-check_term-in-3 : goal.returns-in_err-check_term-in-3
returns-in_err-check_term-in-3 g t c =
    let a = g.G.Algebra.meaning c.args.self.now.alg.now in
    let s = scope (kept_header c.args.self.now.header.now) in
    let f = c.args.cursor.now.bytes.now in
    let d = c.args.depth in
    let p = c.args.cursor.now.at in
    let n = c.args.need in
    let m = c.field.new.self in
    let part = read_term a s (d - 1) in
    let h = c.in_ok-o-in-3.o in
    let q = c.check_operation.new.cursor.at in
    let r = λ (k : ℕ). part (a.arg_sort h.op k) in
    let l = c.loop-k in
    let o = subst (λ g. operated a part g q (Ok h) ≡ read_operation a s part p n g m.at) c.in_ok-kind.ensures.reads.1 (c.in_ok-o-in-3.ensures.reads s part) in
    let e = c.in_err-check_term-in-3.field-0.0 in
    let x = c.in_err-check_term-in-3.ensures in
    let w = skipped_stop r (up_to h.count) e l.k (at_up_to h.count l.k (omega arith)) l.invariant (ap placed x.0 ∙ placed_sorts (part c.arg_sort.result l.cursor.bytes.now l.cursor.at) ∙ ap (λ z. placed (part z l.cursor.bytes.now l.cursor.at)) c.arg_sort.ensures) in
    (stopped (λ s. s) c.check_term.new.cursor.at c.from_residual-in_err-check_term-in-3.result e _ c.from_residual-in_err-check_term-in-3.ensures.1 (operation_done a part f h q _ o (stop e.reason e.place) w ∙ opened a s d n f p c.in_ok-kind.kind m.at 3 c.if-depth-eq0.false c.in_ok-kind.ensures.reads.0 c.in-3.is), x.1 ∙ l.invariant.same)

pub loop-k-preserved : goal.loop-k-preserved
loop-k-preserved g t c =
    let a = g.G.Algebra.meaning c.args.self.now.alg.now in
    let s = scope (kept_header c.args.self.now.header.now) in
    let d = c.args.depth in
    let n = c.args.need in
    let part = read_term a s (d - 1) in
    let h = c.in_ok-o-in-3.o in
    let r = λ (k : ℕ). part (a.arg_sort h.op k) in
    let l = c.loop-k in
    let x = c.in_ok-check_term-in-3.ensures in
    skipped_next r (up_to h.count) c.check_term.new.cursor l.k (at_up_to h.count l.k (omega arith)) l.invariant (ap placed x.0 ∙ placed_sorts (part c.arg_sort.result l.cursor.bytes.now l.cursor.at) ∙ ap (λ z. placed (part z l.cursor.bytes.now l.cursor.at)) c.arg_sort.ensures, x.1)

pub returns-after-loop-k : goal.returns-after-loop-k
returns-after-loop-k g t c =
    let a = g.G.Algebra.meaning c.args.self.now.alg.now in
    let s = scope (kept_header c.args.self.now.header.now) in
    let f = c.args.cursor.now.bytes.now in
    let d = c.args.depth in
    let p = c.args.cursor.now.at in
    let n = c.args.need in
    let m = c.field.new.self in
    let part = read_term a s (d - 1) in
    let h = c.in_ok-o-in-3.o in
    let q = c.check_operation.new.cursor.at in
    let r = λ (k : ℕ). part (a.arg_sort h.op k) in
    let l = c.loop-k in
    let o = subst (λ g. operated a part g q (Ok h) ≡ read_operation a s part p n g m.at) c.in_ok-kind.ensures.reads.1 (c.in_ok-o-in-3.ensures.reads s part) in
    (operation_done a part f h q _ o (next tt l.cursor.at) (skipped_end r (up_to h.count) (omega (arith, length_from 0 h.count)) l.invariant) ∙ opened a s d n f p c.in_ok-kind.kind m.at 3 c.if-depth-eq0.false c.in_ok-kind.ensures.reads.0 c.in-3.is, l.invariant.same)

pub returns-in_err-suit-in-4-to-6 : goal.returns-in_err-suit-in-4-to-6
returns-in_err-suit-in-4-to-6 g t c =
    let a = g.G.Algebra.meaning c.args.self.now.alg.now in
    let s = scope (kept_header c.args.self.now.header.now) in
    let f = c.args.cursor.now.bytes.now in
    let d = c.args.depth in
    let p = c.args.cursor.now.at in
    let n = c.args.need in
    let m = c.field.new.self in
    let part = read_term a s (d - 1) in
    let e = c.in_err-suit-in-4-to-6.field-0.0 in
    (stopped (λ s. s) m.at c.from_residual-in_err-suit-in-4-to-6.result e _ c.from_residual-in_err-suit-in-4-to-6.ensures.1 (unsuited a s part p n f m.at e.reason e.place c.in_ok-kind.kind (omega arith) (c.in_err-suit-in-4-to-6.ensures f m.at) ∙ opened a s d n f p c.in_ok-kind.kind m.at c.in_ok-kind.kind c.if-depth-eq0.false c.in_ok-kind.ensures.reads.0 refl), c.in_ok-kind.ensures.reads.1)

pub returns-in_err-check_term-in-4-to-6 : goal.returns-in_err-check_term-in-4-to-6
returns-in_err-check_term-in-4-to-6 g t c =
    let a = g.G.Algebra.meaning c.args.self.now.alg.now in
    let s = scope (kept_header c.args.self.now.header.now) in
    let f = c.args.cursor.now.bytes.now in
    let d = c.args.depth in
    let p = c.args.cursor.now.at in
    let n = c.args.need in
    let m = c.field.new.self in
    let part = read_term a s (d - 1) in
    let k = c.if-kind-eq4.count in
    let r = λ (_ : ℕ). part (Some 0) in
    let l = c.loop in
    let e = c.in_err-check_term-in-4-to-6.field-0.0 in
    let x = c.in_err-check_term-in-4-to-6.ensures in
    let w = skipped_stop r (up_to k) e l.counter (at_up_to k l.counter (omega arith)) l.invariant (ap placed x.0 ∙ placed_sorts (part (Some 0) l.cursor.bytes.now l.cursor.at)) in
    (stopped (λ s. s) c.check_term-in-loop.new.cursor.at c.from_residual-in_err-check_term-in-4-to-6.result e _ c.from_residual-in_err-check_term-in-4-to-6.ensures.1 (truths a s part p n f m.at c.in_ok-kind.kind k (omega arith) (omega arith) (λ x. omega arith) (λ x. omega arith) (c.in_ok-suit-in-4-to-6.ensures f m.at) (stop e.reason e.place) w ∙ opened a s d n f p c.in_ok-kind.kind m.at c.in_ok-kind.kind c.if-depth-eq0.false c.in_ok-kind.ensures.reads.0 refl), x.1 ∙ l.invariant.same)

pub loop-preserved : goal.loop-preserved
loop-preserved g t c =
    let a = g.G.Algebra.meaning c.args.self.now.alg.now in
    let s = scope (kept_header c.args.self.now.header.now) in
    let d = c.args.depth in
    let n = c.args.need in
    let part = read_term a s (d - 1) in
    let k = c.if-kind-eq4.count in
    let r = λ (_ : ℕ). part (Some 0) in
    let l = c.loop in
    let x = c.in_ok-check_term-in-4-to-6.ensures in
    skipped_next r (up_to k) c.check_term-in-loop.new.cursor l.counter (at_up_to k l.counter (omega arith)) l.invariant (ap placed x.0 ∙ placed_sorts (part (Some 0) l.cursor.bytes.now l.cursor.at), x.1)

pub returns-after-loop : goal.returns-after-loop
returns-after-loop g t c =
    let a = g.G.Algebra.meaning c.args.self.now.alg.now in
    let s = scope (kept_header c.args.self.now.header.now) in
    let f = c.args.cursor.now.bytes.now in
    let d = c.args.depth in
    let p = c.args.cursor.now.at in
    let n = c.args.need in
    let m = c.field.new.self in
    let part = read_term a s (d - 1) in
    let k = c.if-kind-eq4.count in
    let r = λ (_ : ℕ). part (Some 0) in
    let l = c.loop in
    (truths a s part p n f m.at c.in_ok-kind.kind k (omega arith) (omega arith) (λ x. omega arith) (λ x. omega arith) (c.in_ok-suit-in-4-to-6.ensures f m.at) (next tt l.cursor.at) (skipped_end r (up_to k) (omega (arith, length_from 0 k)) l.invariant) ∙ opened a s d n f p c.in_ok-kind.kind m.at c.in_ok-kind.kind c.if-depth-eq0.false c.in_ok-kind.ensures.reads.0 refl, l.invariant.same)

pub returns-in_err-suit-in_default : goal.returns-in_err-suit-in_default
returns-in_err-suit-in_default g t c =
    let a = g.G.Algebra.meaning c.args.self.now.alg.now in
    let s = scope (kept_header c.args.self.now.header.now) in
    let f = c.args.cursor.now.bytes.now in
    let d = c.args.depth in
    let p = c.args.cursor.now.at in
    let n = c.args.need in
    let m = c.field.new.self in
    let part = read_term a s (d - 1) in
    let e = c.in_err-suit-in_default.field-0.0 in
    (stopped (λ s. s) m.at c.from_residual-in_err-suit-in_default.result e _ c.from_residual-in_err-suit-in_default.ensures.1 (unsuited a s part p n f m.at e.reason e.place c.in_ok-kind.kind (omega (arith, c.in_ok-kind.ensures.small)) (c.in_err-suit-in_default.ensures f m.at) ∙ opened a s d n f p c.in_ok-kind.kind m.at c.in_ok-kind.kind c.if-depth-eq0.false c.in_ok-kind.ensures.reads.0 refl), c.in_ok-kind.ensures.reads.1)

pub returns-in_err-sort-in_default : goal.returns-in_err-sort-in_default
returns-in_err-sort-in_default g t c =
    let a = g.G.Algebra.meaning c.args.self.now.alg.now in
    let s = scope (kept_header c.args.self.now.header.now) in
    let f = c.args.cursor.now.bytes.now in
    let d = c.args.depth in
    let p = c.args.cursor.now.at in
    let n = c.args.need in
    let m = c.field.new.self in
    let part = read_term a s (d - 1) in
    let e = c.in_err-sort-in_default.field-0.0 in
    let x = c.in_err-sort-in_default.ensures in
    (stopped (λ s. s) c.check_term-in_default.new.cursor.at c.from_residual-in_err-sort-in_default.result e _ c.from_residual-in_err-sort-in_default.ensures.1 (no_left a s part p n f m.at (c.in_ok-suit-in_default.ensures f m.at) e.reason e.place (x.0 ∙ ap (λ g. sorts (part None g m.at)) c.in_ok-kind.ensures.reads.1) ∙ opened a s d n f p c.in_ok-kind.kind m.at 7 c.if-depth-eq0.false c.in_ok-kind.ensures.reads.0 (omega (arith, c.in_ok-kind.ensures.small))), x.1 ∙ c.in_ok-kind.ensures.reads.1)

pub returns-in_err-check_term-in_default : goal.returns-in_err-check_term-in_default
returns-in_err-check_term-in_default g t c =
    let a = g.G.Algebra.meaning c.args.self.now.alg.now in
    let s = scope (kept_header c.args.self.now.header.now) in
    let f = c.args.cursor.now.bytes.now in
    let d = c.args.depth in
    let p = c.args.cursor.now.at in
    let n = c.args.need in
    let m = c.field.new.self in
    let part = read_term a s (d - 1) in
    let h = c.in_ok-sort-in_default in
    let u = c.check_term-in_default.new.cursor in
    let l = h.ensures.0 ∙ ap (λ g. sorts (part None g m.at)) c.in_ok-kind.ensures.reads.1 in
    let b = h.ensures.1 ∙ c.in_ok-kind.ensures.reads.1 in
    let e = c.in_err-check_term-in_default.field-0.0 in
    let x = c.in_err-check_term-in_default.ensures in
    (stopped (λ s. s) c.check_term-in_default-2.new.cursor.at c.from_residual-in_err-check_term-in_default.result e _ c.from_residual-in_err-check_term-in_default.ensures.1 (right a s part p n f m.at (c.in_ok-suit-in_default.ensures f m.at) h.sort u.at l (stop e.reason e.place) (x.0 ∙ ap (λ g. sorts (part (Some h.sort) g u.at)) b) ∙ opened a s d n f p c.in_ok-kind.kind m.at 7 c.if-depth-eq0.false c.in_ok-kind.ensures.reads.0 (omega (arith, c.in_ok-kind.ensures.small))), x.1 ∙ b)

pub returns-in_ok-check_term-in_default : goal.returns-in_ok-check_term-in_default
returns-in_ok-check_term-in_default g t c =
    let a = g.G.Algebra.meaning c.args.self.now.alg.now in
    let s = scope (kept_header c.args.self.now.header.now) in
    let f = c.args.cursor.now.bytes.now in
    let d = c.args.depth in
    let p = c.args.cursor.now.at in
    let n = c.args.need in
    let m = c.field.new.self in
    let part = read_term a s (d - 1) in
    let h = c.in_ok-sort-in_default in
    let u = c.check_term-in_default.new.cursor in
    let l = h.ensures.0 ∙ ap (λ g. sorts (part None g m.at)) c.in_ok-kind.ensures.reads.1 in
    let b = h.ensures.1 ∙ c.in_ok-kind.ensures.reads.1 in
    let x = c.in_ok-check_term-in_default in
    (right a s part p n f m.at (c.in_ok-suit-in_default.ensures f m.at) h.sort u.at l (next x.field-0 c.check_term-in_default-2.new.cursor.at) (x.ensures.0 ∙ ap (λ g. sorts (part (Some h.sort) g u.at)) b) ∙ opened a s d n f p c.in_ok-kind.kind m.at 7 c.if-depth-eq0.false c.in_ok-kind.ensures.reads.0 (omega (arith, c.in_ok-kind.ensures.small)), x.ensures.1 ∙ b)
