use Rattle.std.proofs.Common.{◌≡◌, ℕ, ◌-◌, List, Some, rules, sym, ◌∙◌, subst}
use Rattle.definitions.specs.Systems.{none}
use Rattle.definitions.specs.ReadSystem.{Scope}
use Rattle.terms.specs.declared.view.Parts.TheVariants.{Zero, One, Two, Three}
use Rattle.terms.specs.Shown.{cons, shown}
use Rattle.bits.specs.Writes.{Writes}
use Rattle.passes.specs.Planned.{kind_by}
use Rattle.passes.proofs.TermBits.{bits_by, handed_on, parts_done, parts_next, parts_stop, parts_last, view_folded, view_opened, view_stopped}
use Rattle.passes.proofs.written.Edit.+write_view.Goals as goal

pub returns-in-Some : goal.returns-in-Some
returns-in-Some g t c = λ tree vs s narrow fits stands.
    let self = c.args.self.now in
    let a = g.G.Algebra.meaning self.accepted.now.alg.now in
    let b = self.plan.now.fold in
    let r = kind_by self.sorts.now self.change.now in
    let d = c.args.depth in
    let w = c.args.writer.now in
    let scope : Scope = record { parameters = self.sorts.now; variables = vs } in
    let x = c.in_ok-term.term in
    let got : c.read_term.result ≡ Some x = search rules in
    let f = view_folded a b r scope d s x tree got c.read_term.ensures.reads stands fits (λ on. c.folded.ensures.folds on tree stands) (g.met.G.Algebra.lawful self.accepted.now.alg.now) c.folded.ensures.unfolded c.in-Some.sort c.in-Some.value c.in-Some.is in
    subst (λ (bs : List ℕ). Writes bs w c.write_value.new.writer c.write_value.result) (sym f.1) (c.write_value.ensures f.0)

pub returns-in_err-write_opening : goal.returns-in_err-write_opening
returns-in_err-write_opening g t c = λ tree vs s narrow fits stands.
    let self = c.args.self.now in
    let a = g.G.Algebra.meaning self.accepted.now.alg.now in
    let b = self.plan.now.fold in
    let r = kind_by self.sorts.now self.change.now in
    let d = c.args.depth in
    let w = c.args.writer.now in
    let scope : Scope = record { parameters = self.sorts.now; variables = vs } in
    let x = c.in_ok-term.term in
    let got : c.read_term.result ≡ Some x = search rules in
    handed_on _ (bits_by a b r tree) w c.write_opening.new.writer c.from_residual-in_err-write_opening.result c.from_residual-in_err-write_opening.ensures.1
    (view_stopped a b r scope d s x tree got c.read_term.ensures.reads stands fits (λ on. c.folded.ensures.folds on tree stands) c.in_default.not-Some w (λ kind. c.in_err-write_opening.ensures.writes narrow kind))

pub returns-in_err-write_view-in-Two : goal.returns-in_err-write_view-in-Two
returns-in_err-write_view-in-Two g t c = λ tree vs s narrow fits stands.
    let self = c.args.self.now in
    let a = g.G.Algebra.meaning self.accepted.now.alg.now in
    let b = self.plan.now.fold in
    let r = kind_by self.sorts.now self.change.now in
    let d = c.args.depth in
    let w = c.args.writer.now in
    let scope : Scope = record { parameters = self.sorts.now; variables = vs } in
    let x = c.in_ok-term.term in
    let got : c.read_term.result ≡ Some x = search rules in
    let l = view_opened a b r scope d s x tree got c.read_term.ensures.reads stands fits (λ on. c.folded.ensures.folds on tree stands) c.in_default.not-Some (Two c.in-Two.a c.in-Two.b) (sym c.in-Two.is ∙ c.in_ok-write_opening.ensures.parts) w c.write_opening.new.writer (λ kind. c.in_ok-write_opening.ensures.writes narrow kind) in
    handed_on _ (bits_by a b r tree) w c.write_view-in-Two.new.writer c.from_residual-in_err-write_view-in-Two.result c.from_residual-in_err-write_view-in-Two.ensures.1 (parts_stop a b r scope (d - 1) (shown a (d - 1) c.in-Two.a) (cons (shown a (d - 1) c.in-Two.b) (Some none)) l (λ u q fit here. c.in_err-write_view-in-Two.ensures u vs q narrow fit here))

pub returns-in_err-write_view-in-Three : goal.returns-in_err-write_view-in-Three
returns-in_err-write_view-in-Three g t c = λ tree vs s narrow fits stands.
    let self = c.args.self.now in
    let a = g.G.Algebra.meaning self.accepted.now.alg.now in
    let b = self.plan.now.fold in
    let r = kind_by self.sorts.now self.change.now in
    let d = c.args.depth in
    let w = c.args.writer.now in
    let scope : Scope = record { parameters = self.sorts.now; variables = vs } in
    let x = c.in_ok-term.term in
    let got : c.read_term.result ≡ Some x = search rules in
    let l = view_opened a b r scope d s x tree got c.read_term.ensures.reads stands fits (λ on. c.folded.ensures.folds on tree stands) c.in_default.not-Some (Three c.in-Three.a c.in-Three.b c.in-Three.c) (sym c.in-Three.is ∙ c.in_ok-write_opening.ensures.parts) w c.write_opening.new.writer (λ kind. c.in_ok-write_opening.ensures.writes narrow kind) in
    handed_on _ (bits_by a b r tree) w c.write_view-in-Three.new.writer c.from_residual-in_err-write_view-in-Three.result c.from_residual-in_err-write_view-in-Three.ensures.1 (parts_stop a b r scope (d - 1) (shown a (d - 1) c.in-Three.a) (cons (shown a (d - 1) c.in-Three.b) (cons (shown a (d - 1) c.in-Three.c) (Some none))) l (λ u q fit here. c.in_err-write_view-in-Three.ensures u vs q narrow fit here))

pub returns-in_err-write_view-in-Three-2 : goal.returns-in_err-write_view-in-Three-2
returns-in_err-write_view-in-Three-2 g t c = λ tree vs s narrow fits stands.
    let self = c.args.self.now in
    let a = g.G.Algebra.meaning self.accepted.now.alg.now in
    let b = self.plan.now.fold in
    let r = kind_by self.sorts.now self.change.now in
    let d = c.args.depth in
    let w = c.args.writer.now in
    let scope : Scope = record { parameters = self.sorts.now; variables = vs } in
    let x = c.in_ok-term.term in
    let got : c.read_term.result ≡ Some x = search rules in
    let l = view_opened a b r scope d s x tree got c.read_term.ensures.reads stands fits (λ on. c.folded.ensures.folds on tree stands) c.in_default.not-Some (Three c.in-Three.a c.in-Three.b c.in-Three.c) (sym c.in-Three.is ∙ c.in_ok-write_opening.ensures.parts) w c.write_opening.new.writer (λ kind. c.in_ok-write_opening.ensures.writes narrow kind) in
    let l1 = parts_next a b r scope (d - 1) (shown a (d - 1) c.in-Three.a) (cons (shown a (d - 1) c.in-Three.b) (cons (shown a (d - 1) c.in-Three.c) (Some none))) l c.write_view-in-Three.new.writer (λ u q fit here. c.in_ok-write_view-in-Three.ensures u vs q narrow fit here) in
    handed_on _ (bits_by a b r tree) w c.write_view-in-Three-2.new.writer c.from_residual-in_err-write_view-in-Three-2.result c.from_residual-in_err-write_view-in-Three-2.ensures.1 (parts_stop a b r scope (d - 1) (shown a (d - 1) c.in-Three.b) (cons (shown a (d - 1) c.in-Three.c) (Some none)) l1 (λ u q fit here. c.in_err-write_view-in-Three-2.ensures u vs q narrow fit here))

pub returns-in-Zero : goal.returns-in-Zero
returns-in-Zero g t c = λ tree vs s narrow fits stands.
    let self = c.args.self.now in
    let a = g.G.Algebra.meaning self.accepted.now.alg.now in
    let b = self.plan.now.fold in
    let r = kind_by self.sorts.now self.change.now in
    let d = c.args.depth in
    let w = c.args.writer.now in
    let scope : Scope = record { parameters = self.sorts.now; variables = vs } in
    let x = c.in_ok-term.term in
    let got : c.read_term.result ≡ Some x = search rules in
    let l = view_opened a b r scope d s x tree got c.read_term.ensures.reads stands fits (λ on. c.folded.ensures.folds on tree stands) c.in_default.not-Some Zero (sym c.in-Zero.is ∙ c.in_ok-write_opening.ensures.parts) w c.write_opening.new.writer (λ kind. c.in_ok-write_opening.ensures.writes narrow kind) in
    parts_done a b r scope (d - 1) l

pub returns-in-One : goal.returns-in-One
returns-in-One g t c = λ tree vs s narrow fits stands.
    let self = c.args.self.now in
    let a = g.G.Algebra.meaning self.accepted.now.alg.now in
    let b = self.plan.now.fold in
    let r = kind_by self.sorts.now self.change.now in
    let d = c.args.depth in
    let w = c.args.writer.now in
    let scope : Scope = record { parameters = self.sorts.now; variables = vs } in
    let x = c.in_ok-term.term in
    let got : c.read_term.result ≡ Some x = search rules in
    let l = view_opened a b r scope d s x tree got c.read_term.ensures.reads stands fits (λ on. c.folded.ensures.folds on tree stands) c.in_default.not-Some (One c.in-One.a) (sym c.in-One.is ∙ c.in_ok-write_opening.ensures.parts) w c.write_opening.new.writer (λ kind. c.in_ok-write_opening.ensures.writes narrow kind) in
    parts_last a b r scope (d - 1) (shown a (d - 1) c.in-One.a) c.write_view.new.writer c.write_view.result l (λ u q fit here. c.write_view.ensures u vs q narrow fit here)

pub returns-in_ok-write_view-in-Two : goal.returns-in_ok-write_view-in-Two
returns-in_ok-write_view-in-Two g t c = λ tree vs s narrow fits stands.
    let self = c.args.self.now in
    let a = g.G.Algebra.meaning self.accepted.now.alg.now in
    let b = self.plan.now.fold in
    let r = kind_by self.sorts.now self.change.now in
    let d = c.args.depth in
    let w = c.args.writer.now in
    let scope : Scope = record { parameters = self.sorts.now; variables = vs } in
    let x = c.in_ok-term.term in
    let got : c.read_term.result ≡ Some x = search rules in
    let l = view_opened a b r scope d s x tree got c.read_term.ensures.reads stands fits (λ on. c.folded.ensures.folds on tree stands) c.in_default.not-Some (Two c.in-Two.a c.in-Two.b) (sym c.in-Two.is ∙ c.in_ok-write_opening.ensures.parts) w c.write_opening.new.writer (λ kind. c.in_ok-write_opening.ensures.writes narrow kind) in
    let l1 = parts_next a b r scope (d - 1) (shown a (d - 1) c.in-Two.a) (cons (shown a (d - 1) c.in-Two.b) (Some none)) l c.write_view-in-Two.new.writer (λ u q fit here. c.in_ok-write_view-in-Two.ensures u vs q narrow fit here) in
    parts_last a b r scope (d - 1) (shown a (d - 1) c.in-Two.b) c.write_view-in-Two-2.new.writer c.write_view-in-Two-2.result l1 (λ u q fit here. c.write_view-in-Two-2.ensures u vs q narrow fit here)

pub returns-in_ok-write_view-in-Three-2 : goal.returns-in_ok-write_view-in-Three-2
returns-in_ok-write_view-in-Three-2 g t c = λ tree vs s narrow fits stands.
    let self = c.args.self.now in
    let a = g.G.Algebra.meaning self.accepted.now.alg.now in
    let b = self.plan.now.fold in
    let r = kind_by self.sorts.now self.change.now in
    let d = c.args.depth in
    let w = c.args.writer.now in
    let scope : Scope = record { parameters = self.sorts.now; variables = vs } in
    let x = c.in_ok-term.term in
    let got : c.read_term.result ≡ Some x = search rules in
    let l = view_opened a b r scope d s x tree got c.read_term.ensures.reads stands fits (λ on. c.folded.ensures.folds on tree stands) c.in_default.not-Some (Three c.in-Three.a c.in-Three.b c.in-Three.c) (sym c.in-Three.is ∙ c.in_ok-write_opening.ensures.parts) w c.write_opening.new.writer (λ kind. c.in_ok-write_opening.ensures.writes narrow kind) in
    let l1 = parts_next a b r scope (d - 1) (shown a (d - 1) c.in-Three.a) (cons (shown a (d - 1) c.in-Three.b) (cons (shown a (d - 1) c.in-Three.c) (Some none))) l c.write_view-in-Three.new.writer (λ u q fit here. c.in_ok-write_view-in-Three.ensures u vs q narrow fit here) in
    let l2 = parts_next a b r scope (d - 1) (shown a (d - 1) c.in-Three.b) (cons (shown a (d - 1) c.in-Three.c) (Some none)) l1 c.write_view-in-Three-2.new.writer (λ u q fit here. c.in_ok-write_view-in-Three-2.ensures u vs q narrow fit here) in
    parts_last a b r scope (d - 1) (shown a (d - 1) c.in-Three.c) c.write_view-in-Three-3.new.writer c.write_view-in-Three-3.result l2 (λ u q fit here. c.write_view-in-Three-3.ensures u vs q narrow fit here)
