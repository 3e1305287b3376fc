use Rattle.std.proofs.Common.{ℕ, [], Ok, Option, refl, sym, ap, ◌∙◌}
use Rattle.std.specs.Option.{ok_or}
use Rattle.theorems.proofs.Listing.{none_some, some_same}
use Rattle.rows.specs.Listed.{listed}
use Rattle.system.specs.Whole.{kept_headers}
use Rattle.passes.specs.declared.plan.Missing.{Missing}
use Rattle.passes.proofs.Learning.{brings_none, brings_same, clause_none, clause_all, known_there}
use Rattle.passes.proofs.Walking.{guard_stands, not_closed, walked, follows_told}
use Rattle.passes.proofs.constants.follow_clause.Goals as goal

pub returns-then-eq-clause-brings : goal.returns-then-eq-clause-brings
returns-then-eq-clause-brings g c = λ ks s k q short p v read.
    let a = g.G.Algebra.meaning c.args.accepted.now.alg.now in
    let file = c.args.accepted.now.file.now in
    let hs = kept_headers c.args.accepted.now.outline.now in
    let off = known_there a file ks c.args.at k.guard c.known.result c.eq.result (guard_stands a hs file short s c.args.at k q read) (c.known.ensures.value ks [] p v) c.eq.ensures ∙ c.if-eq.true in
    follows_told c.args.knowledge.now c.args.knowledge.now c.ok_or.result q (c.ok_or.ensures.value ∙ ap (λ (o : Option ℕ). ok_or {E = Missing} o _) (c.end_of_clause.ensures.found s k q short read)) (brings_same (sym (clause_none a ks k off)) (brings_none c.args.knowledge.now))

pub returns-then-eq-clause-behind : goal.returns-then-eq-clause-behind
returns-then-eq-clause-behind g c = λ s k q short read. c.ok_or.ensures.value ∙ ap (λ (o : Option ℕ). ok_or {E = Missing} o _) (c.end_of_clause.ensures.found s k q short read)

pub returns-in_err-clause-clause-brings : goal.returns-in_err-clause-clause-brings
returns-in_err-clause-clause-brings g c = λ ks s k q short p v read.
    let a = g.G.Algebra.meaning c.args.accepted.now.alg.now in
    let file = c.args.accepted.now.file.now in
    let hs = kept_headers c.args.accepted.now.outline.now in
    absurd (not_closed a hs file short s c.args.at k q read c.open_clause.result c.open_clause.ensures.found c.in_err-clause.ensures.ok_part)

pub returns-in_err-clause-clause-behind : goal.returns-in_err-clause-clause-behind
returns-in_err-clause-clause-behind g c = λ s k q short read.
    let a = g.G.Algebra.meaning c.args.accepted.now.alg.now in
    let file = c.args.accepted.now.file.now in
    let hs = kept_headers c.args.accepted.now.outline.now in
    absurd (not_closed a hs file short s c.args.at k q read c.open_clause.result c.open_clause.ensures.found c.in_err-clause.ensures.ok_part)

pub returns-in_err-next-clause-brings : goal.returns-in_err-next-clause-brings
returns-in_err-next-clause-brings g c = λ ks s k q short p v read.
    let a = g.G.Algebra.meaning c.args.accepted.now.alg.now in
    let file = c.args.accepted.now.file.now in
    let hs = kept_headers c.args.accepted.now.outline.now in
    let w = walked a hs file short s c.args.at k q read c.open_clause.result c.open_clause.ensures.found c.in_ok-clause.clause c.in_ok-clause.ensures.ok_part
    c.read_occurrences.new.occurrences c.read_occurrences.result c.read_occurrences.ensures.found (listed c.read_occurrences.new.occurrences) refl in
    none_some q (sym c.in_err-next.ensures.ok_part ∙ w.0)

pub returns-in_err-next-clause-behind : goal.returns-in_err-next-clause-behind
returns-in_err-next-clause-behind g c = λ s k q short read.
    let a = g.G.Algebra.meaning c.args.accepted.now.alg.now in
    let file = c.args.accepted.now.file.now in
    let hs = kept_headers c.args.accepted.now.outline.now in
    let w = walked a hs file short s c.args.at k q read c.open_clause.result c.open_clause.ensures.found c.in_ok-clause.clause c.in_ok-clause.ensures.ok_part
    c.read_occurrences.new.occurrences c.read_occurrences.result c.read_occurrences.ensures.found (listed c.read_occurrences.new.occurrences) refl in
    none_some q (sym c.in_err-next.ensures.ok_part ∙ w.0)

pub returns-clause-brings : goal.returns-clause-brings
returns-clause-brings g c = λ ks s k q short p v read.
    let a = g.G.Algebra.meaning c.args.accepted.now.alg.now in
    let file = c.args.accepted.now.file.now in
    let hs = kept_headers c.args.accepted.now.outline.now in
    let on = known_there a file ks c.args.at k.guard c.known.result c.eq.result (guard_stands a hs file short s c.args.at k q read) (c.known.ensures.value ks [] p v) c.eq.ensures ∙ c.if-eq.false in
    let w = walked a hs file short s c.args.at k q read c.open_clause.result c.open_clause.ensures.found c.in_ok-clause.clause c.in_ok-clause.ensures.ok_part
    c.read_occurrences.new.occurrences c.read_occurrences.result c.read_occurrences.ensures.found c.as_slice.result.now c.as_slice.ensures in
    brings_same (sym (clause_all a ks k on)) (c.follow_occurrences.ensures.brings ks k.occurrences p v w.1)

pub returns-clause-behind : goal.returns-clause-behind
returns-clause-behind g c = λ s k q short read.
    let a = g.G.Algebra.meaning c.args.accepted.now.alg.now in
    let file = c.args.accepted.now.file.now in
    let hs = kept_headers c.args.accepted.now.outline.now in
    let w = walked a hs file short s c.args.at k q read c.open_clause.result c.open_clause.ensures.found c.in_ok-clause.clause c.in_ok-clause.ensures.ok_part
    c.read_occurrences.new.occurrences c.read_occurrences.result c.read_occurrences.ensures.found (listed c.read_occurrences.new.occurrences) refl in
    ap Ok (sym (some_same q c.in_ok-next.next (sym w.0 ∙ c.in_ok-next.ensures.ok_part)))
