use Rattle.std.proofs.Common.{◌≡◌, ℕ, ◌++◌, ◌-◌, List, length, true, false, sym, ◌∙◌, subst, arith, ap}
use lib.ListN.{length-map}
use Rattle.definitions.specs.Lists.{keep}
use Rattle.definitions.specs.Bits.{bits}
use Rattle.definitions.specs.Systems.{forall, Clause}
use Rattle.definitions.specs.ReadSystem.{scope}
use Rattle.definitions.specs.Values.{holds}
use Rattle.definitions.specs.Boolean.{clause_form}
use Rattle.definitions.specs.Fits.{header_of}
use Rattle.theorems.proofs.Coming.{all_bits_by, vars_of}
use Rattle.rows.specs.declared.row.Row.{Row}
use Rattle.rows.specs.Listed.{listed, listed_within}
use Rattle.system.specs.declared.places.ClauseAt.{ClauseAt}
use Rattle.system.specs.Whole.{kept_headers}
use Rattle.system.specs.Walks.{Pairs, ClauseOf}
use Rattle.expansion.specs.Bodies.{ClauseThere}
use Rattle.expansion.proofs.Drafting.{puts_draft, puts_then, over_drafts, well}
use Rattle.expansion.proofs.Inside.{not_found, found, clauses_there, guarded, inside_false, inside_empty, inside_some, form_same}
use Rattle.expansion.proofs.body.write_inside.Goals as goal

pub returns-then-not-holds : goal.returns-then-not-holds
returns-then-not-holds g c = λ s e q ps vs short hs b h fits.
    let a = g.G.Algebra.meaning c.args.accepted.now.alg.now in
    let is : holds a ps vs e.h ≡ false = sym (c.holds.ensures e.h ps vs b h.h_stands) ∙ c.if-not-holds.true in
    form_same s (sym (inside_false a e ps vs is)) c.args.draft.now c.put_token.new.self well (puts_draft s (bits 3 0) c.args.draft.now c.put_token.new.self (tt {0}) c.put_token.ensures)

pub returns-in_err-ok_or : goal.returns-in_err-ok_or
returns-in_err-ok_or g c = λ s e q ps vs short hs b h fits.
    let f = c.args.accepted.now.file.now in
    let a = g.G.Algebra.meaning c.args.accepted.now.alg.now in
    not_found c.read_clauses.result c.read_clauses.new.clauses (λ (xs : Row ClauseAt 15). Pairs (λ x k. (u : ℕ) × ClauseOf a (kept_headers c.args.accepted.now.outline.now) (scope (header_of e)) f k u x) (listed xs) e.clauses) c.in_err-ok_or.ensures.variant
    (c.read_clauses.ensures.found (scope (header_of e)) e.clauses q short h.clauses)

pub returns-then-count-eq0 : goal.returns-then-count-eq0
returns-then-count-eq0 g c = λ s e q ps vs short hs b h fits.
    let f = c.args.accepted.now.file.now in
    let a = g.G.Algebra.meaning c.args.accepted.now.alg.now in
    let kept = kept_headers c.args.accepted.now.outline.now in
    let k = scope (header_of e) in
    let t = λ (k : Clause). holds a ps vs k.guard in
    let is : holds a ps vs e.h ≡ true = sym (c.holds.ensures e.h ps vs b h.h_stands) ∙ c.if-not-holds.false in
    let there = found c.read_clauses.result c.read_clauses.new.clauses (λ (xs : Row ClauseAt 15). Pairs (λ x l. (u : ℕ) × ClauseOf a kept k f l u x) (listed xs) e.clauses) c.in_ok-ok_or.field-0 c.in_ok-ok_or.ensures.ok_part
    (c.read_clauses.ensures.found k e.clauses q short h.clauses) in
    let pairs = subst (λ (xs : List ClauseAt). Pairs (ClauseThere a kept k f) xs e.clauses) (sym c.as_slice.ensures) (clauses_there a kept k f (listed c.read_clauses.new.clauses) e.clauses there fits.fit) in
    let n : c.count_holding-count.result ≡ length (keep t e.clauses) = c.count_holding-count.ensures.holding k e.clauses ps vs b pairs in
    let zero = c.if-count-eq0.true in
    let none : length (guarded a e ps vs) ≡ 0 = length-map (keep t e.clauses) (clause_form a ps vs) ∙ sym n ∙ zero in
    form_same s (sym (inside_empty a e ps vs is none)) c.args.draft.now c.put_token-then-count-eq0.new.self well (puts_draft s (bits 3 1) c.args.draft.now c.put_token-then-count-eq0.new.self (tt {0}) c.put_token-then-count-eq0.ensures)

pub returns : goal.returns
returns g c = λ s e q ps vs short hs b h fits.
    let f = c.args.accepted.now.file.now in
    let a = g.G.Algebra.meaning c.args.accepted.now.alg.now in
    let kept = kept_headers c.args.accepted.now.outline.now in
    let k = scope (header_of e) in
    let t = λ (k : Clause). holds a ps vs k.guard in
    let is : holds a ps vs e.h ≡ true = sym (c.holds.ensures e.h ps vs b h.h_stands) ∙ c.if-not-holds.false in
    let rows = listed c.read_clauses.new.clauses in
    let there = found c.read_clauses.result c.read_clauses.new.clauses (λ (xs : Row ClauseAt 15). Pairs (λ x l. (u : ℕ) × ClauseOf a kept k f l u x) (listed xs) e.clauses) c.in_ok-ok_or.field-0 c.in_ok-ok_or.ensures.ok_part
    (c.read_clauses.ensures.found k e.clauses q short h.clauses) in
    let all = clauses_there a kept k f rows e.clauses there fits.fit in
    let pairs = subst (λ (xs : List ClauseAt). Pairs (ClauseThere a kept k f) xs e.clauses) (sym c.as_slice.ensures) all in
    let again = subst (λ (xs : List ClauseAt). Pairs (ClauseThere a kept k f) xs e.clauses) (sym c.as_slice-2.ensures) all in
    let count = c.count_holding-count.result in
    let n : count ≡ length (guarded a e ps vs) = c.count_holding-count.ensures.holding k e.clauses ps vs b pairs ∙ sym (length-map (keep t e.clauses) (clause_form a ps vs)) in
    let few = c.count_holding-count.ensures.few in
    let most = listed_within c.read_clauses.new.clauses in
    let long = ap length c.as_slice.ensures in
    let some : length (guarded a e ps vs) ≡ 0 → ⊥ = λ z. (let w = c.if-count-eq0.false in omega arith) in
    let forms = guarded a e ps vs in
    let old = c.args.draft.now in
    let new = c.write_clauses.new.draft in
    let r = c.write_clauses.result in
    form_same s (sym (inside_some a e ps vs is some)) old new r
    (over_drafts s forall forms count old new r n
    (puts_then s (bits 3 2 ++ bits 8 (count - 1)) (vars_of forms) (all_bits_by forms) old c.put_parts.new.self new r (c.put_parts.ensures (omega arith))
    (c.write_clauses.ensures s k e.clauses ps vs short hs b again)))
