use Rattle.std.proofs.Common.{◌≡◌, ℕ, ◌<◌, ◌^◌, List, ◌++◌, map, length, Option, sym, ap, ◌∙◌, subst, arith}
use Rattle.std.proofs.lemmas.List.{length-map}
use Rattle.definitions.specs.Lists.{flat, keep}
use Rattle.definitions.specs.Alg.{Alg}
use Rattle.definitions.specs.Bits.{bits}
use Rattle.definitions.specs.Systems.{Quantified, Clause, Equation}
use Rattle.definitions.specs.ReadSystem.{Scope, scope, greatest_depth}
use Rattle.definitions.specs.Written.{term_bits, clause_bits, body_bits}
use Rattle.definitions.specs.Fits.{Fits, Every, ClauseFits, header_of}
use Rattle.bits.specs.Writes.{Wrote, NoRoom}
use Rattle.bits.proofs.Left.{left_first, left_next}
use Rattle.rows.specs.declared.row.Row.{Row}
use Rattle.rows.specs.Listed.{listed, listed_within}
use Rattle.system.specs.declared.places.BodyAt.{BodyAt}
use Rattle.system.specs.declared.places.ClauseAt.{ClauseAt}
use Rattle.system.specs.Whole.{kept_headers}
use Rattle.system.specs.Walks.{BodyOf, ClauseOf, Found, Pairs}
use Rattle.passes.specs.declared.plan.EquationChange.{EquationChange}
use Rattle.passes.specs.declared.plan.EquationChange.TheVariants.{Stays}
use Rattle.passes.specs.declared.plan.Change.{Change}
use Rattle.passes.specs.declared.plan.Plan.{Plan}
use Rattle.passes.specs.Planned.{term_by, clause_by, clause_stays, equation_by}
use Rattle.passes.specs.Rewrites.{ClauseThere, stays_at}
use Rattle.passes.proofs.TermBits.{left_last}
use Rattle.passes.proofs.Masks.{left_none, writes_same}
use Rattle.passes.proofs.Places.{pairs_with, kept_few, kept_alike, clause_alike}
use Rattle.passes.proofs.written.Edit.write_body.Goals as goal

-- the bits of an equation that stays, where its parameters have these sorts
abbrev whole_bits : Alg → Plan → List ℕ → Change → Equation → List ℕ
whole_bits a P ss c e =
    let f = term_by a P ss c in
    let ks = map (clause_by P f) (keep (clause_stays a P) e.clauses) in
    term_bits (f e.h) ++ (bits 4 (length ks) ++ flat (map clause_bits ks))

whole_body : (a : Alg) (P : Plan) (c : Change) (e : Equation) → c.equation ≡ Stays → body_bits (equation_by a P c e) ≡ whole_bits a P e.sorts c e
whole_body a P c e s = ap (λ (x : EquationChange). body_bits (equation_by a P (record { equation = x; parameters = c.parameters }) e)) s

pub returns-in_err-body : goal.returns-in_err-body
returns-in_err-body g c = λ e h q short n same headers fit read stays.
    let a = g.G.Algebra.meaning c.args.self.now.accepted.now.alg.now in
    let file = c.args.self.now.accepted.now.file.now in
    let hs = kept_headers c.args.self.now.accepted.now.outline.now in
    absurd (subst (λ (o : Option BodyAt). Found o (BodyOf a hs h file e q)) c.in_err-body.ensures.ok_part (c.open_body.ensures.found hs h e q short read))

pub returns-in_err-write_term : goal.returns-in_err-write_term
returns-in_err-write_term g c = λ e h q short n same headers fit read stays.
    let a = g.G.Algebra.meaning c.args.self.now.accepted.now.alg.now in
    let P = c.args.self.now.plan.now in
    let ss = c.args.self.now.sorts.now in
    let ch = c.args.self.now.change.now in
    let file = c.args.self.now.accepted.now.file.now in
    let hs = kept_headers c.args.self.now.accepted.now.outline.now in
    let vs = map (λ (v : Quantified). v.sort) e.quantified in
    let sc : Scope = record { parameters = ss; variables = vs } in
    let in_scope : scope (header_of e) ≡ sc = ap (λ (ss : List ℕ). record { parameters = ss; variables = vs }) same in
    let here = subst (λ (o : Option BodyAt). Found o (BodyOf a hs h file e q)) c.in_ok-body.ensures.ok_part (c.open_body.ensures.found hs h e q short read) in
    let T = term_by a P ss ch in
    let ks = keep (clause_stays a P) e.clauses in
    let m = length (map (clause_by P T) ks) in
    let rest = flat (map clause_bits (map (clause_by P T) ks)) in
    let w = c.args.writer.now in
    let all = whole_body a P ch e stays ∙ ap (λ (ss : List ℕ). whole_bits a P ss ch e) same in
    let guard = subst (λ (x : Scope). Fits a x greatest_depth 0 e.h) in_scope fit.h in
    let r = c.from_residual-in_err-write_term in
    writes_same w c.write_term.new.writer r.result (sym all)
    (left_none (term_bits (T e.h)) (bits 4 m ++ rest) c.write_term.new.writer r.result r.ensures.0 (left_first (whole_bits a P ss ch e) w) (c.in_err-write_term.ensures e.h vs 0 n guard here.h_stands))

pub returns-in_err-clauses : goal.returns-in_err-clauses
returns-in_err-clauses g c = λ e h q short n same headers fit read stays.
    let a = g.G.Algebra.meaning c.args.self.now.accepted.now.alg.now in
    let P = c.args.self.now.plan.now in
    let ss = c.args.self.now.sorts.now in
    let ch = c.args.self.now.change.now in
    let file = c.args.self.now.accepted.now.file.now in
    let hs = kept_headers c.args.self.now.accepted.now.outline.now in
    let vs = map (λ (v : Quantified). v.sort) e.quantified in
    let sc : Scope = record { parameters = ss; variables = vs } in
    let in_scope : scope (header_of e) ≡ sc = ap (λ (ss : List ℕ). record { parameters = ss; variables = vs }) same in
    let here = subst (λ (o : Option BodyAt). Found o (BodyOf a hs h file e q)) c.in_ok-body.ensures.ok_part (c.open_body.ensures.found hs h e q short read) in
    let T = term_by a P ss ch in
    let ks = keep (clause_stays a P) e.clauses in
    let m = length (map (clause_by P T) ks) in
    let rest = flat (map clause_bits (map (clause_by P T) ks)) in
    let w = c.args.writer.now in
    let all = whole_body a P ch e stays ∙ ap (λ (ss : List ℕ). whole_bits a P ss ch e) same in
    let guard = subst (λ (x : Scope). Fits a x greatest_depth 0 e.h) in_scope fit.h in
    let l1 = left_next {rest = bits 4 m ++ rest} (term_bits (T e.h)) c.write_term.new.writer (left_first (whole_bits a P ss ch e) w) (c.in_ok-write_term.ensures e.h vs 0 n guard here.h_stands) in
    let read_there = c.clauses.ensures.found (scope h) e.clauses q short here.clauses in
    let D = λ (x : ClauseAt) (k : Clause). (u : ℕ) × ClauseOf a hs (scope h) file k u x in
    absurd (subst (λ (o : Option (Row ClauseAt 15)). Found o (λ xs. Pairs D (listed xs) e.clauses)) c.in_err-clauses.ensures.ok_part read_there)

pub overflow_cast-staying : goal.overflow_cast-staying
overflow_cast-staying g c =
    let few = kept_few (stays_at (g.G.Algebra.meaning c.args.self.now.accepted.now.alg.now) c.args.self.now.plan.now c.args.self.now.accepted.now.file.now) c.as_slice.result.now in
    let long = ap length c.as_slice.ensures in
    let within = listed_within c.in_ok-clauses.clauses in
    let number = c.staying.ensures in
    record { fits = (let h : c.staying.result < 2 ^ 32 = omega arith in h) }

pub returns-in_err-put : goal.returns-in_err-put
returns-in_err-put g c = λ e h q short n same headers fit read stays.
    let a = g.G.Algebra.meaning c.args.self.now.accepted.now.alg.now in
    let P = c.args.self.now.plan.now in
    let ss = c.args.self.now.sorts.now in
    let ch = c.args.self.now.change.now in
    let file = c.args.self.now.accepted.now.file.now in
    let hs = kept_headers c.args.self.now.accepted.now.outline.now in
    let vs = map (λ (v : Quantified). v.sort) e.quantified in
    let sc : Scope = record { parameters = ss; variables = vs } in
    let in_scope : scope (header_of e) ≡ sc = ap (λ (ss : List ℕ). record { parameters = ss; variables = vs }) same in
    let here = subst (λ (o : Option BodyAt). Found o (BodyOf a hs h file e q)) c.in_ok-body.ensures.ok_part (c.open_body.ensures.found hs h e q short read) in
    let T = term_by a P ss ch in
    let ks = keep (clause_stays a P) e.clauses in
    let m = length (map (clause_by P T) ks) in
    let rest = flat (map clause_bits (map (clause_by P T) ks)) in
    let w = c.args.writer.now in
    let all = whole_body a P ch e stays ∙ ap (λ (ss : List ℕ). whole_bits a P ss ch e) same in
    let guard = subst (λ (x : Scope). Fits a x greatest_depth 0 e.h) in_scope fit.h in
    let l1 = left_next {rest = bits 4 m ++ rest} (term_bits (T e.h)) c.write_term.new.writer (left_first (whole_bits a P ss ch e) w) (c.in_ok-write_term.ensures e.h vs 0 n guard here.h_stands) in
    let read_there = c.clauses.ensures.found (scope h) e.clauses q short here.clauses in
    let D = λ (x : ClauseAt) (k : Clause). (u : ℕ) × ClauseOf a hs (scope h) file k u x in
    let found = subst (λ (o : Option (Row ClauseAt 15)). Found o (λ xs. Pairs D (listed xs) e.clauses)) c.in_ok-clauses.ensures.ok_part read_there in
    let move : scope h ≡ sc = ap scope (sym headers) ∙ in_scope in
    let fits = subst (λ (x : Scope). Every (ClauseFits a hs x) e.clauses) in_scope fit.fit in
    let R = ClauseThere a hs sc file in
    let xs = listed c.in_ok-clauses.clauses in
    let there = pairs_with D (ClauseFits a hs sc) R (λ x k p h. record { end = p.0; found = subst (λ (s : Scope). ClauseOf a hs s file k p.0 x) move p.1; fits = h }) xs e.clauses found fits in
    let there_too = subst (λ (xs : List ClauseAt). Pairs R xs e.clauses) (sym c.as_slice.ensures) there in
    let count : c.staying.result ≡ m = c.staying.ensures ∙ kept_alike R (stays_at a P file) (clause_stays a P) (λ x k h. clause_alike a P hs sc file x k h) c.as_slice.result.now e.clauses there_too ∙ sym (length-map ks (clause_by P T)) in
    let few = kept_few (stays_at a P file) c.as_slice.result.now in
    let long = ap length c.as_slice.ensures in
    let within = listed_within c.in_ok-clauses.clauses in
    let number = c.staying.ensures in
    let r = c.from_residual-in_err-put in
    writes_same w c.put.new.self r.result (sym all)
    (left_none (bits 4 m) rest c.put.new.self r.result r.ensures.0 l1 (subst (λ (j : ℕ). NoRoom (bits 4 j) c.write_term.new.writer) count (c.in_err-put.ensures.writes (omega arith) (omega arith))))

pub returns : goal.returns
returns g c = λ e h q short n same headers fit read stays.
    let a = g.G.Algebra.meaning c.args.self.now.accepted.now.alg.now in
    let P = c.args.self.now.plan.now in
    let ss = c.args.self.now.sorts.now in
    let ch = c.args.self.now.change.now in
    let file = c.args.self.now.accepted.now.file.now in
    let hs = kept_headers c.args.self.now.accepted.now.outline.now in
    let vs = map (λ (v : Quantified). v.sort) e.quantified in
    let sc : Scope = record { parameters = ss; variables = vs } in
    let in_scope : scope (header_of e) ≡ sc = ap (λ (ss : List ℕ). record { parameters = ss; variables = vs }) same in
    let here = subst (λ (o : Option BodyAt). Found o (BodyOf a hs h file e q)) c.in_ok-body.ensures.ok_part (c.open_body.ensures.found hs h e q short read) in
    let T = term_by a P ss ch in
    let ks = keep (clause_stays a P) e.clauses in
    let m = length (map (clause_by P T) ks) in
    let rest = flat (map clause_bits (map (clause_by P T) ks)) in
    let w = c.args.writer.now in
    let all = whole_body a P ch e stays ∙ ap (λ (ss : List ℕ). whole_bits a P ss ch e) same in
    let guard = subst (λ (x : Scope). Fits a x greatest_depth 0 e.h) in_scope fit.h in
    let l1 = left_next {rest = bits 4 m ++ rest} (term_bits (T e.h)) c.write_term.new.writer (left_first (whole_bits a P ss ch e) w) (c.in_ok-write_term.ensures e.h vs 0 n guard here.h_stands) in
    let read_there = c.clauses.ensures.found (scope h) e.clauses q short here.clauses in
    let D = λ (x : ClauseAt) (k : Clause). (u : ℕ) × ClauseOf a hs (scope h) file k u x in
    let found = subst (λ (o : Option (Row ClauseAt 15)). Found o (λ xs. Pairs D (listed xs) e.clauses)) c.in_ok-clauses.ensures.ok_part read_there in
    let move : scope h ≡ sc = ap scope (sym headers) ∙ in_scope in
    let fits = subst (λ (x : Scope). Every (ClauseFits a hs x) e.clauses) in_scope fit.fit in
    let R = ClauseThere a hs sc file in
    let xs = listed c.in_ok-clauses.clauses in
    let there = pairs_with D (ClauseFits a hs sc) R (λ x k p h. record { end = p.0; found = subst (λ (s : Scope). ClauseOf a hs s file k p.0 x) move p.1; fits = h }) xs e.clauses found fits in
    let there_too = subst (λ (xs : List ClauseAt). Pairs R xs e.clauses) (sym c.as_slice.ensures) there in
    let count : c.staying.result ≡ m = c.staying.ensures ∙ kept_alike R (stays_at a P file) (clause_stays a P) (λ x k h. clause_alike a P hs sc file x k h) c.as_slice.result.now e.clauses there_too ∙ sym (length-map ks (clause_by P T)) in
    let few = kept_few (stays_at a P file) c.as_slice.result.now in
    let long = ap length c.as_slice.ensures in
    let within = listed_within c.in_ok-clauses.clauses in
    let number = c.staying.ensures in
    let l2 = left_next {rest = rest} (bits 4 m) c.put.new.self l1 (subst (λ (j : ℕ). Wrote (bits 4 j) c.write_term.new.writer c.put.new.self) count (c.in_ok-put.ensures.writes (omega arith) (omega arith))) in
    let x = c.write_clauses in
    let there_three = subst (λ (xs : List ClauseAt). Pairs R xs e.clauses) (sym c.as_slice-2.ensures) there in
    writes_same w x.new.writer x.result (sym all) (left_last rest x.new.writer x.result l2 (x.ensures e.clauses vs short n there_three))
