use Rattle.std.proofs.Common.{◌≡◌, ℕ, List, ◌++◌, map, length, sym, ap, ◌∙◌, subst, arith}
use Rattle.definitions.specs.Lists.{flat, map_from, strike, place}
use Rattle.definitions.specs.Bits.{bits}
use Rattle.definitions.specs.Systems.{Equation}
use Rattle.definitions.specs.ReadSystem.{Header}
use Rattle.definitions.specs.Written.{header_bits, body_bits}
use Rattle.definitions.specs.Fits.{Every, BodyFits}
use Rattle.bits.specs.Writes.{Wrote, NoRoom}
use Rattle.bits.proofs.Left.{left_first, left_next}
use Rattle.rows.specs.Listed.{listed}
use Rattle.system.specs.declared.outline.Equation.{Equation as Told}
use Rattle.system.specs.Whole.{kept_headers}
use Rattle.system.specs.Walks.{Pairs}
use Rattle.passes.specs.declared.plan.Change.{Change}
use Rattle.passes.specs.Planned.{mask, remaining, change_of, equation_by}
use Rattle.passes.specs.Rewrites.{HeaderThere, changed}
use Rattle.passes.proofs.TermBits.{left_last}
use Rattle.theorems.proofs.Refit.{place_low}
use Rattle.theorems.proofs.Listing.{map_from_long}
use Rattle.passes.proofs.Numbering.{struck_long}
use Rattle.passes.proofs.Masks.{left_none, wrote_same}
use Rattle.passes.proofs.Equations.{struck_changed, headers_there, equations_there}
use Rattle.passes.proofs.rewrite.write_system.Goals as goal

pub returns-in_err-put : goal.returns-in_err-put
returns-in_err-put g c = λ s short o k.
    let a = g.G.Algebra.meaning c.args.accepted.now.alg.now in
    let P = c.args.plan.now in
    let out = c.args.accepted.now.outline.now in
    let file = c.args.accepted.now.file.now in
    let w = c.args.writer.now in
    let es = s.equations in
    let f = λ (c : Change) (e : Equation). equation_by a P c e in
    let S = strike (remaining P) (map_from 0 (λ i e. equation_by a P (change_of P i) e) es) in
    let C = changed f P.equations es in
    let is : S ≡ C = struck_changed f P es in
    let count = bits 5 (length S) in
    let heads = flat (map header_bits S) in
    let bodies = flat (map body_bits S) in
    let start = bits 5 (place (remaining P) s.start) ++ flat (map (bits 8) (strike (mask (change_of P s.start)) s.values)) in
    let n = length c.as_slice-equations.result.now in
    let many : n ≡ length es = ap length c.as_slice-equations.ensures ∙ o.count in
    let number : c.number_of.result ≡ length S = c.number_of.ensures ∙ ap (place (remaining P)) many ∙ sym (struck_long (remaining P) (map_from 0 (λ i e. equation_by a P (change_of P i) e) es) ∙ ap (place (remaining P)) (map_from_long 0 (λ i e. equation_by a P (change_of P i) e) es)) in
    let placed : c.number_of.result ≡ place (remaining P) n = c.number_of.ensures in
    let least = place_low (remaining P) n in
    let few = k.few in
    let l0 = left_first (count ++ (heads ++ (bodies ++ start))) w in
    let r = c.from_residual in
    left_none count (heads ++ (bodies ++ start)) c.put.new.self r.result r.ensures.0 l0 (subst (λ (j : ℕ). NoRoom (bits 5 j) w) number (c.in_err-put.ensures.writes (omega arith) (omega arith)))

pub returns-in_err-write_headers : goal.returns-in_err-write_headers
returns-in_err-write_headers g c = λ s short o k.
    let a = g.G.Algebra.meaning c.args.accepted.now.alg.now in
    let P = c.args.plan.now in
    let out = c.args.accepted.now.outline.now in
    let file = c.args.accepted.now.file.now in
    let w = c.args.writer.now in
    let es = s.equations in
    let f = λ (c : Change) (e : Equation). equation_by a P c e in
    let S = strike (remaining P) (map_from 0 (λ i e. equation_by a P (change_of P i) e) es) in
    let C = changed f P.equations es in
    let is : S ≡ C = struck_changed f P es in
    let count = bits 5 (length S) in
    let heads = flat (map header_bits S) in
    let bodies = flat (map body_bits S) in
    let start = bits 5 (place (remaining P) s.start) ++ flat (map (bits 8) (strike (mask (change_of P s.start)) s.values)) in
    let n = length c.as_slice-equations.result.now in
    let many : n ≡ length es = ap length c.as_slice-equations.ensures ∙ o.count in
    let number : c.number_of.result ≡ length S = c.number_of.ensures ∙ ap (place (remaining P)) many ∙ sym (struck_long (remaining P) (map_from 0 (λ i e. equation_by a P (change_of P i) e) es) ∙ ap (place (remaining P)) (map_from_long 0 (λ i e. equation_by a P (change_of P i) e) es)) in
    let placed : c.number_of.result ≡ place (remaining P) n = c.number_of.ensures in
    let least = place_low (remaining P) n in
    let few = k.few in
    let l0 = left_first (count ++ (heads ++ (bodies ++ start))) w in
    let l1 = left_next {rest = heads ++ (bodies ++ start)} count c.put.new.self l0 (subst (λ (j : ℕ). Wrote (bits 5 j) w c.put.new.self) number (c.in_ok-put.ensures.writes (omega arith) (omega arith))) in
    let ts = listed out.equations in
    let there = headers_there a ts es o.headers k.headers in
    let there_read = subst (λ (ts : List Told). Pairs (HeaderThere a) ts es) (sym c.as_slice-equations.ensures) there in
    let r = c.from_residual-in_err-write_headers in
    left_none heads (bodies ++ start) c.write_headers.new.writer r.result r.ensures.0 l1 (subst (λ (es : List Equation). NoRoom (flat (map header_bits es)) c.put.new.self) (sym is) (c.in_err-write_headers.ensures a P es there_read))

pub returns-in_err-write_bodies : goal.returns-in_err-write_bodies
returns-in_err-write_bodies g c = λ s short o k.
    let a = g.G.Algebra.meaning c.args.accepted.now.alg.now in
    let P = c.args.plan.now in
    let out = c.args.accepted.now.outline.now in
    let file = c.args.accepted.now.file.now in
    let w = c.args.writer.now in
    let es = s.equations in
    let f = λ (c : Change) (e : Equation). equation_by a P c e in
    let S = strike (remaining P) (map_from 0 (λ i e. equation_by a P (change_of P i) e) es) in
    let C = changed f P.equations es in
    let is : S ≡ C = struck_changed f P es in
    let count = bits 5 (length S) in
    let heads = flat (map header_bits S) in
    let bodies = flat (map body_bits S) in
    let start = bits 5 (place (remaining P) s.start) ++ flat (map (bits 8) (strike (mask (change_of P s.start)) s.values)) in
    let n = length c.as_slice-equations.result.now in
    let many : n ≡ length es = ap length c.as_slice-equations.ensures ∙ o.count in
    let number : c.number_of.result ≡ length S = c.number_of.ensures ∙ ap (place (remaining P)) many ∙ sym (struck_long (remaining P) (map_from 0 (λ i e. equation_by a P (change_of P i) e) es) ∙ ap (place (remaining P)) (map_from_long 0 (λ i e. equation_by a P (change_of P i) e) es)) in
    let placed : c.number_of.result ≡ place (remaining P) n = c.number_of.ensures in
    let least = place_low (remaining P) n in
    let few = k.few in
    let l0 = left_first (count ++ (heads ++ (bodies ++ start))) w in
    let l1 = left_next {rest = heads ++ (bodies ++ start)} count c.put.new.self l0 (subst (λ (j : ℕ). Wrote (bits 5 j) w c.put.new.self) number (c.in_ok-put.ensures.writes (omega arith) (omega arith))) in
    let ts = listed out.equations in
    let there = headers_there a ts es o.headers k.headers in
    let there_read = subst (λ (ts : List Told). Pairs (HeaderThere a) ts es) (sym c.as_slice-equations.ensures) there in
    let l2 = left_next {rest = bodies ++ start} heads c.write_headers.new.writer l1 (wrote_same (sym (ap (λ (es : List Equation). flat (map header_bits es)) is)) (c.in_ok-write_headers.ensures a P es there_read)) in
    let hs = kept_headers out in
    let whole = equations_there a hs file ts es there (subst (λ (hs : List Header). Every (BodyFits a hs) es) (sym o.headers) k.bodies) o.bodies in
    let r = c.from_residual-in_err-write_bodies in
    left_none bodies start c.write_bodies.new.writer r.result r.ensures.0 l2 (subst (λ (es : List Equation). NoRoom (flat (map body_bits es)) c.write_headers.new.writer) (sym is) (c.in_err-write_bodies.ensures es short whole))

pub returns : goal.returns
returns g c = λ s short o k.
    let a = g.G.Algebra.meaning c.args.accepted.now.alg.now in
    let P = c.args.plan.now in
    let out = c.args.accepted.now.outline.now in
    let file = c.args.accepted.now.file.now in
    let w = c.args.writer.now in
    let es = s.equations in
    let f = λ (c : Change) (e : Equation). equation_by a P c e in
    let S = strike (remaining P) (map_from 0 (λ i e. equation_by a P (change_of P i) e) es) in
    let C = changed f P.equations es in
    let is : S ≡ C = struck_changed f P es in
    let count = bits 5 (length S) in
    let heads = flat (map header_bits S) in
    let bodies = flat (map body_bits S) in
    let start = bits 5 (place (remaining P) s.start) ++ flat (map (bits 8) (strike (mask (change_of P s.start)) s.values)) in
    let n = length c.as_slice-equations.result.now in
    let many : n ≡ length es = ap length c.as_slice-equations.ensures ∙ o.count in
    let number : c.number_of.result ≡ length S = c.number_of.ensures ∙ ap (place (remaining P)) many ∙ sym (struck_long (remaining P) (map_from 0 (λ i e. equation_by a P (change_of P i) e) es) ∙ ap (place (remaining P)) (map_from_long 0 (λ i e. equation_by a P (change_of P i) e) es)) in
    let placed : c.number_of.result ≡ place (remaining P) n = c.number_of.ensures in
    let least = place_low (remaining P) n in
    let few = k.few in
    let l0 = left_first (count ++ (heads ++ (bodies ++ start))) w in
    let l1 = left_next {rest = heads ++ (bodies ++ start)} count c.put.new.self l0 (subst (λ (j : ℕ). Wrote (bits 5 j) w c.put.new.self) number (c.in_ok-put.ensures.writes (omega arith) (omega arith))) in
    let ts = listed out.equations in
    let there = headers_there a ts es o.headers k.headers in
    let there_read = subst (λ (ts : List Told). Pairs (HeaderThere a) ts es) (sym c.as_slice-equations.ensures) there in
    let l2 = left_next {rest = bodies ++ start} heads c.write_headers.new.writer l1 (wrote_same (sym (ap (λ (es : List Equation). flat (map header_bits es)) is)) (c.in_ok-write_headers.ensures a P es there_read)) in
    let hs = kept_headers out in
    let whole = equations_there a hs file ts es there (subst (λ (hs : List Header). Every (BodyFits a hs) es) (sym o.headers) k.bodies) o.bodies in
    let l3 = left_next {rest = start} bodies c.write_bodies.new.writer l2 (wrote_same (sym (ap (λ (es : List Equation). flat (map body_bits es)) is)) (c.in_ok-write_bodies.ensures es short whole)) in
    let x = c.write_start in
    left_last start x.new.writer x.result l3 (x.ensures s o k)
