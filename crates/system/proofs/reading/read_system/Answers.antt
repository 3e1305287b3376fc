use Rattle.std.proofs.Common.{map, length, take as front, sym, ap, ◌∙◌, subst}
use Rattle.definitions.specs.Reading.{next, take, repeated, one_by_one}
use Rattle.definitions.specs.ReadSystem.{read_header, read_body, read_target, read_value_of}
use Rattle.bits.proofs.InRow.{passed}
use Rattle.system.specs.Bodies.{places_of}
use Rattle.system.specs.Files.{kept_header}
use Rattle.system.specs.Steps.{placed}
use Rattle.system.specs.Whole.{SystemTold}
use Rattle.system.proofs.Outlines.{no_headers, system_read, rest_no_bodies, rest_no_target, rest_no_values, outlined}
use Rattle.system.proofs.reading.read_system.Goals as goal

pub returns-in_err-headers-clause-reads : goal.returns-in_err-headers-clause-reads
returns-in_err-headers-clause-reads g c =
    let a = g.G.Algebra.meaning c.args.alg.now in
    let f = c.args.cursor.now.bytes.now in
    let n = c.in_ok-count.count in
    let m = c.field.new.self in
    let b = c.in_ok-count.ensures.reads.1 in
    let e = c.in_ok-count.ensures.reads.0 ∙ ap (take 5 f) c.requires in
    let z = c.in_err-headers.field-0.0 in
    subst (SystemTold a f) (sym (passed c.from_residual-in_err-headers.result z c.from_residual-in_err-headers.ensures.1)) (no_headers a f n m.at e c.if-count-eq0.false z.reason z.place (c.in_err-headers.ensures.0 ∙ ap (λ g. repeated (read_header a) n g m.at) b))

pub returns-in_err-equations-clause-reads : goal.returns-in_err-equations-clause-reads
returns-in_err-equations-clause-reads g c =
    let a = g.G.Algebra.meaning c.args.alg.now in
    let f = c.args.cursor.now.bytes.now in
    let n = c.in_ok-count.count in
    let m = c.field.new.self in
    let b = c.in_ok-count.ensures.reads.1 in
    let e = c.in_ok-count.ensures.reads.0 ∙ ap (take 5 f) c.requires in
    let ks = c.as_slice-headers.result.now in
    let hs = map kept_header ks in
    let p = c.read_headers.new.cursor.at in
    let b = c.in_ok-headers.ensures.1 ∙ b in
    let k = ap (λ xs. next (map kept_header xs) p) c.as_slice-headers.ensures ∙ c.in_ok-headers.ensures.0 ∙ ap (λ g. repeated (read_header a) n g m.at) c.in_ok-count.ensures.reads.1 in
    let s = system_read a f n m.at e c.if-count-eq0.false hs p k in
    let z = c.in_err-equations.field-0.0 in
    subst (SystemTold a f) (sym (passed c.from_residual-in_err-equations.result z c.from_residual-in_err-equations.ensures.1)) (s ∙ rest_no_bodies a hs f p z.reason z.place (c.in_err-equations.ensures.reads.0 ∙ ap (λ g. placed (one_by_one (read_body a hs) hs g p)) b))

pub returns-in_err-equation-clause-reads : goal.returns-in_err-equation-clause-reads
returns-in_err-equation-clause-reads g c =
    let a = g.G.Algebra.meaning c.args.alg.now in
    let f = c.args.cursor.now.bytes.now in
    let n = c.in_ok-count.count in
    let m = c.field.new.self in
    let b = c.in_ok-count.ensures.reads.1 in
    let e = c.in_ok-count.ensures.reads.0 ∙ ap (take 5 f) c.requires in
    let ks = c.as_slice-headers.result.now in
    let hs = map kept_header ks in
    let p = c.read_headers.new.cursor.at in
    let b = c.in_ok-headers.ensures.1 ∙ b in
    let k = ap (λ xs. next (map kept_header xs) p) c.as_slice-headers.ensures ∙ c.in_ok-headers.ensures.0 ∙ ap (λ g. repeated (read_header a) n g m.at) c.in_ok-count.ensures.reads.1 in
    let s = system_read a f n m.at e c.if-count-eq0.false hs p k in
    let q = c.check_bodies.new.cursor.at in
    let w = c.in_ok-equations.ensures.reads.0 ∙ ap (λ g. placed (one_by_one (read_body a hs) hs g p)) b in
    let d = c.in_ok-equations.ensures.reads.1 ∙ b in
    let z = c.in_err-equation.field-0.0 in
    subst (SystemTold a f) (sym (passed c.from_residual-in_err-equation.result z c.from_residual-in_err-equation.ensures.1)) (s ∙ rest_no_target a hs f p q w z.reason z.place (c.in_err-equation.ensures.reads.0 ∙ ap (λ g. read_target hs g q) d))

pub returns-in_err-values-clause-reads : goal.returns-in_err-values-clause-reads
returns-in_err-values-clause-reads g c =
    let a = g.G.Algebra.meaning c.args.alg.now in
    let f = c.args.cursor.now.bytes.now in
    let n = c.in_ok-count.count in
    let m = c.field.new.self in
    let b = c.in_ok-count.ensures.reads.1 in
    let e = c.in_ok-count.ensures.reads.0 ∙ ap (take 5 f) c.requires in
    let ks = c.as_slice-headers.result.now in
    let hs = map kept_header ks in
    let p = c.read_headers.new.cursor.at in
    let b = c.in_ok-headers.ensures.1 ∙ b in
    let k = ap (λ xs. next (map kept_header xs) p) c.as_slice-headers.ensures ∙ c.in_ok-headers.ensures.0 ∙ ap (λ g. repeated (read_header a) n g m.at) c.in_ok-count.ensures.reads.1 in
    let s = system_read a f n m.at e c.if-count-eq0.false hs p k in
    let q = c.check_bodies.new.cursor.at in
    let w = c.in_ok-equations.ensures.reads.0 ∙ ap (λ g. placed (one_by_one (read_body a hs) hs g p)) b in
    let d = c.in_ok-equations.ensures.reads.1 ∙ b in
    let h = c.in_ok-equation.header in
    let i = c.in_ok-equation.equation in
    let u = c.read_target.new.cursor.at in
    let t = c.in_ok-equation.ensures.reads.0 ∙ ap (λ g. read_target hs g q) d in
    let o = c.in_ok-equation.ensures.reads.1 ∙ d in
    let z = c.in_err-values.field-0.0 in
    subst (SystemTold a f) (sym (passed c.from_residual-in_err-values.result z c.from_residual-in_err-values.ensures.1)) (s ∙ rest_no_values a hs f p q w i (kept_header h) u t z.reason z.place (c.in_err-values.ensures.reads.0 ∙ ap (λ zs. one_by_one (read_value_of a) zs c.read_target.new.cursor.bytes.now u) c.as_slice.ensures ∙ ap (λ g. one_by_one (read_value_of a) (kept_header h).sorts g u) o))

pub returns-clause-reads : goal.returns-clause-reads
returns-clause-reads g c =
    let a = g.G.Algebra.meaning c.args.alg.now in
    let f = c.args.cursor.now.bytes.now in
    let n = c.in_ok-count.count in
    let m = c.field.new.self in
    let b = c.in_ok-count.ensures.reads.1 in
    let e = c.in_ok-count.ensures.reads.0 ∙ ap (take 5 f) c.requires in
    let ks = c.as_slice-headers.result.now in
    let hs = map kept_header ks in
    let p = c.read_headers.new.cursor.at in
    let b = c.in_ok-headers.ensures.1 ∙ b in
    let k = ap (λ xs. next (map kept_header xs) p) c.as_slice-headers.ensures ∙ c.in_ok-headers.ensures.0 ∙ ap (λ g. repeated (read_header a) n g m.at) c.in_ok-count.ensures.reads.1 in
    let s = system_read a f n m.at e c.if-count-eq0.false hs p k in
    let q = c.check_bodies.new.cursor.at in
    let w = c.in_ok-equations.ensures.reads.0 ∙ ap (λ g. placed (one_by_one (read_body a hs) hs g p)) b in
    let d = c.in_ok-equations.ensures.reads.1 ∙ b in
    let h = c.in_ok-equation.header in
    let u = c.read_target.new.cursor.at in
    let t = c.in_ok-equation.ensures.reads.0 ∙ ap (λ g. read_target hs g q) d in
    let o = c.in_ok-equation.ensures.reads.1 ∙ d in
    let ss = c.as_slice.result.now in
    outlined a f _ ks p q u (kept_header h) (front (length ss) c.in_ok-values.values) c.in_ok-equations.ensures.equations.0 s w (c.in_ok-equations.ensures.equations.1 ∙ ap (λ g. places_of (read_body a hs) hs g p) b) t
    (c.in_ok-values.ensures.reads.0 ∙ ap (λ zs. one_by_one (read_value_of a) zs c.read_target.new.cursor.bytes.now u) c.as_slice.ensures ∙ ap (λ g. one_by_one (read_value_of a) (kept_header h).sorts g u) o) c.in_ok-values.ensures.zeros
