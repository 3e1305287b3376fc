use Rattle.std.proofs.Common.{◌≡◌, ◌+◌, [], ◌∷◌, ◌++◌, map, length, take, drop, Some, sym, ap, ◌∙◌, add-one, arith, length-take-le}
use Rattle.std.proofs.Math.Seq.{take-suc}
use Rattle.std.proofs.lemmas.List.{length-map, map-append, take_all}
use Rattle.definitions.specs.Lists.{at}
use Rattle.definitions.specs.ReadSystem.{read_body}
use Rattle.bits.proofs.InRow.{passed}
use Rattle.rows.specs.Listed.{listed}
use Rattle.system.specs.declared.outline.Equation.{Equation}
use Rattle.system.specs.Bodies.{places_of}
use Rattle.system.specs.Files.{kept_header}
use Rattle.system.specs.Steps.{placed}
use Rattle.system.proofs.Lists.{at_item}
use Rattle.system.proofs.Rows.{stopped, skipped_next, skipped_stop, skipped_end}
use Rattle.system.proofs.Walks.{places_next, places_end}
use Rattle.system.proofs.bodies.check_bodies.Goals as goal

pub returns-in_err-check_body : goal.returns-in_err-check_body
returns-in_err-check_body g c =
    let hs = map kept_header c.args.headers.now in
    let r = read_body (g.G.Algebra.meaning c.args.alg.now) hs in
    let l = c.loop-header in
    let x = c.header-item.result in
    let h : at hs l.header-index ≡ Some (kept_header x) = sym (at_item kept_header c.args.headers.now l.header-index x (omega arith) c.header-item.is) in
    let e = c.in_err-check_body.field-0.0 in
    let y = c.in_err-check_body.ensures in
    record {
      reads = (stopped (λ _. tt) c.check_body.new.cursor.at c.from_residual.result e _ c.from_residual.ensures.1 (skipped_stop r hs e (kept_header x) h l.invariant.2 y.0), y.1 ∙ l.invariant.2.same);
      equations = rw (passed c.from_residual.result e c.from_residual.ensures.1) tt;
    }

pub unwrap-requires : goal.unwrap-requires
unwrap-requires g c =
    let l = c.loop-header in
    let n = length-map (listed l.equations) (λ (e : Equation). e.header) in
    let k = ap length l.invariant.0 in
    let j = length-take-le l.header-index c.args.headers.now (omega arith) in
    let few = c.requires in
    c.push.ensures.room.1 (omega arith)

pub loop-header-preserved : goal.loop-header-preserved
loop-header-preserved g c =
    let hs = map kept_header c.args.headers.now in
    let r = read_body (g.G.Algebra.meaning c.args.alg.now) hs in
    let l = c.loop-header in
    let x = c.header-item.result in
    let h : at hs l.header-index ≡ Some (kept_header x) = sym (at_item kept_header c.args.headers.now l.header-index x (omega arith) c.header-item.is) in
    let n = length-map (listed l.equations) (λ (e : Equation). e.header) in
    let k = ap length l.invariant.0 in
    let j = length-take-le l.header-index c.args.headers.now (omega arith) in
    let few = c.requires in
    let i = l.header-index in
    let f = c.args.cursor.now.bytes.now in
    let new = c.check_body.new.cursor in
    let ts = listed l.equations in
    let t : Equation = record { header = x; body = l.cursor.at } in
    let added : listed c.push.new.self ≡ ts ++ (t ∷ []) = c.push.ensures.added (omega arith) in
    let more : take i c.args.headers.now ++ (x ∷ []) ≡ take (i + 1) c.args.headers.now =
    ap (λ z. take i c.args.headers.now ++ (z ∷ [])) c.header-item.is ∙ sym (take-suc c.args.headers.now i x (omega arith)) ∙ ap (λ k. take k c.args.headers.now) (sym (add-one i)) in (
      ap (map (λ (e : Equation). e.header)) added ∙ map-append (λ (e : Equation). e.header) ts (t ∷ []) ∙ ap (λ zs. zs ++ (x ∷ [])) l.invariant.0 ∙ more,
      l.invariant.1 ∙
          places_next r hs f (kept_header x) (map (λ (e : Equation). e.body) ts) i l.cursor.at new.at h (c.in_ok-check_body.ensures.0 ∙ ap (λ g. placed (r (kept_header x) g l.cursor.at)) l.invariant.2.same) ∙
          ap (λ zs. zs ++ places_of r (drop (i + 1) hs) f new.at) (sym (map-append (λ (e : Equation). e.body) ts (t ∷ [])) ∙ ap (map (λ (e : Equation). e.body)) (sym added)),
      skipped_next r hs new (kept_header x) h l.invariant.2 c.in_ok-check_body.ensures,
    )

pub returns : goal.returns
returns g c =
    let hs = map kept_header c.args.headers.now in
    let r = read_body (g.G.Algebra.meaning c.args.alg.now) hs in
    let l = c.loop-header in
    let n = length-map c.args.headers.now kept_header in
    let ts = listed l.equations in
    record {
      reads = (skipped_end r hs (omega arith) l.invariant.2, l.invariant.2.same);
      equations = (l.invariant.0 ∙ take_all l.header-index c.args.headers.now (omega arith), sym (l.invariant.1 ∙ places_end r hs c.args.cursor.now.bytes.now (map (λ (e : Equation). e.body) ts) l.header-index l.cursor.at (omega arith)));
    }
