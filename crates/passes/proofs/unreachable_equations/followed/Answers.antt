use Rattle.std.proofs.Common.{◌≡◌, Bor, length, get_or, Some, Option, unwrap_or, sym, ap, ◌∙◌, subst, arith}
use mathlib.Core.Bool.{false≢true}
use Rattle.std.specs.Option.{option_map, IsSome}
use Rattle.rows.specs.Listed.{listed_within}
use Rattle.definitions.specs.Lists.{at}
use Rattle.definitions.specs.Fits.{header_of}
use Rattle.theorems.proofs.Listing.{at_some, get_or_some}
use Rattle.theorems.proofs.Numbers.{at_none}
use Rattle.theorems.proofs.Gathered.{reachable_low}
use Rattle.firstcome.specs.Coming.{listed}
use Rattle.rows.specs.Listed.{listed as row}
use Rattle.system.specs.declared.outline.Equation.{Equation as Told}
use Rattle.passes.specs.Comes.{reached}
use Rattle.passes.proofs.Coming.{brought_none}
use Rattle.passes.proofs.ComingU.{led_next, led_all, called_reached, few_reached}
use Rattle.passes.proofs.unreachable_equations.followed.Goals as goal

pub loop-k-init : goal.loop-k-init
loop-k-init g c = λ s short out fit room. brought_none (reached s) c.args.list.now room (λ x w. let l = w.3 in omega arith)

pub returns-in_default : goal.returns-in_default
returns-in_default g c = λ s short out fit room.
    led_all s (reached s) c.loop-k.k c.args.list.now c.loop-k.list (at_none (listed c.loop-k.list) c.loop-k.k (sym c.get.ensures ∙ c.in_default.is)) (c.loop-k.invariant s short out fit room)

pub returns-in_err-equation : goal.returns-in_err-equation
returns-in_err-equation g c = λ s short out fit room.
    let y = c.in-Some.number in
    let here : at (listed c.loop-k.list) c.loop-k.k ≡ _ = sym c.get.ensures ∙ c.in-Some.is in
    let low = reachable_low s y.index ((c.loop-k.invariant s short out fit room).room.pass c.loop-k.k y here) in
    absurd (false≢true (subst (λ (o : Option (Bor Told)). IsSome o) c.in_err-equation.ensures.ok_part (c.get-in-loop-k.ensures.lookup.2 (omega (arith, out.count, ap length c.as_slice-equations.ensures)))))

pub returns-in_err-body_leads : goal.returns-in_err-body_leads
returns-in_err-body_leads g c = λ s short out fit room.
    let a = g.G.Algebra.meaning c.args.accepted.now.alg.now in
    let f = c.args.accepted.now.file.now in
    let ts = row c.args.accepted.now.outline.now.equations in
    let y = c.in-Some.number in
    let l = c.loop-k.invariant s short out fit room in
    let here : at (listed c.loop-k.list) c.loop-k.k ≡ _ = sym c.get.ensures ∙ c.in-Some.is in
    let ok = l.room.pass c.loop-k.k y here in
    let low = reachable_low s y.index ok in
    let e = at_some s.equations y.index low in
    let t = at_some ts y.index (omega (arith, out.count)) in
    let is : t.0 ≡ c.in_ok-equation.equation.now =
    sym (get_or_some t.0 ts y.index t.0 t.1) ∙ ap (λ us. get_or us y.index t.0) (sym c.as_slice-equations.ensures) ∙
    sym (c.get-in-loop-k.ensures.lookup.4 (omega arith) t.0) ∙ ap (λ (o : _). unwrap_or (option_map (λ (x : Bor Told). x.now) o) t.0) c.in_ok-equation.ensures.ok_part in
    let r = out.bodies y.index e.0 c.in_ok-equation.equation.now e.1 (t.1 ∙ ap Some is) in
    absurd (c.in_err-body_leads.ensures (header_of e.0) e.0 r.0 short r.1 (reached s) l.room (called_reached a s fit y e.0 ok e.1))

pub loop-k-preserved : goal.loop-k-preserved
loop-k-preserved g c = λ s short out fit room.
    let a = g.G.Algebra.meaning c.args.accepted.now.alg.now in
    let f = c.args.accepted.now.file.now in
    let ts = row c.args.accepted.now.outline.now.equations in
    let y = c.in-Some.number in
    let l = c.loop-k.invariant s short out fit room in
    let here : at (listed c.loop-k.list) c.loop-k.k ≡ _ = sym c.get.ensures ∙ c.in-Some.is in
    let ok = l.room.pass c.loop-k.k y here in
    let low = reachable_low s y.index ok in
    let e = at_some s.equations y.index low in
    let t = at_some ts y.index (omega (arith, out.count)) in
    let is : t.0 ≡ c.in_ok-equation.equation.now =
    sym (get_or_some t.0 ts y.index t.0 t.1) ∙ ap (λ us. get_or us y.index t.0) (sym c.as_slice-equations.ensures) ∙
    sym (c.get-in-loop-k.ensures.lookup.4 (omega arith) t.0) ∙ ap (λ (o : _). unwrap_or (option_map (λ (x : Bor Told). x.now) o) t.0) c.in_ok-equation.ensures.ok_part in
    let r = out.bodies y.index e.0 c.in_ok-equation.equation.now e.1 (t.1 ∙ ap Some is) in
    led_next s (reached s) c.loop-k.k y e.0 here e.1 l (c.in_ok-body_leads.ensures (header_of e.0) e.0 r.0 short r.1 (reached s) l.room (called_reached a s fit y e.0 ok e.1))

pub returns : goal.returns
returns g c = λ s short out fit room.
    let l = c.loop-k.invariant s short out fit room in
    let few = few_reached s 31 (omega (arith, out.count, listed_within c.args.accepted.now.outline.now.equations)) (listed c.loop-k.list) l.room.once l.room.pass in
    led_all s (reached s) c.loop-k.k c.args.list.now c.loop-k.list (omega arith) l
