use Rattle.std.proofs.Common.{◌≡◌, ◌+◌, ◌<◌, ◌∷◌, map, drop, get_or, ap, arith, drop_of_length-le}
use Rattle.definitions.specs.Lists.{flat}
use Rattle.definitions.specs.Systems.{Quantified as ReadQuantified}
use Rattle.system.specs.declared.header.Quantifier.TheVariants.{Exists}
use Rattle.system.specs.declared.header.Quantified.{Quantified}
use Rattle.system.specs.Files.{kept_quantified}
use Rattle.passes.specs.Rewrites.{quantified_bits}
use Rattle.bits.proofs.Left.{left_first, left_next, left_end}
use Rattle.passes.proofs.Masks.{left_none, left_same, every_next}
use Rattle.passes.proofs.Along.{dropped}
use Rattle.passes.proofs.rewrite.write_variables.Goals as goal

abbrev unused : Quantified
unused = record { quantifier = Exists; sort = 0 }

pub loop-variable-init : goal.loop-variable-init
loop-variable-init c = λ h. (h, left_first (flat (map quantified_bits (map kept_quantified c.args.variables.now))) c.args.writer.now)

pub returns-in_err-write_variable : goal.returns-in_err-write_variable
returns-in_err-write_variable c = λ h.
    let xs = c.args.variables.now in
    let i = c.loop-variable.variable-index in
    let x = kept_quantified (get_or xs i unused) in
    let more = map kept_quantified (drop (i + 1) xs) in
    let e : map kept_quantified (drop i xs) ≡ x ∷ more = ap (map kept_quantified) (dropped xs i unused (omega arith)) in
    let l = c.loop-variable.invariant h in
    left_none (quantified_bits x) (flat (map quantified_bits more)) c.write_variable.new.writer c.from_residual.result c.from_residual.ensures.0 (left_same (ap (λ zs. flat (map quantified_bits zs)) e) l.1) (c.in_err-write_variable.ensures (every_next (λ (q : ReadQuantified). q.sort < 16) x e l.0).0)

pub loop-variable-preserved : goal.loop-variable-preserved
loop-variable-preserved c = λ h.
    let xs = c.args.variables.now in
    let i = c.loop-variable.variable-index in
    let x = kept_quantified (get_or xs i unused) in
    let more = map kept_quantified (drop (i + 1) xs) in
    let e : map kept_quantified (drop i xs) ≡ x ∷ more = ap (map kept_quantified) (dropped xs i unused (omega arith)) in
    let l = c.loop-variable.invariant h in
    let s = every_next (λ (q : ReadQuantified). q.sort < 16) x e l.0 in
    (s.1, left_next (quantified_bits x) c.write_variable.new.writer (left_same (ap (λ zs. flat (map quantified_bits zs)) e) l.1) (c.in_ok-write_variable.ensures s.0))

pub returns : goal.returns
returns c = λ h.
    let xs = c.args.variables.now in
    let l = c.loop-variable.invariant h in
    left_end (left_same (ap (λ zs. flat (map quantified_bits (map kept_quantified zs))) (drop_of_length-le xs {i = c.loop-variable.variable-index} (omega arith))) l.1)
