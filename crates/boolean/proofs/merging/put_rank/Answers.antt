use Rattle.std.proofs.Common.{◌≡◌, ◌+◌, ◌-◌, [], ◌∷◌, length, get_or, set, sym, refl, ap, ◌∙◌, subst, ap₂, arith, length-append}
use Rattle.std.proofs.lemmas.Bool.{not-false}
use Rattle.rows.specs.Listed.{listed}
use Rattle.rows.specs.declared.row.Row.{Row}
use Rattle.system.specs.declared.header.Sign.{Sign as KeptSign}
use Rattle.system.specs.declared.header.Sign.TheVariants.{Least}
use Rattle.boolean.specs.declared.blocks.Blocks.{Blocks}
use Rattle.boolean.specs.Ranked.{Merged}
use Rattle.boolean.proofs.Signs.{eq_true}
use Rattle.boolean.proofs.Merges.{outermost, rank_same, rank_new}
use Rattle.boolean.proofs.merging.put_rank.Goals as goal
use Rattle.boolean.proofs.merging.put_rank.Goals.{then-ne, else-ne}

pub returns : goal.returns
returns c ss k g h e =
    let all = c.args.all.now in
    let r = c.args.rank in
    let now = c.as_slice.result.now in
    let n = length (listed all.signs) in
    let em = c.as_slice-2.ensures in
    elim c.if-ne.branch [
      | then-ne w ↦
          let ey = ap (λ (b : Blocks). listed b.signs) w.all-is ∙ w.push.ensures.added c.requires.few in
          let er : c.if-ne.all.ranks ≡ all.ranks = ap (λ (b : Blocks). b.ranks) w.all-is in
          let long = ap length (em ∙ ey) ∙ length-append (listed all.signs) (c.args.sign ∷ []) in
          let m : length c.as_slice-2.result.now - 1 ≡ n = omega arith in
          rank_new ss k r all g h c.args.sign e n refl c.if-ne.all.signs ey (set c.if-ne.all.ranks r (length c.as_slice-2.result.now - 1)) (ap₂ (λ bs x. set bs r x) er m)
      | else-ne w ↦
          let o = outermost (λ x y. eq_true x.now y.now) now c.last.result _ c.last.ensures.value (not-false _ (sym c.ne.ensures ∙ w.if-ne.false)) in
          let s0 = c.as_slice.ensures in
          let es : c.if-ne.all.signs ≡ all.signs = ap (λ (b : Blocks). b.signs) w.all-is in
          let er : c.if-ne.all.ranks ≡ all.ranks = ap (λ (b : Blocks). b.ranks) w.all-is in
          let m : length c.as_slice-2.result.now ≡ length now = ap length (em ∙ ap listed es ∙ sym s0) in
          let last = length now - 1 in
          let bs = set c.if-ne.all.ranks r (length c.as_slice-2.result.now - 1) in
          subst (λ (z : Row KeptSign 32). Merged ss (k + 1) (record { signs = z; ranks = bs })) (sym es)
          (rank_same ss k r all g h c.args.sign e last (ap length (sym s0) ∙ o.0) (ap (λ xs. get_or xs last Least) (sym s0) ∙ o.1) bs (ap₂ (λ bs x. set bs r x) er (ap (λ x. x - 1) m)))
    ]
