-- Neighbouring ranks of one sign make one block.
use Rattle.std.proofs.Common.{◌≡◌, Bor, ℕ, zero, suc, ◌+◌, ◌-◌, ◌<◌, ◌≤◌, Bool, true, false, ◌||◌, eqb, ◌≢◌, ◌⊎◌, List, [], ◌∷◌, ◌++◌, map, length, get_or, set, Some, None, Option, sym, refl, ap, ◌∙◌, subst, ap₂, inl, inr, le_refl, add_comm, one-mul, add-one, arith, length-append, length-set, get_or-set_other, get_or-set_same, eq-eqb, ne_eqb}
use mathlib.Core.Bool.{false≢true}
use Rattle.std.proofs.Math.Bool.{or-false}
use Rattle.std.proofs.lemmas.List.{get_or_append_left, get_or_push}
use native.Mathlib.Decide.{ℕ_discrete}
use Rattle.std.specs.Option.{option_copied, option_eq}
use Rattle.std.specs.List.{slice_get}
use Rattle.rows.specs.declared.row.Row.{Row}
use Rattle.rows.specs.Listed.{listed}
use Rattle.definitions.specs.Lists.{at, keep, from, up_to, is_some}
use Rattle.definitions.specs.Solution.{Sign, Block, edge}
use Rattle.definitions.specs.Order.{Order, Monotone, Enough}
use Rattle.definitions.specs.Order as order
use Rattle.definitions.specs.Fits.{Every}
use Rattle.definitions.specs.Nested.{solve}
use Rattle.definitions.specs.Boolean.{Variable, has_rank, rank_block, rank_of, sign_of_rank}
use Rattle.fixpoint.specs.Laws.{join}
use Rattle.fixpoint.proofs.Rounds.{after}
use Rattle.fixpoint.proofs.Signs.{sign_more, op_mono}
use Rattle.fixpoint.proofs.Merge.{merge, behind, enough_join}
use Rattle.system.specs.declared.header.Sign.{Sign as KeptSign}
use Rattle.system.specs.declared.header.Sign.TheVariants.{Least}
use Rattle.system.specs.Files.{kept_sign}
use Rattle.boolean.specs.declared.blocks.Blocks.{Blocks}
use Rattle.boolean.specs.Ranked.{variable_body, Signed, in_block, block_at, blocks_below, used_by, Merged}
use Rattle.theorems.proofs.Expands.{variables_mono}
use Rattle.theorems.proofs.Enough.{rank_enough}
use Rattle.theorems.proofs.Listing.{at_lt, from_long}
use Rattle.theorems.proofs.Marks.{from_mem}

-- blocks of one sign and the same members are alike, whatever their rounds
module _ {I V : Type 0} (O : Order V) (body : (I → V) → I → V) (m : Monotone O body) (bs : List (Block I)) where
  rounds_apart : (s : Sign) (i : I → Bool) (r q : ℕ) → Enough O (record { sign = s; inside = i; rounds = r }) → Enough O (record { sign = s; inside = i; rounds = q }) → (e : I → V) →
      solve O body (record { sign = s; inside = i; rounds = r } ∷ bs) e ≡ solve O body (record { sign = s; inside = i; rounds = q } ∷ bs) e
  rounds_apart s i r q nb nc e =
      ap (solve O body bs)
      (sym (sign_more O (record { sign = s; inside = i; rounds = r }) (λ u. body (solve O body bs u)) (op_mono O body m bs) e s nb q) ∙
      ap (after (edge O.bot O.top s) (record { sign = s; inside = i; rounds = r }) (λ u. body (solve O body bs u)) e) (add_comm r q) ∙
      sign_more O (record { sign = s; inside = i; rounds = q }) (λ u. body (solve O body bs u)) (op_mono O body m bs) e s nc r)

  pub block_same : (b c : Block I) → b.sign ≡ c.sign → ((x : I) → b.inside x ≡ c.inside x) → Enough O b → Enough O c → (e : I → V) → solve O body (b ∷ bs) e ≡ solve O body (c ∷ bs) e
  block_same b c p h nb nc e =
      let k : b ≡ record { sign = c.sign; inside = c.inside; rounds = b.rounds } = λ i. record { sign = p i; inside = λ x. h x i; rounds = b.rounds } in
      ap (λ z. solve O body (z ∷ bs) e) k ∙ rounds_apart c.sign c.inside b.rounds c.rounds (subst (Enough O) k nb) nc e

pub in_below : (vs : List Variable) (bs : List ℕ) (k j : ℕ) → in_block (at vs j) bs k ≡ true → j < length vs
in_below vs bs k j h = go (at vs j) refl h
  where
    go : (o : Option Variable) → at vs j ≡ o → in_block o bs k ≡ true → j < length vs
    go None e h = absurd (false≢true h)
    go (Some v) e h = at_lt vs j v e

pub block_enough : (vs : List Variable) (bs : List ℕ) (k : ℕ) (s : KeptSign) → Enough order.truths (block_at vs bs k s)
block_enough vs bs k s =
    record {
      members = up_to (length vs);
      all = λ j h. let l : j < length vs = in_below vs bs k j h in from_mem 0 (length vs) j (omega arith) (omega arith);
      rounds_le = rw (one-mul, from_long) (le_refl (length vs));
    }

pub blocks_enough : (vs : List Variable) (bs : List ℕ) (ss : List KeptSign) (k : ℕ) → Every (Enough order.truths) (blocks_below vs bs ss k)
blocks_enough vs bs ss zero = tt
blocks_enough vs bs ss (suc k) = (block_enough vs bs k (get_or ss k Least), blocks_enough vs bs ss k)

-- a further sign changes nothing below
signs_same : (vs : List Variable) (ss : List KeptSign) (s : KeptSign) (cs : List ℕ) (k : ℕ) → k ≤ length ss → blocks_below vs cs (ss ++ (s ∷ [])) k ≡ blocks_below vs cs ss k
signs_same vs ss s cs zero l = refl
signs_same vs ss s cs (suc k) l =
    ap₂ (λ (x : KeptSign) (c : List (Block ℕ)). block_at vs cs k x ∷ c) (get_or_append_left ss (s ∷ []) Least k (omega arith)) (signs_same vs ss s cs k (omega arith))

-- the rank r comes to the block n
module _ (vs : List Variable) (small : (i : ℕ) (v : Variable) → at vs i ≡ Some v → v.rank < 32) (bs : List ℕ) (r n : ℕ)
    (long : length bs ≡ 32) (r32 : r < 32) (free : get_or bs r 0 ≡ 32) (n32 : n < 32) where
  put_here : get_or (set bs r n) r 0 ≡ n
  put_here = get_or-set_same bs r n 0 (omega arith)

  other_at : (k : ℕ) → (k ≡ n → ⊥) → k < 32 → (o : Option Variable) → in_block o (set bs r n) k ≡ in_block o bs k
  other_at k ne l None = refl
  other_at k ne l (Some v) = go (ℕ_discrete v.rank r)
    where
      go : Dec (v.rank ≡ r) → eqb (get_or (set bs r n) v.rank 0) k ≡ eqb (get_or bs v.rank 0) k
      go (yes z) =
          let a : get_or (set bs r n) v.rank 0 ≡ n = ap (λ x. get_or (set bs r n) x 0) z ∙ put_here in
          let b : get_or bs v.rank 0 ≡ 32 = ap (λ x. get_or bs x 0) z ∙ free in
          ne_eqb (get_or (set bs r n) v.rank 0) k (λ y. ne (sym y ∙ a)) ∙ sym (ne_eqb (get_or bs v.rank 0) k (λ y. absurd (omega arith)))
      go (no z) = ap (λ x. eqb x k) (get_or-set_other bs r v.rank n 0 z)

  joins_at : (o : Option Variable) → in_block o (set bs r n) n ≡ (has_rank o r || in_block o bs n)
  joins_at None = refl
  joins_at (Some v) = go (ℕ_discrete v.rank r)
    where
      go : Dec (v.rank ≡ r) → eqb (get_or (set bs r n) v.rank 0) n ≡ (eqb v.rank r || eqb (get_or bs v.rank 0) n)
      go (yes z) = eq-eqb (get_or (set bs r n) v.rank 0) n (ap (λ x. get_or (set bs r n) x 0) z ∙ put_here) ∙ ap (λ x. x || eqb (get_or bs v.rank 0) n) (sym (eq-eqb v.rank r z))
      go (no z) = ap (λ x. eqb x n) (get_or-set_other bs r v.rank n 0 z) ∙ ap (λ x. x || eqb (get_or bs v.rank 0) n) (sym (ne_eqb v.rank r z))

  alone_at : ((x : ℕ) → x < 32 → get_or bs x 0 ≡ n → ⊥) → (j : ℕ) (o : Option Variable) → at vs j ≡ o → in_block o (set bs r n) n ≡ has_rank o r
  alone_at ne j None e = refl
  alone_at ne j (Some v) e = joins_at (Some v) ∙ ap (λ x. eqb v.rank r || x) (ne_eqb (get_or bs v.rank 0) n (ne v.rank (small j v e))) ∙ or-false (eqb v.rank r)

  pub below_same : (ss : List KeptSign) (k : ℕ) → k ≤ n → blocks_below vs (set bs r n) ss k ≡ blocks_below vs bs ss k
  below_same ss zero l = refl
  below_same ss (suc k) l =
      let h : (j : ℕ) → in_block (at vs j) (set bs r n) k ≡ in_block (at vs j) bs k = λ j. other_at k (λ z. absurd (omega arith)) (omega arith) (at vs j) in
      ap₂ (λ (b : Block ℕ) (c : List (Block ℕ)). b ∷ c) (λ i. record { sign = kept_sign (get_or ss k Least); inside = λ j. h j i; rounds = length vs }) (below_same ss k (omega arith))

  module _ (ss : List KeptSign) (s : KeptSign) (signed : sign_of_rank (rank_of vs r) ≡ kept_sign s) (R : List (Block ℕ)) where
    -- in the outermost block so far
    pub rank_joins : kept_sign (get_or ss n Least) ≡ kept_sign s → ((e : ℕ → Bool) → solve order.truths (variable_body vs) R e ≡ solve order.truths (variable_body vs) (blocks_below vs bs ss (suc n)) e) →
        (e : ℕ → Bool) → solve order.truths (variable_body vs) (rank_block vs r ∷ R) e ≡ solve order.truths (variable_body vs) (blocks_below vs (set bs r n) ss (suc n)) e
    rank_joins p ih e =
        let O = order.truths in
        let m = variables_mono vs in
        let B = block_at vs bs n (get_or ss n Least) in
        let nb = block_enough vs bs n (get_or ss n Least) in
        let nr = rank_enough vs r in
        behind O (variable_body vs) (rank_block vs r ∷ []) R (B ∷ blocks_below vs bs ss n) ih e ∙
        merge ℕ Bool O (variable_body vs) m [] (rank_block vs r) B (blocks_below vs bs ss n) (signed ∙ sym p) nr nb e ∙
        block_same O (variable_body vs) m (blocks_below vs bs ss n) (join (rank_block vs r) B) (block_at vs (set bs r n) n (get_or ss n Least)) (signed ∙ sym p) (λ j. sym (joins_at (at vs j)))
        (enough_join O (rank_block vs r) B nr nb) (block_enough vs (set bs r n) n (get_or ss n Least)) e ∙
        ap (λ c. solve O (variable_body vs) (block_at vs (set bs r n) n (get_or ss n Least) ∷ c) e) (sym (below_same ss n (le_refl n)))

    -- in a block of its own
    pub rank_opens : length ss ≡ n → ((x : ℕ) → x < 32 → get_or bs x 0 ≡ n → ⊥) →
        ((e : ℕ → Bool) → solve order.truths (variable_body vs) R e ≡ solve order.truths (variable_body vs) (blocks_below vs bs ss n) e) →
        (e : ℕ → Bool) → solve order.truths (variable_body vs) (rank_block vs r ∷ R) e ≡ solve order.truths (variable_body vs) (blocks_below vs (set bs r n) (ss ++ (s ∷ [])) (suc n)) e
    rank_opens ln ne ih e =
        let O = order.truths in
        let m = variables_mono vs in
        let here : get_or (ss ++ (s ∷ [])) n Least ≡ s = get_or_push ss s Least n ln in
        behind O (variable_body vs) (rank_block vs r ∷ []) R (blocks_below vs bs ss n) ih e ∙
        block_same O (variable_body vs) m (blocks_below vs bs ss n) (rank_block vs r) (block_at vs (set bs r n) n s) signed (λ j. sym (alone_at ne j (at vs j) refl))
        (rank_enough vs r) (block_enough vs (set bs r n) n s) e ∙
        ap₂ (λ (x : KeptSign) (c : List (Block ℕ)). solve O (variable_body vs) (block_at vs (set bs r n) n x ∷ c) e) (sym here)
        (sym (signs_same vs ss s (set bs r n) n (omega arith) ∙ below_same ss n (le_refl n)))

ranks_used : (vs : List Variable) (r k : ℕ) (b : Bool) → k + r ≡ 31 → used_by vs r ≡ b →
    map (rank_block vs) (keep (used_by vs) (from (32 - (k + 1)) (k + 1))) ≡
    map (rank_block vs) (elim b [ true ↦ r ∷ keep (used_by vs) (from (32 - k) k) | false ↦ keep (used_by vs) (from (32 - k) k) ])
ranks_used vs r k b h u =
    let i : 32 - (k + 1) ≡ r = omega arith in
    let j : suc r ≡ 32 - k = omega arith in
    ap₂ (λ x y. map (rank_block vs) (keep (used_by vs) (from x y))) i (add-one k) ∙
    ap (λ x. map (rank_block vs) (elim x [ true ↦ r ∷ keep (used_by vs) (from (suc r) k) | false ↦ keep (used_by vs) (from (suc r) k) ])) u ∙
    ap (λ x. map (rank_block vs) (elim b [ true ↦ r ∷ keep (used_by vs) (from x k) | false ↦ keep (used_by vs) (from x k) ])) j

module _ (ss : List (Option KeptSign)) (k r : ℕ) (all : Blocks) (g : Merged ss k all) (h : k + r ≡ 31) where
  used_by_lem : (vs : List Variable) → Signed vs ss → (o : Option KeptSign) → get_or ss r None ≡ o → used_by vs r ≡ is_some o
  used_by_lem vs d o e = sym (d.used r (omega arith)) ∙ ap is_some e

  pub rank_unused : get_or ss r None ≡ None → Merged ss (k + 1) all
  rank_unused e =
      record {
        long_ranks = g.long_ranks;
        few = omega (arith, g.few);
        free = λ x l. g.free x (omega arith);
        placed = g.placed;
        alike = λ vs d f. ap (λ z. solve order.truths (variable_body vs) z f) (ranks_used vs r k false h (used_by_lem vs d None e)) ∙ g.alike vs d f;
      }

  module _ (s : KeptSign) (e : get_or ss r None ≡ Some s) (n : ℕ) where
    free_here : get_or all.ranks r 0 ≡ 32
    free_here = g.free r (omega arith)

    pub rank_same : length (listed all.signs) ≡ suc n → get_or (listed all.signs) n Least ≡ s → (bs : List ℕ) → bs ≡ set all.ranks r n → Merged ss (k + 1) (record { signs = all.signs; ranks = bs })
    rank_same c p bs eb =
        let n32 : n < 32 = omega (arith, g.few) in
        subst (λ bs. Merged ss (k + 1) (record { signs = all.signs; ranks = bs })) (sym eb)
        (record {
          long_ranks = length-set all.ranks r n ∙ g.long_ranks;
          few = omega (arith, g.few);
          free = λ x l. let ne : x ≢ r = omega arith in rw get_or-set_other (g.free x (omega arith));
          placed = λ x l. go x l (ℕ_discrete x r);
          alike = λ vs d f.
              ap (λ z. solve order.truths (variable_body vs) z f) (ranks_used vs r k true h (used_by_lem vs d (Some s) e)) ∙
              rank_joins vs d.small all.ranks r n g.long_ranks (omega arith) free_here n32 (listed all.signs) s (d.sign r s (omega arith) e)
              (map (rank_block vs) (keep (used_by vs) (from (32 - k) k))) (ap kept_sign p)
              (λ f. g.alike vs d f ∙ ap (λ z. solve order.truths (variable_body vs) (blocks_below vs all.ranks (listed all.signs) z) f) c) f ∙
              ap (λ z. solve order.truths (variable_body vs) (blocks_below vs (set all.ranks r n) (listed all.signs) z) f) (sym c);
        })
      where
        go : (x : ℕ) → x < 32 → Dec (x ≡ r) → (get_or (set all.ranks r n) x 0 ≡ 32) ⊎ (get_or (set all.ranks r n) x 0 < length (listed all.signs))
        go x l (yes z) = let q : get_or (set all.ranks r n) x 0 ≡ n = ap (λ y. get_or (set all.ranks r n) y 0) z ∙ get_or-set_same all.ranks r n 0 (omega (arith, g.long_ranks)) in inr (omega arith)
        go x l (no z) = subst (λ y. (y ≡ 32) ⊎ (y < length (listed all.signs))) (sym (get_or-set_other all.ranks r x n 0 z)) (g.placed x l)

    pub rank_new : length (listed all.signs) ≡ n → (y : Row KeptSign 32) → listed y ≡ listed all.signs ++ (s ∷ []) → (bs : List ℕ) → bs ≡ set all.ranks r n → Merged ss (k + 1) (record { signs = y; ranks = bs })
    rank_new c y ey bs eb =
        let n32 : n < 32 = omega (arith, g.few) in
        let long : length (listed y) ≡ suc n = ap length ey ∙ length-append (listed all.signs) (s ∷ []) ∙ ap (λ z. z + 1) c ∙ add-one n in
        subst (λ bs. Merged ss (k + 1) (record { signs = y; ranks = bs })) (sym eb)
        (record {
          long_ranks = length-set all.ranks r n ∙ g.long_ranks;
          few = omega (arith, g.few);
          free = λ x l. let ne : x ≢ r = omega arith in rw get_or-set_other (g.free x (omega arith));
          placed = λ x l. go long x l (ℕ_discrete x r) (g.placed x l);
          alike = λ vs d f.
              ap (λ z. solve order.truths (variable_body vs) z f) (ranks_used vs r k true h (used_by_lem vs d (Some s) e)) ∙
              rank_opens vs d.small all.ranks r n g.long_ranks (omega arith) free_here n32 (listed all.signs) s (d.sign r s (omega arith) e)
              (map (rank_block vs) (keep (used_by vs) (from (32 - k) k))) c (λ x l q. apart x l q (g.placed x l))
              (λ f. g.alike vs d f ∙ ap (λ z. solve order.truths (variable_body vs) (blocks_below vs all.ranks (listed all.signs) z) f) c) f ∙
              ap₂ (λ zs z. solve order.truths (variable_body vs) (blocks_below vs (set all.ranks r n) zs z) f) (sym ey) (sym long);
        })
      where
        apart : (x : ℕ) → x < 32 → get_or all.ranks x 0 ≡ n → (get_or all.ranks x 0 ≡ 32) ⊎ (get_or all.ranks x 0 < length (listed all.signs)) → ⊥
        apart x l q (inl z) = absurd (omega (arith, g.few))
        apart x l q (inr z) = absurd (omega arith)

        go : length (listed y) ≡ suc n → (x : ℕ) → x < 32 → Dec (x ≡ r) → (get_or all.ranks x 0 ≡ 32) ⊎ (get_or all.ranks x 0 < length (listed all.signs)) →
            (get_or (set all.ranks r n) x 0 ≡ 32) ⊎ (get_or (set all.ranks r n) x 0 < length (listed y))
        go j x l (yes z) o = let q : get_or (set all.ranks r n) x 0 ≡ n = ap (λ y. get_or (set all.ranks r n) y 0) z ∙ get_or-set_same all.ranks r n 0 (omega (arith, g.long_ranks)) in inr (omega arith)
        go j x l (no z) (inl o) = inl (get_or-set_other all.ranks r x n 0 z ∙ o)
        go j x l (no z) (inr o) = let q = get_or-set_other all.ranks r x n 0 z in inr (omega arith)

-- the last of the signs, where it is the sign behind b
pub outermost : {E : Bor KeptSign → Bor KeptSign → Bool} → ((x y : Bor KeptSign) → E x y ≡ true → x.now ≡ y.now) → (ss : List KeptSign) (o : Option (Bor KeptSign)) (b : Bor KeptSign) →
    option_copied o ≡ slice_get ss (length ss - 1) → option_eq E o (Some b) ≡ true → (length ss ≡ suc (length ss - 1)) × (get_or ss (length ss - 1) Least ≡ b.now)
outermost h ss None b e k = absurd (false≢true k)
outermost h ss (Some a) b e k =
    let r = found ss (length ss - 1) a.now (sym e) in
    (omega (arith, r.0), r.1 ∙ h a b k)
  where
    found : (ss : List KeptSign) (i : ℕ) (s : KeptSign) → slice_get ss i ≡ Some s → (i < length ss) × (get_or ss i Least ≡ s)
    found [] i s e = absurd cc
    found (x ∷ ss) zero s e = let j : x ≡ s = cc in (omega arith, j)
    found (x ∷ ss) (suc i) s e = let r = found ss i s e in (omega (arith, r.0), r.1)

pub merged_none : (ss : List (Option KeptSign)) (k : ℕ) (all : Blocks) → k ≡ 0 → length all.ranks ≡ 32 → listed all.signs ≡ [] → ((r : ℕ) → r < 32 → get_or all.ranks r 0 ≡ 32) → Merged ss k all
merged_none ss k all n lr c h =
    subst (λ (k : ℕ). Merged ss k all) (sym n)
    (record {
      long_ranks = lr;
      few = let z : length (listed all.signs) ≡ 0 = ap length c in omega arith;
      free = λ r l. h r (omega arith);
      placed = λ r l. inl (h r l);
      alike = λ vs d e. ap (λ (zs : List KeptSign). solve order.truths (variable_body vs) (blocks_below vs all.ranks zs (length zs)) e) (sym c);
    })
