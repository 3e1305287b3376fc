-- One sweep over a block, and its start.
use Rattle.std.proofs.Common.{◌≡◌, ℕ, zero, suc, ◌+◌, ◌<◌, ◌≤◌, Bool, true, false, ◌||◌, eqb, List, length, get_or, set, Some, None, Option, sym, refl, ap, ◌∙◌, subst, true≢false, arith, get_or-set_other, get_or-set_same, ne_eqb, eqb-true}
use Rattle.std.proofs.Math.Logic.{∥∥₁_elim}
use Rattle.std.proofs.Math.Nat.{ℕ_set}
use Rattle.std.proofs.Math.Bool.{Bool-set}
use mathlib.Core.Path.{fun_ext}
use mathlib.Core.Bool.{false≢true}
use native.Mathlib.Decide.{ℕ_discrete, dec_lt}
use Rattle.definitions.specs.Lists.{at, up_to}
use Rattle.definitions.specs.Solution.{Block, put}
use Rattle.definitions.specs.Order.{Order, Le, dual, Below, Monotone}
use Rattle.definitions.specs.Order as order
use Rattle.faults.specs.declared.Reason.{Reason}
use Rattle.definitions.specs.Reading.{next, stop}
use Rattle.definitions.specs.Boolean.{Variable, said, body_at}
use Rattle.fixpoint.specs.Laws.{in_blocks}
use Rattle.fixpoint.proofs.Rounds.{total, antisym, cond_true, cond_false}
use Rattle.fixpoint.proofs.Signs.{mono_toward}
use Rattle.system.specs.declared.header.Sign.{Sign as KeptSign}
use Rattle.system.specs.declared.header.Sign.TheVariants.{Least, Greatest}
use Rattle.system.specs.Files.{kept_sign}
use Rattle.boolean.specs.declared.entries.Entry.{Entry}
use Rattle.boolean.specs.declared.entries.Variables.{Variables}
use Rattle.boolean.specs.Steps.{assigned, mapped, read_said}
use Rattle.boolean.specs.Files.{Kept, Described}
use Rattle.rows.specs.Listed.{listed, listed_within}
use Rattle.boolean.specs.declared.solver.Solver.{Solver}
use Rattle.boolean.specs.Solvers.{variables, body, inside}
use Rattle.boolean.proofs.Entering.{all_kept_long, kept_at}
use Rattle.boolean.specs.Ranked.{in_block, blocks_below, moving, moves_to, Visited, Swept, members}
use Rattle.theorems.proofs.Marks.{from_mem}
use Rattle.boolean.proofs.Weights.{lighter}
use Rattle.boolean.proofs.Merges.{in_below}

pub moves_le : (s : KeptSign) (a b : Bool) → (a ≡ moves_to s → b ≡ moves_to s) → Le (moving s) a b
moves_le Least true b h = h refl
moves_le Least false b h = refl
moves_le Greatest a false h = refl
moves_le Greatest true true h = refl
moves_le Greatest false true h = absurd (true≢false (h refl))

pub le_moves : (s : KeptSign) (a b : Bool) → Le (moving s) a b → a ≡ moves_to s → b ≡ moves_to s
le_moves Least true b h e = h
le_moves Least false b h e = absurd (false≢true e)
le_moves Greatest a false h e = refl
le_moves Greatest true true h e = e
le_moves Greatest false true h e = absurd (false≢true h)

module _ (s : KeptSign) (body : (ℕ → Bool) → ℕ → Bool) (inside : ℕ → Bool) (h : ℕ → Bool) where
  pub swept_start : (n : ℕ) → ((x : ℕ) → inside x ≡ true → x < n) → Swept s body inside n h h false
  swept_start n k =
      record {
        outside = λ x p. refl;
        moves = λ x. moves_le s (h x) (h x) (λ e. e);
        sound = λ g p q. p;
        rests = λ _. (refl, λ x l p. let z : x < n = k x p in absurd (omega arith));
        changes = λ e. absurd (false≢true e);
      }

  module _ (v : ℕ) (ts : List Bool) (c : Bool) (w : Swept s body inside (suc v) h (assigned ts) c) where
    pub swept_still : (ts' : List Bool) → Visited (moves_to s) body inside v ts ts' false → Swept s body inside v h (assigned ts') c
    swept_still ts' (same, rest) =
        subst (λ z. Swept s body inside v h (assigned z) c) (sym same)
        (record {
          outside = w.outside;
          moves = w.moves;
          sound = w.sound;
          rests = λ e. let r = w.rests e in (r.0, λ x l p. go r x l p (ℕ_discrete x v));
          changes = w.changes;
        })
      where
        go : (assigned ts ≡ h) × ((x : ℕ) → suc v ≤ x → inside x ≡ true → Le (moving s) (body h x) (h x)) → (x : ℕ) → v ≤ x → inside x ≡ true → Dec (x ≡ v) → Le (moving s) (body h x) (h x)
        go r x l p (yes z) =
            subst (λ (y : ℕ). Le (moving s) (body h y) (h y)) (sym z)
            (subst (λ (f : ℕ → Bool). Le (moving s) (body f v) (f v)) r.0 (moves_le s (body (assigned ts) v) (assigned ts v) (rest (ap inside (sym z) ∙ p))))
        go r x l p (no z) = r.1 x (omega arith) p

  module _ (m : Monotone order.truths body) (v n j : ℕ) (ts : List Bool) (c : Bool) (w : Swept s body inside n h (assigned ts) c) where
    pub swept_moved : v < length ts → (ts' : List Bool) → Visited (moves_to s) body inside v ts ts' true → Swept s body inside j h (assigned ts') true
    swept_moved l ts' (put, (is-in, (said, new))) =
        subst (λ z. Swept s body inside j h (assigned z) true) (sym put)
        (record {
          outside = λ x p. other x (λ z. true≢false (sym is-in ∙ ap inside (sym z) ∙ p)) ∙ w.outside x p;
          moves = λ x. up x (ℕ_discrete x v);
          sound = λ g p q. below g p q;
          rests = λ e. absurd (true≢false e);
          changes = λ e. (v, (is-in, λ z. new (le_moves s (h v) (assigned ts v) (w.moves v) (z ∙ here))));
        })
      where
        here : assigned (set ts v (moves_to s)) v ≡ moves_to s
        here = get_or-set_same ts v (moves_to s) false l

        other : (x : ℕ) → (x ≡ v → ⊥) → assigned (set ts v (moves_to s)) x ≡ assigned ts x
        other x ne = get_or-set_other ts v x (moves_to s) false ne

        up : (x : ℕ) → Dec (x ≡ v) → Le (moving s) (h x) (assigned (set ts v (moves_to s)) x)
        up x (yes z) = moves_le s (h x) (assigned (set ts v (moves_to s)) x) (λ _. ap (assigned (set ts v (moves_to s))) z ∙ here)
        up x (no z) = subst (Le (moving s) (h x)) (sym (other x z)) (w.moves x)

        below : (g : ℕ → Bool) → Below (moving s) h g → ((x : ℕ) → inside x ≡ true → Le (moving s) (body g x) (g x)) → Below (moving s) (assigned (set ts v (moves_to s))) g
        below g p q x = go (ℕ_discrete x v)
          where
            under : Below (moving s) (assigned ts) g
            under = w.sound g p q

            go : Dec (x ≡ v) → Le (moving s) (assigned (set ts v (moves_to s)) x) (g x)
            go (yes z) =
                subst (λ (y : ℕ). Le (moving s) (assigned (set ts v (moves_to s)) y) (g y)) (sym z)
                (moves_le s (assigned (set ts v (moves_to s)) v) (g v) (λ _. le_moves s (body g v) (g v) (q v is-in)
                (le_moves s (body (assigned ts) v) (body g v) (mono_toward (kept_sign s) order.truths body m (assigned ts) g under v) said)))
            go (no z) = subst (λ y. Le (moving s) y (g x)) (sym (other x z)) (under x)

-- the blocks inside have other members
pub apart : (vs : List Variable) (bs : List ℕ) (ss : List KeptSign) (k n j : ℕ) → n ≤ k → in_block (at vs j) bs k ≡ true → in_blocks (blocks_below vs bs ss n) j ≡ false
apart vs bs ss k zero j l h = refl
apart vs bs ss k (suc n) j l h = go (at vs j) h (apart vs bs ss k n j (omega arith) h)
  where
    go : (o : Option Variable) → in_block o bs k ≡ true → in_blocks (blocks_below vs bs ss n) j ≡ false → (in_block o bs n || in_blocks (blocks_below vs bs ss n) j) ≡ false
    go None e ih = ih
    go (Some v) e ih = ap (λ z. z || in_blocks (blocks_below vs bs ss n) j) (ne_eqb (get_or bs v.rank 0) n (λ z. let y : get_or bs v.rank 0 ≡ k = eqb-true (get_or bs v.rank 0) k e in absurd (omega arith))) ∙ ih

-- the truths of a block where its rounds begin
pub begun_more : (b : Block ℕ) (t : Bool) (h : ℕ → Bool) (i : ℕ) (ts ts' : List Bool) → ((x : ℕ) → x < i → assigned ts x ≡ put b (λ _. t) h x) → ((x : ℕ) → i ≤ x → assigned ts x ≡ h x) →
    ((x : ℕ) → (x ≡ i → ⊥) → assigned ts' x ≡ assigned ts x) → assigned ts' i ≡ put b (λ _. t) h i →
    ((x : ℕ) → x < i + 1 → assigned ts' x ≡ put b (λ _. t) h x) × ((x : ℕ) → i + 1 ≤ x → assigned ts' x ≡ h x)
begun_more b t h i ts ts' done rest other here = ((λ x l. go x l (ℕ_discrete x i)), λ x l. other x (λ z. absurd (omega arith)) ∙ rest x (omega arith))
  where
    go : (x : ℕ) → x < i + 1 → Dec (x ≡ i) → assigned ts' x ≡ put b (λ _. t) h x
    go x l (yes z) = ap (assigned ts') z ∙ here ∙ ap (put b (λ _. t) h) (sym z)
    go x l (no z) = other x z ∙ done x (omega arith)

module _ (b : Block ℕ) (t : Bool) (h : ℕ → Bool) (i : ℕ) (ts : List Bool)
    (done : (x : ℕ) → x < i → assigned ts x ≡ put b (λ _. t) h x) (rest : (x : ℕ) → i ≤ x → assigned ts x ≡ h x) where
  pub begun_set : b.inside i ≡ true → i < length ts →
      ((x : ℕ) → x < i + 1 → assigned (set ts i t) x ≡ put b (λ _. t) h x) × ((x : ℕ) → i + 1 ≤ x → assigned (set ts i t) x ≡ h x)
  begun_set p l =
      begun_more b t h i ts (set ts i t) done rest (λ x ne. get_or-set_other ts i x t false ne) (get_or-set_same ts i t false l ∙ sym (cond_true (b.inside i) t (h i) p))

  pub begun_skip : b.inside i ≡ false → ((x : ℕ) → x < i + 1 → assigned ts x ≡ put b (λ _. t) h x) × ((x : ℕ) → i + 1 ≤ x → assigned ts x ≡ h x)
  begun_skip p = begun_more b t h i ts ts done rest (λ x ne. refl) (rest i (omega arith) ∙ sym (cond_false (b.inside i) t (h i) p))

  pub begun_end : ((x : ℕ) → b.inside x ≡ true → x < i) → assigned ts ≡ put b (λ _. t) h
  begun_end k = fun_ext (λ x. go x (dec_lt x i))
    where
      in_no : (x : ℕ) → (x < i → ⊥) → (c : Bool) → b.inside x ≡ c → b.inside x ≡ false
      in_no x n true p = absurd (n (k x p))
      in_no x n false p = p

      go : (x : ℕ) → Dec (x < i) → assigned ts x ≡ put b (λ _. t) h x
      go x (yes l) = done x l
      go x (no l) = rest x (omega arith) ∙ sym (cond_false (b.inside x) t (h x) (in_no x l (b.inside x) refl))

-- a variable of what is being solved, by its entry
module _ (s : Solver) where
  pub count_told : length (listed s.variables.now.entries) ≡ length (variables s)
  count_told = ∥∥₁_elim s.described (ℕ_set _ _) (λ d. all_kept_long s.file.now (length (variables s)) (variables s) (listed s.variables.now.entries) d.entries)

  module _ (v : ℕ) (e : Entry) (es : List Entry) (same : es ≡ listed s.variables.now.entries) (is : e ≡ get_or es v e) (l : v < length es) where
    here : Described s.file.now (variables s) s.variables.now → (w : Variable) × (at (variables s) v ≡ Some w) × Kept s.file.now (length (variables s)) w e
    here d =
        let k = kept_at s.file.now (length (variables s)) (variables s) (listed s.variables.now.entries) d.entries v e (subst (λ es. v < length es) same l) in
        (k.0, k.1, subst (Kept s.file.now (length (variables s)) k.0) (sym (is ∙ ap (λ es. get_or es v e) same)) k.2)

    pub belongs_told : (k : ℕ) → eqb (get_or s.blocks.now.ranks e.rank 0) k ≡ inside s k v
    belongs_told k =
        ∥∥₁_elim s.described (Bool-set _ _)
        (λ d. ap (λ y. eqb (get_or s.blocks.now.ranks y 0) k) (here d).2.rank ∙ ap (λ o. in_block o s.blocks.now.ranks k) (sym (here d).1))

    module _ (h : ℕ → Bool) where
      body_is : Described s.file.now (variables s) s.variables.now → (q : ℕ) × (read_said (length es) 8 h s.file.now e.body ≡ next (body s h v) q)
      body_is d =
          let b = (here d).2.body in
          (b.0, ap (λ n. read_said n 8 h s.file.now e.body) (ap length same ∙ count_told) ∙ ap (mapped (λ p. said p h)) b.1 ∙ ap (λ o. next (body_at o h) b.0) (sym (here d).1))

      pub body_told : (b : Bool) (u : ℕ) → next b u ≡ read_said (length es) 8 h s.file.now e.body → b ≡ body s h v
      body_told b u z = ∥∥₁_elim s.described (Bool-set _ _) (λ d. let j : next b u ≡ next (body s h v) (body_is d).0 = z ∙ (body_is d).1 in cc)

      pub body_reads : (r : Reason) (u : ℕ) → stop r u ≡ read_said (length es) 8 h s.file.now e.body → ⊥
      body_reads r u z = ∥∥₁_elim s.described (λ x y. absurd x) (λ d. let j : stop r u ≡ next (body s h v) (body_is d).0 = z ∙ (body_is d).1 in cc)

pub few_entries : (x : Variables) → length (listed x.entries) ≤ 4096
few_entries x = listed_within x.entries

pub swept_next : (s : KeptSign) (body : (ℕ → Bool) → ℕ → Bool) (inside : ℕ → Bool) (h : ℕ → Bool) → Monotone order.truths body → (n v : ℕ) (ts ts' : List Bool) (c r t : Bool) →
    n ≡ suc v → t ≡ moves_to s → v < length ts → Swept s body inside n h (assigned ts) c → Visited t body inside v ts ts' r → Swept s body inside v h (assigned ts') (r || c)
swept_next s body inside h m n v ts ts' c r t en et l w z =
    go r (subst (λ x. Visited x body inside v ts ts' r) et z) (subst (λ (x : ℕ). Swept s body inside x h (assigned ts) c) en w)
  where
    go : (r : Bool) → Visited (moves_to s) body inside v ts ts' r → Swept s body inside (suc v) h (assigned ts) c → Swept s body inside v h (assigned ts') (r || c)
    go true z w = swept_moved s body inside h m v (suc v) v ts c w l ts' z
    go false z w = swept_still s body inside h v ts c w ts' z

-- a visit of whichever variable, where nothing is said of bodies at rest
pub swept_visit : (s : KeptSign) (body : (ℕ → Bool) → ℕ → Bool) (inside : ℕ → Bool) (h : ℕ → Bool) → Monotone order.truths body → (n v : ℕ) (ts ts' : List Bool) (c r t : Bool) →
    t ≡ moves_to s → v < length ts → Swept s body inside n h (assigned ts) c → Visited t body inside v ts ts' r → Swept s body inside n h (assigned ts') (r || c)
swept_visit s body inside h m n v ts ts' c r t et l w z = go r (subst (λ x. Visited x body inside v ts ts' r) et z)
  where
    go : (r : Bool) → Visited (moves_to s) body inside v ts ts' r → Swept s body inside n h (assigned ts') (r || c)
    go true z = swept_moved s body inside h m v n n ts c w l ts' z
    go false z = subst (λ u. Swept s body inside n h (assigned u) c) (sym z.0) w

pub begun_is : (b : Block ℕ) (t : Bool) (h : ℕ → Bool) (i : ℕ) (us ts : List Bool) → us ≡ ts →
    ((x : ℕ) → x < i → assigned ts x ≡ put b (λ _. t) h x) × ((x : ℕ) → i ≤ x → assigned ts x ≡ h x) →
    ((x : ℕ) → x < i → assigned us x ≡ put b (λ _. t) h x) × ((x : ℕ) → i ≤ x → assigned us x ≡ h x)
begun_is b t h i us ts e (p, q) = ((λ x l. ap (λ z. assigned z x) e ∙ p x l), λ x l. ap (λ z. assigned z x) e ∙ q x l)

-- a further sweep
module _ (s : KeptSign) (body : (ℕ → Bool) → ℕ → Bool) (inside : ℕ → Bool) (n : ℕ) (h f g : ℕ → Bool) (c : Bool) (w : Swept s body inside n h f c) where
  both_move : (x : ℕ) → Below (moving s) f g → Le (moving s) (h x) (g x)
  both_move x p = moves_le s (h x) (g x) (λ e. le_moves s (f x) (g x) (p x) (le_moves s (h x) (f x) (w.moves x) e))

  pub swept_again : Swept s body inside 0 f g true → Swept s body inside n h g true
  swept_again v =
      let z = v.changes refl in
      record {
        outside = λ x p. v.outside x p ∙ w.outside x p;
        moves = λ x. both_move x v.moves;
        sound = λ u p q. v.sound u (w.sound u p q) q;
        rests = λ e. absurd (true≢false e);
        changes = λ _. (z.0, (z.1.0, λ e. z.1.1 (between s (h z.0) (f z.0) (g z.0) (w.moves z.0) (v.moves z.0) e)));
      }
    where
      between : (s : KeptSign) (a b d : Bool) → Le (moving s) a b → Le (moving s) b d → a ≡ d → b ≡ d
      between s a b d p q e = antisym (moving s) q (subst (λ y. Le (moving s) y b) e p)

  pub swept_also : (j : ℕ) (r : Bool) → c ≡ true → Swept s body inside j f g r → Swept s body inside n h g true
  swept_also j r e v =
      let z = w.changes e in
      record {
        outside = λ x p. v.outside x p ∙ w.outside x p;
        moves = λ x. both_move x v.moves;
        sound = λ u p q. v.sound u (w.sound u p q) q;
        rests = λ e. absurd (true≢false e);
        changes = λ _. (z.0, (z.1.0, λ e. z.1.1 (first s (h z.0) (f z.0) (g z.0) (w.moves z.0) (v.moves z.0) e)));
      }
    where
      first : (s : KeptSign) (a b d : Bool) → Le (moving s) a b → Le (moving s) b d → a ≡ d → a ≡ b
      first s a b d p q e = antisym (moving s) p (subst (λ y. Le (moving s) b y) (sym e) q)

  pub swept_done : Swept s body inside 0 f g false → Swept s body inside 0 h g c
  swept_done v =
      let z = v.rests refl in
      subst (λ (u : ℕ → Bool). Swept s body inside 0 h u c) (sym z.0)
      (record {
        outside = w.outside;
        moves = w.moves;
        sound = w.sound;
        rests = λ e. ((w.rests e).0, subst (λ (u : ℕ → Bool). (x : ℕ) → 0 ≤ x → inside x ≡ true → Le (moving s) (body u x) (u x)) (w.rests e).0 z.1);
        changes = w.changes;
      })

pub swept_less : (s : KeptSign) (vs : List Variable) (bs : List ℕ) (k n : ℕ) (body : (ℕ → Bool) → ℕ → Bool) (f g : ℕ → Bool) →
    Swept s body (λ j. in_block (at vs j) bs k) n f g true → total (dual (moving s)) (members vs bs k) g < total (dual (moving s)) (members vs bs k) f
swept_less s vs bs k n body f g w =
    let c = w.changes refl in
    let l : c.0 < length vs = in_below vs bs k c.0 c.1.0 in
    lighter (moving s) (λ j. in_block (at vs j) bs k) (up_to (length vs)) f f g (λ x q. refl) w.moves c.0 c.1.0 (from_mem 0 (length vs) c.0 (omega arith) (omega arith)) c.1.1

-- a sweep whose answer is not asked makes no truth move back
pub swept_most : (s : KeptSign) (vs : List Variable) (bs : List ℕ) (k n : ℕ) (body : (ℕ → Bool) → ℕ → Bool) (f g : ℕ → Bool) (r : Bool) →
    Swept s body (λ j. in_block (at vs j) bs k) n f g r → total (dual (moving s)) (members vs bs k) g ≤ total (dual (moving s)) (members vs bs k) f
swept_most s vs bs k n body f g true w = let l = swept_less s vs bs k n body f g w in omega arith
swept_most s vs bs k n body f g false w = let e = ap (total (dual (moving s)) (members vs bs k)) (w.rests refl).0 in omega arith
