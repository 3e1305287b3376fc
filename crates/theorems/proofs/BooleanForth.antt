-- A Boolean file that is read is the file of its variables, which fit.
use Rattle.faults.specs.declared.Reason.TheVariants.{TooDeep, NoSuchName, RankOfBothSigns}
use Rattle.std.proofs.Common.{◌≡◌, ℕ, zero, suc, ◌+◌, ◌-◌, ◌*◌, ◌<◌, ◌≤◌, Bool, true, false, not as flip, ◌&&◌, eqb, ◌⊎◌, List, [], ◌∷◌, ◌++◌, map, length, get_or, Some, sym, refl, ap, ◌∙◌, subst, subst₂, inl, inr, true≢false, append_assoc, append-nil, zero-add, arith}
use mathlib.Core.Bool.{false≢true}
use Rattle.std.proofs.lemmas.Bool.{eqb-true, eq-eqb}
use Rattle.definitions.specs.Lists.{at, flat, some}
use Rattle.definitions.specs.Bits.{field, bits, Stands}
use Rattle.definitions.specs.Solution.{Sign, least, greatest}
use Rattle.definitions.specs.Reading.{next, stop, take, take_for, give, fail, below, repeated, ◌>>=◌}
use Rattle.definitions.specs.ReadSystem.{sign_of}
use Rattle.definitions.specs.Written.{sign_bits}
use Rattle.definitions.specs.Boolean.{Form, known, all, any, var, forms, count, Variable, form_bits, forms_bits, variable_bits, boolean_written, read_token, same_sign, clashes, read_variables, read_boolean, rank_of, sign_of_rank}
use Rattle.definitions.specs.Fits.{Every}
use Rattle.definitions.specs.FileFits.{FormFits, fit_known, fit_all, fit_any, fit_var, FormsFit, fit_nil, fit_cons, BooleanFits}
use Rattle.theorems.specs.FileLaws.{BooleansWrittenBack}
use Rattle.theorems.proofs.Fields.{stands_most, follow_inv, below_inv}
use Rattle.theorems.proofs.Sounds.{Sound, sound_then, sound_last, sound_take, sound_for, sound_must, sound_fail, sound_here, sound_give, sound_repeated, sound_map, ◌⊕◌, sign_same}
use Rattle.theorems.proofs.Repack.{ended_got, repacked}
use Rattle.theorems.proofs.BooleanBack.{boolean_bits, boolean_bits_lem}
use Rattle.theorems.proofs.Shapes.{forms_count}
use Rattle.theorems.proofs.Listing.{none_some, some_same}
use Rattle.theorems.proofs.Numbers.{at_snoc, every_has}

forms_written : (ps : List (Form ℕ)) → flat (map form_bits ps) ≡ forms_bits (forms ps)
forms_written [] = refl
forms_written (p ∷ ps) = ap (λ bs. form_bits p ++ bs) (forms_written ps)

forms_fit : (n d : ℕ) (ps : List (Form ℕ)) → Every (FormFits n d) ps → FormsFit n d (forms ps)
forms_fit n d [] h = fit_nil
forms_fit n d (p ∷ ps) h = fit_cons h.0 (forms_fit n d ps h.1)

module _ (f : List ℕ) where
  module _ (n : ℕ) where
    -- all or any of parts
    sound_parts : (d j : ℕ) (g : List (Form ℕ) → Form ℕ) → Sound f (read_token n d) (λ p bs. (bs ≡ form_bits p) × FormFits n d p) →
        ((ps : List (Form ℕ)) → form_bits (g ps) ≡ bits 3 j ++ (bits 8 (count (forms ps) - 1) ++ forms_bits (forms ps))) →
        ((ps : List (Form ℕ)) → 1 ≤ count (forms ps) → count (forms ps) ≤ 256 → FormsFit n d (forms ps) → FormFits n (suc d) (g ps)) →
        (bs : List ℕ) → bs ≡ bits 3 j →
        Sound f (take 8 >>= (λ m. repeated (read_token n d) (suc m) >>= (λ ps. give (g ps)))) (λ y cs. (bs ++ cs ≡ form_bits y) × FormFits n (suc d) y)
    sound_parts d j g ih w v bs e =
        sound_then f (take 8) _ _ (sound_take f 8) (λ m b₂ r₂.
        sound_last f (repeated (read_token n d) (suc m)) g _ (sound_repeated f (read_token n d) form_bits (FormFits n d) ih (suc m)) (λ ps b₃ r₃.
        let c : count (forms ps) ≡ suc m = forms_count ps ∙ r₃.1 in
        let k : m ≡ count (forms ps) - 1 = omega arith in (
          (e ⊕ (r₂.0 ∙ ap (bits 8) k) ⊕ (r₃.0 ∙ forms_written ps)) ∙ sym (w ps),
          v ps (omega arith) (omega (arith, r₂.1)) (forms_fit n d ps r₃.2),
        )))

    sound_kind : (d p : ℕ) → Sound f (read_token n d) (λ q bs. (bs ≡ form_bits q) × FormFits n d q) → (k : ℕ) (bs : List ℕ) → bs ≡ bits 3 k →
        Sound f (get_or (give (known false) ∷ give (known true) ∷
        (take 8 >>= (λ m. repeated (read_token n d) (suc m) >>= (λ ps. give (all (forms ps))))) ∷
        (take 8 >>= (λ m. repeated (read_token n d) (suc m) >>= (λ ps. give (any (forms ps))))) ∷
        (take_for 12 (below n) NoSuchName >>= (λ v. give (var v))) ∷ []) k (fail NoSuchName p)) (λ y cs. (bs ++ cs ≡ form_bits y) × FormFits n (suc d) y)
    sound_kind d p ih zero bs e = sound_give f (known false) (append-nil bs ∙ e, fit_known)
    sound_kind d p ih (suc zero) bs e = sound_give f (known true) (append-nil bs ∙ e, fit_known)
    sound_kind d p ih (suc (suc zero)) bs e = sound_parts d 2 (λ ps. all (forms ps)) ih (λ ps. refl) (λ ps l u h. fit_all l u h) bs e
    sound_kind d p ih (suc (suc (suc zero))) bs e = sound_parts d 3 (λ ps. any (forms ps)) ih (λ ps. refl) (λ ps l u h. fit_any l u h) bs e
    sound_kind d p ih (suc (suc (suc (suc zero)))) bs e =
        sound_last f (take_for 12 (below n) NoSuchName) (λ v. var v) _ (sound_for f 12 (below n) NoSuchName) (λ v cs w.
        let (q, l) = below_inv n w.0 v w.3 in
        (e ⊕ (w.1 ∙ ap (bits 12) q), fit_var (subst (λ z. z < n) q l)))
    sound_kind d p ih (suc (suc (suc (suc (suc k))))) bs e = sound_fail f NoSuchName p

    pub sound_token : (d : ℕ) → Sound f (read_token n d) (λ p bs. (bs ≡ form_bits p) × FormFits n d p)
    sound_token zero = record {
      run = λ p l x q e.
          let (y, r, _, h) = follow_inv (take 3 f p) (λ _ _. stop TooDeep p) x q e in
          absurd cc;
    }
    sound_token (suc d) = sound_here f _ (λ p. sound_then f (take 3) _ _ (sound_take f 3) (λ k bs r. sound_kind d p (sound_token d) k bs r.0))

-- one sign a rank
abbrev pub OneSign : List Variable → Type 0
OneSign vs = (i j : ℕ) (v w : Variable) → at vs i ≡ Some v → at vs j ≡ Some w → v.rank ≡ w.rank → v.sign ≡ w.sign

some_false : {A : Type 0} (p : A → Bool) (l : List A) (j : ℕ) (x : A) → some p l ≡ false → at l j ≡ Some x → p x ≡ false
some_false p [] j x h e = none_some x e
some_false {A} p (y ∷ l) j x h e = go (λ i q w. some_false p l i x q w) (p y) refl h j e
  where
    go : ((i : ℕ) → some p l ≡ false → at l i ≡ Some x → p x ≡ false) → (b : Bool) → p y ≡ b → elim b [ true ↦ true | false ↦ some p l ] ≡ false → (i : ℕ) → at (y ∷ l) i ≡ Some x → p x ≡ false
    go ih true q w i u = absurd (true≢false w)
    go ih false q w zero u = sym (ap p (some_same y x u)) ∙ q
    go ih false q w (suc i) u = ih i w u

signs_same : (g h : Sign) → flip (same_sign g h) ≡ false → g ≡ h
signs_same least least e = refl
signs_same least greatest e = absurd (true≢false e)
signs_same greatest least e = absurd (true≢false e)
signs_same greatest greatest e = refl

clash_none : (vs : List Variable) (g : Sign) (r : ℕ) → flip (clashes vs g r) ≡ true → (j : ℕ) (w : Variable) → at vs j ≡ Some w → w.rank ≡ r → w.sign ≡ g
clash_none vs g r h j w e q = signs_same w.sign g (sym (ap (λ b. b && flip (same_sign w.sign g)) (eq-eqb w.rank r q)) ∙ some_false (λ (v : Variable). eqb v.rank r && flip (same_sign v.sign g)) vs j w (no_clash (clashes vs g r) h) e)
  where
    no_clash : (b : Bool) → flip b ≡ true → b ≡ false
    no_clash true k = absurd (false≢true k)
    no_clash false k = refl

one_more : (vs : List Variable) (u : Variable) → OneSign vs → flip (clashes vs u.sign u.rank) ≡ true → OneSign (vs ++ (u ∷ []))
one_more vs u h c i j v w p q r = go (at_snoc vs u i v p) (at_snoc vs u j w q)
  where
    go : (at vs i ≡ Some v) ⊎ ((i ≡ length vs) × (u ≡ v)) → (at vs j ≡ Some w) ⊎ ((j ≡ length vs) × (u ≡ w)) → v.sign ≡ w.sign
    go (inl a) (inl b) = h i j v w a b r
    go (inl a) (inr b) = clash_none vs u.sign u.rank c i v a (r ∙ ap (λ (z : Variable). z.rank) (sym b.1)) ∙ ap (λ (z : Variable). z.sign) b.1
    go (inr a) (inl b) = sym (clash_none vs u.sign u.rank c j w b (sym r ∙ ap (λ (z : Variable). z.rank) (sym a.1)) ∙ ap (λ (z : Variable). z.sign) a.1)
    go (inr a) (inr b) = ap (λ (z : Variable). z.sign) (sym a.1 ∙ b.1)

-- the sign of a rank is that of its first variable
first_of : (vs : List Variable) (r i : ℕ) (v : Variable) → at vs i ≡ Some v → v.rank ≡ r → (j : ℕ) × (w : Variable) × (at vs j ≡ Some w) × (w.rank ≡ r) × (sign_of_rank (rank_of vs r) ≡ w.sign)
first_of [] r i v e q = none_some v e
first_of (u ∷ vs) r i v e q = go (λ k h. first_of vs r k v h q) (eqb u.rank r) refl i e
  where
    go : ((k : ℕ) → at vs k ≡ Some v → (j : ℕ) × (w : Variable) × (at vs j ≡ Some w) × (w.rank ≡ r) × (sign_of_rank (rank_of vs r) ≡ w.sign)) → (b : Bool) → eqb u.rank r ≡ b → (k : ℕ) → at (u ∷ vs) k ≡ Some v →
        (j : ℕ) × (w : Variable) × (at (u ∷ vs) j ≡ Some w) × (w.rank ≡ r) × (sign_of_rank (elim b [ true ↦ u ∷ rank_of vs r | false ↦ rank_of vs r ]) ≡ w.sign)
    go ih true h k d = (0, u, refl, eqb-true u.rank r h, refl)
    go ih false h zero d = absurd (true≢false (sym (eq-eqb u.rank r (ap (λ (z : Variable). z.rank) (some_same u v d) ∙ q)) ∙ h))
    go ih false h (suc k) d = let (j, w, a, b, c) = ih k d in (suc j, w, a, b, c)

pub one_sign : (vs : List Variable) → OneSign vs → Every (λ (v : Variable). v.sign ≡ sign_of_rank (rank_of vs v.rank)) vs
one_sign vs h =
    every_has (λ (v : Variable). v.sign ≡ sign_of_rank (rank_of vs v.rank)) vs
    (λ k v e. let (j, w, a, b, c) = first_of vs v.rank k v e refl in h k j v w e a (sym b) ∙ sym c)

-- the variables read behind vs
pub record Behind (n m : ℕ) (vs out : List Variable) (bs : List ℕ) : Type 0 where
  pub more : List Variable
  pub is : out ≡ vs ++ more
  pub long : length more ≡ m
  pub its : bs ≡ flat (map variable_bits more)
  pub ranks : Every (λ (v : Variable). v.rank < 32) more
  pub bodies : Every (λ (v : Variable). FormFits n 8 v.body) more
  pub one : OneSign out

module _ (f : List ℕ) (n : ℕ) where
  pub sound_variables : (m : ℕ) (vs : List Variable) → OneSign vs → Sound f (read_variables n m vs) (Behind n m vs)
  sound_variables zero vs h = sound_give f vs (record { more = []; is = sym (append-nil vs); long = refl; its = refl; ranks = tt; bodies = tt; one = h })
  sound_variables (suc m) vs h =
      sound_then f (take 1) _ _ (sound_take f 1) (λ g b₁ r₁.
      sound_here f _ (λ p.
      sound_then f (take 5) _ _ (sound_take f 5) (λ r b₂ r₂.
      sound_must f _ (flip (clashes vs (sign_of g) r)) RankOfBothSigns p (λ c.
      sound_then f (read_token n 8) _ _ (sound_token f n 8) (λ b b₃ r₃.
      sound_map f _ (sound_variables m (vs ++ (record { sign = sign_of g; rank = r; body = b } ∷ [])) (one_more vs (record { sign = sign_of g; rank = r; body = b }) h c)) (λ out b₄ k.
      record {
        more = record { sign = sign_of g; rank = r; body = b } ∷ k.more;
        is = k.is ∙ append_assoc vs (record { sign = sign_of g; rank = r; body = b } ∷ []) k.more;
        long = ap suc k.long;
        its = ((r₁.0 ∙ sign_same g r₁.1) ⊕ r₂.0 ⊕ r₃.0 ⊕ k.its) ∙ regroup (sign_bits (sign_of g)) (bits 5 r) (form_bits b) (flat (map variable_bits k.more));
        ranks = (r₂.1, k.ranks);
        bodies = (r₃.1, k.bodies);
        one = k.one;
      }))))))
    where
      regroup : (w x y z : List ℕ) → w ++ (x ++ (y ++ z)) ≡ (w ++ (x ++ y)) ++ z
      regroup w x y z = ap (λ u. w ++ u) (sym (append_assoc x y z)) ∙ sym (append_assoc w (x ++ y) z)

sound_boolean : (f : List ℕ) → Sound f read_boolean (λ vs bs. (bs ≡ boolean_bits vs) × BooleanFits vs)
sound_boolean f =
    sound_then f (take 12) _ _ (sound_take f 12) (λ m b₁ r₁.
    sound_map f _ (sound_variables f (suc m) (suc m) [] (λ i j v w p. none_some v p)) (λ vs b₂ k. whole m b₁ r₁ vs b₂ k))
  where
    whole : (m : ℕ) (b₁ : List ℕ) → (b₁ ≡ bits 12 m) × (m < 4096) → (vs : List Variable) (b₂ : List ℕ) → Behind (suc m) (suc m) [] vs b₂ → (b₁ ++ b₂ ≡ boolean_bits vs) × BooleanFits vs
    whole m b₁ r₁ vs b₂ k =
        let e : vs ≡ k.more = k.is in
        let l : length vs ≡ suc m = ap length e ∙ k.long in
        let w : m ≡ length vs - 1 = omega arith in (
          (r₁.0 ∙ ap (bits 12) w) ⊕ (k.its ∙ ap (λ (us : List Variable). flat (map variable_bits us)) (sym e)),
          record {
            some = omega arith;
            few = omega (arith, r₁.1);
            ranks = subst (Every (λ (v : Variable). v.rank < 32)) (sym e) k.ranks;
            sign_by = λ r. sign_of_rank (rank_of vs r);
            signs = one_sign vs k.one;
            bodies = subst₂ (λ (us : List Variable) (z : ℕ). Every (λ (v : Variable). FormFits z 8 v.body) us) (sym e) (sym l) k.bodies;
          },
        )

pub boolean_forth : BooleansWrittenBack
boolean_forth f hf vs e = go (ended_got 65535 read_boolean f vs e)
  where
    go : (p : ℕ) × (read_boolean f 0 ≡ next vs p) × (8 * length f - p ≤ 7) × (field f p (8 * length f - p) ≡ 0) → (boolean_written vs ≡ f) × BooleanFits vs
    go w =
        let c = (sound_boolean f).run 0 (omega arith) vs w.0 w.1 in
        let bs = boolean_bits vs in
        let st : Stands f 0 bs = subst (Stands f 0) c.fact.0 c.stands in
        let at_end : w.0 ≡ length bs = c.behind ∙ zero-add (length c.its) ∙ ap length c.fact.0 in
        let le : 0 + length bs ≤ 8 * length f = stands_most f 0 bs st in (
          repacked f bs hf (boolean_bits_lem vs) st (omega arith) (subst (λ p. 8 * length f - p ≤ 7) at_end w.2)
              (subst (λ p. field f p (8 * length f - p) ≡ 0) at_end w.3),
          c.fact.1,
        )
