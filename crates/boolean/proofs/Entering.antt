-- One more variable of a Boolean file.
use Rattle.std.proofs.Common.{◌≡◌, ℕ, zero, suc, ◌+◌, ◌-◌, ◌<◌, Bool, true, false, not as flip, ◌&&◌, eqb, List, [], ◌∷◌, ◌++◌, length, get_or, set, replicate, Some, None, Option, MatchOption, sym, refl, ap, ◌∙◌, subst, true≢false, arith, length-append, get_or-set_other, get_or-set_same, eq-eqb, ne_eqb, eqb-true}
use native.Mathlib.Decide.{ℕ_discrete}
use Rattle.faults.specs.declared.Reason.{Reason}
use Rattle.faults.specs.declared.Reason.TheVariants.{RankOfBothSigns}
use Rattle.rows.specs.declared.row.Row.{Row}
use Rattle.rows.specs.Listed.{listed}
use Rattle.definitions.specs.Lists.{at, some, is_some}
use Rattle.definitions.specs.Fits.{Every}
use Rattle.definitions.specs.Solution.{Sign, least, greatest}
use Rattle.definitions.specs.Reading.{Step, next, stop, follow, take, must}
use Rattle.definitions.specs.ReadSystem.{sign_of}
use Rattle.definitions.specs.Boolean.{Form, Variable, same_sign, clashes, read_token, read_variables}
use Rattle.system.specs.declared.header.Sign.{Sign as KeptSign}
use Rattle.system.specs.Files.{kept_sign}
use Rattle.boolean.specs.declared.entries.Entry.{Entry}
use Rattle.boolean.specs.declared.entries.Variables.{Variables}
use Rattle.boolean.specs.Files.{Kept, AllKept, SignKept, Entered, Another, Listing}

-- the rest of a variable behind its rank
abbrev pub behind_rank : ℕ → List Variable → ℕ → List ℕ → ℕ → ℕ → ℕ → ℕ → Step (List Variable)
behind_rank n vs m f g q r t =
    follow (must (flip (clashes vs (sign_of g) r)) RankOfBothSigns q f t)
    (λ _ t. follow (read_token n 8 f t) (λ b u. read_variables n m (vs ++ (record { sign = sign_of g; rank = r; body = b } ∷ [])) f u))

module _ (n : ℕ) (vs : List Variable) (f : List ℕ) (p g q r t : ℕ) (e1 : next g q ≡ take 1 f p) (e2 : next r t ≡ take 5 f q) where
  fields : (m : ℕ) → read_variables n (suc m) vs f p ≡ behind_rank n vs m f g q r t
  fields m =
      ap (λ z. follow z (λ g q. follow (take 5 f q) (λ r t. behind_rank n vs m f g q r t))) (sym e1) ∙
      ap (λ z. follow z (λ r t. behind_rank n vs m f g q r t)) (sym e2)

  rank_clashes : clashes vs (sign_of g) r ≡ true → (m : ℕ) → read_variables n (suc m) vs f p ≡ stop RankOfBothSigns q
  rank_clashes c m =
      fields m ∙ ap (λ z. follow (must (flip z) RankOfBothSigns q f t)
      (λ _ t. follow (read_token n 8 f t) (λ b u. read_variables n m (vs ++ (record { sign = sign_of g; rank = r; body = b } ∷ [])) f u))) c

  module _ (c : clashes vs (sign_of g) r ≡ false) where
    rank_suits : (m : ℕ) → read_variables n (suc m) vs f p ≡ follow (read_token n 8 f t) (λ b u. read_variables n m (vs ++ (record { sign = sign_of g; rank = r; body = b } ∷ [])) f u)
    rank_suits m =
        fields m ∙ ap (λ z. follow (must (flip z) RankOfBothSigns q f t)
        (λ _ t. follow (read_token n 8 f t) (λ b u. read_variables n m (vs ++ (record { sign = sign_of g; rank = r; body = b } ∷ [])) f u))) c

    body_stops : (s : Reason) (u : ℕ) → stop s u ≡ read_token n 8 f t → (m : ℕ) → read_variables n (suc m) vs f p ≡ stop s u
    body_stops s u e m =
        rank_suits m ∙ ap (λ z. follow z (λ b u. read_variables n m (vs ++ (record { sign = sign_of g; rank = r; body = b } ∷ [])) f u)) (sym e)

    body_read : (b : Form ℕ) (u : ℕ) → read_token n 8 f t ≡ next b u → (m : ℕ) →
        read_variables n (suc m) vs f p ≡ read_variables n m (vs ++ (record { sign = sign_of g; rank = r; body = b } ∷ [])) f u
    body_read b u e m =
        rank_suits m ∙ ap (λ z. follow z (λ b u. read_variables n m (vs ++ (record { sign = sign_of g; rank = r; body = b } ∷ [])) f u)) e

same_sign_refl : (g : Sign) → same_sign g g ≡ true
same_sign_refl least = refl
same_sign_refl greatest = refl

same_sign_true : (g h : Sign) → same_sign g h ≡ true → g ≡ h
same_sign_true least least e = refl
same_sign_true least greatest e = absurd (true≢false (sym e))
same_sign_true greatest least e = absurd (true≢false (sym e))
same_sign_true greatest greatest e = refl

same_sign_other : (g h : Sign) → (g ≡ h → ⊥) → same_sign g h ≡ false
same_sign_other least least n = absurd (n refl)
same_sign_other least greatest n = refl
same_sign_other greatest least n = refl
same_sign_other greatest greatest n = absurd (n refl)

-- whether a rank clashes is told by the sign that is kept for it
module _ (ss : List (Option KeptSign)) (r : ℕ) (g : Sign) where
  clash_free : (vs : List Variable) → Every (SignKept ss) vs → ((s : KeptSign) → get_or ss r None ≡ Some s → kept_sign s ≡ g) → clashes vs g r ≡ false
  clash_free [] k h = refl
  clash_free (v ∷ vs) k h = go (clash_free vs k.1 h) (eqb v.rank r) refl
    where
      go : clashes vs g r ≡ false → (b : Bool) → eqb v.rank r ≡ b → elim (b && flip (same_sign v.sign g)) [ true ↦ true | false ↦ clashes vs g r ] ≡ false
      go ih true e =
          let s : v.sign ≡ g = sym k.0.2 ∙ h k.0.0 (ap (λ x. get_or ss x None) (sym (eqb-true v.rank r e)) ∙ k.0.1) in
          ap (λ z. elim (flip z) [ true ↦ true | false ↦ clashes vs g r ]) (ap (λ x. same_sign x g) s ∙ same_sign_refl g) ∙ ih
      go ih false e = ih

  clash_known : (vs : List Variable) → Every (SignKept ss) vs → (s : KeptSign) → get_or ss r None ≡ Some s → (kept_sign s ≡ g → ⊥) →
      some (λ (v : Variable). eqb v.rank r) vs ≡ true → clashes vs g r ≡ true
  clash_known [] k s a n u = u
  clash_known (v ∷ vs) k s a n u = go (clash_known vs k.1 s a n) (eqb v.rank r) refl u
    where
      go : (some (λ (v : Variable). eqb v.rank r) vs ≡ true → clashes vs g r ≡ true) → (b : Bool) → eqb v.rank r ≡ b →
          elim b [ true ↦ true | false ↦ some (λ (w : Variable). eqb w.rank r) vs ] ≡ true → elim (b && flip (same_sign v.sign g)) [ true ↦ true | false ↦ clashes vs g r ] ≡ true
      go ih true e u =
          let z : Some s ≡ Some k.0.0 = sym a ∙ ap (λ x. get_or ss x None) (sym (eqb-true v.rank r e)) ∙ k.0.1 in
          let j : s ≡ k.0.0 = cc in
          ap (λ z. elim (flip z) [ true ↦ true | false ↦ clashes vs g r ]) (same_sign_other v.sign g (λ y. n (ap kept_sign j ∙ k.0.2 ∙ y)))
      go ih false e u = ih u

some_last : {A : Type 0} (p : A → Bool) (xs : List A) (x : A) → some p (xs ++ (x ∷ [])) ≡ elim (p x) [ true ↦ true | false ↦ some p xs ]
some_last p [] x = refl
some_last p (y ∷ xs) x = go (some_last p xs x) (p y)
  where
    both : (b : Bool) → ◌≡◌ {A = Bool} true (elim b [ true ↦ true | false ↦ true ])
    both true = refl
    both false = refl

    go : some p (xs ++ (x ∷ [])) ≡ elim (p x) [ true ↦ true | false ↦ some p xs ] → (b : Bool) →
        ◌≡◌ {A = Bool} (elim b [ true ↦ true | false ↦ some p (xs ++ (x ∷ [])) ]) (elim (p x) [ true ↦ true | false ↦ elim b [ true ↦ true | false ↦ some p xs ] ])
    go ih true = both (p x)
    go ih false = ih

every_last : {A : Type 0} (P Q : A → Type 0) → ((x : A) → P x → Q x) → (xs : List A) (x : A) → Every P xs → Q x → Every Q (xs ++ (x ∷ []))
every_last P Q h [] x k q = (q, tt)
every_last P Q h (y ∷ xs) x k q = (h y k.0, every_last P Q h xs x k.1 q)

module _ (f : List ℕ) (n : ℕ) where
  all_kept_last : (vs : List Variable) (es : List Entry) (v : Variable) (e : Entry) → AllKept f n vs es → Kept f n v e → AllKept f n (vs ++ (v ∷ [])) (es ++ (e ∷ []))
  all_kept_last [] [] v e k h = (h, tt)
  all_kept_last [] (d ∷ es) v e k h = absurd k
  all_kept_last (w ∷ vs) [] v e k h = absurd k
  all_kept_last (w ∷ vs) (d ∷ es) v e k h = (k.0, all_kept_last vs es v e k.1 h)

  pub all_kept_long : (vs : List Variable) (es : List Entry) → AllKept f n vs es → length es ≡ length vs
  all_kept_long [] [] k = refl
  all_kept_long [] (d ∷ es) k = absurd k
  all_kept_long (w ∷ vs) [] k = absurd k
  all_kept_long (w ∷ vs) (d ∷ es) k = ap suc (all_kept_long vs es k.1)

  pub kept_at : (vs : List Variable) (es : List Entry) → AllKept f n vs es → (i : ℕ) (d : Entry) → i < length es → (v : Variable) × (at vs i ≡ Some v) × Kept f n v (get_or es i d)
  kept_at [] [] k i d l = absurd (omega arith)
  kept_at [] (e ∷ es) k i d l = absurd k
  kept_at (v ∷ vs) [] k i d l = absurd k
  kept_at (v ∷ vs) (e ∷ es) k zero d l = (v, refl, k.0)
  kept_at (v ∷ vs) (e ∷ es) k (suc i) d l = kept_at vs es k.1 i d (omega arith)

  pub ranks_small : (vs : List Variable) (es : List Entry) → AllKept f n vs es → (i : ℕ) (v : Variable) → at vs i ≡ Some v → v.rank < 32
  ranks_small [] es k i v a = absurd cc
  ranks_small (w ∷ vs) [] k i v a = absurd k
  ranks_small (w ∷ vs) (e ∷ es) k zero v a = let j : w ≡ v = cc in subst (λ (u : Variable). u.rank < 32) j (omega (arith, e.small, k.0.rank))
  ranks_small (w ∷ vs) (e ∷ es) k (suc i) v a = ranks_small vs es k.1 i v a

abbrev pub variable : KeptSign → ℕ → Form ℕ → Variable
variable g r b = record { sign = kept_sign g; rank = r; body = b }

module _ (ss : List (Option KeptSign)) (g : KeptSign) (r : ℕ) (room : r < length ss) where
  sign_at : ((s : KeptSign) → get_or ss r None ≡ Some s → kept_sign s ≡ kept_sign g) → (v : Variable) → SignKept ss v → SignKept (set ss r (Some g)) v
  sign_at h v (s, k, l) = go (ℕ_discrete v.rank r)
    where
      go : Dec (v.rank ≡ r) → SignKept (set ss r (Some g)) v
      go (yes z) = (g, ap (λ x. get_or (set ss r (Some g)) x None) z ∙ get_or-set_same ss r (Some g) None room, sym (h s (ap (λ x. get_or ss x None) (sym z) ∙ k)) ∙ l)
      go (no z) = (s, get_or-set_other ss r v.rank (Some g) None z ∙ k, l)

  used_at : (vs : List Variable) (b : Form ℕ) (k : ℕ) → is_some (get_or ss k None) ≡ some (λ (v : Variable). eqb v.rank k) vs →
      is_some (get_or (set ss r (Some g)) k None) ≡ some (λ (v : Variable). eqb v.rank k) (vs ++ (variable g r b ∷ []))
  used_at vs b k u = go (ℕ_discrete k r) ∙ sym (some_last (λ (v : Variable). eqb v.rank k) vs (variable g r b))
    where
      go : Dec (k ≡ r) → is_some (get_or (set ss r (Some g)) k None) ≡ elim (eqb r k) [ true ↦ true | false ↦ some (λ (v : Variable). eqb v.rank k) vs ]
      go (yes z) =
          ap (λ x. is_some (get_or (set ss r (Some g)) x None)) z ∙ ap is_some (get_or-set_same ss r (Some g) None room) ∙
          ap (λ x. elim x [ true ↦ true | false ↦ some (λ (v : Variable). eqb v.rank k) vs ]) (sym (eq-eqb r k (sym z)))
      go (no z) =
          ap is_some (get_or-set_other ss r k (Some g) None z) ∙ u ∙
          ap (λ x. elim x [ true ↦ true | false ↦ some (λ (v : Variable). eqb v.rank k) vs ]) (sym (ne_eqb r k (λ y. z (sym y))))

pub alike_everywhere : {A : Type 0} (a : A) (n i : ℕ) → get_or (replicate n a) i a ≡ a
alike_everywhere a zero i = refl
alike_everywhere a (suc n) zero = refl
alike_everywhere a (suc n) (suc i) = alike_everywhere a n i

pub none_entered : (f : List ℕ) (n : ℕ) (x : Variables) → listed x.entries ≡ [] → ((r : ℕ) → get_or x.signs r None ≡ None) → Entered f n [] x
none_entered f n x e k = record { entries = subst (AllKept f n []) (sym e) tt; signs = tt; used = λ r l. ap is_some (k r) }

-- what the entry behind vs says, by the answers of its parts
module _ (n : ℕ) (vs : List Variable) (f : List ℕ) (x : Variables) (d : Entered f n vs x) (p y q r t : ℕ) (e1 : next y q ≡ take 1 f p) (e2 : next r t ≡ take 5 f q)
    (g : KeptSign) (s : kept_sign g ≡ sign_of y) (l : r < 32) (b : Bool) (suits : MatchOption (get_or x.signs r None) (b ≡ true) (λ k. b ≡ same_sign (kept_sign k) (kept_sign g))) where
  pub entry_clashes : b ≡ false → (m : ℕ) → read_variables n (suc m) vs f p ≡ stop RankOfBothSigns q
  entry_clashes z = rank_clashes n vs f p y q r t e1 e2 (ap (λ z. clashes vs z r) (sym s) ∙ go (get_or x.signs r None) refl suits)
    where
      go : (o : Option KeptSign) → get_or x.signs r None ≡ o → MatchOption o (b ≡ true) (λ k. b ≡ same_sign (kept_sign k) (kept_sign g)) → clashes vs (kept_sign g) r ≡ true
      go None e h = absurd (true≢false (sym h ∙ z))
      go (Some k) e h =
          clash_known x.signs r (kept_sign g) vs d.signs k e
          (λ w. true≢false (sym (same_sign_refl (kept_sign g)) ∙ ap (λ u. same_sign u (kept_sign g)) (sym w) ∙ sym h ∙ z))
          (sym (d.used r l) ∙ ap is_some e)

  module _ (z : b ≡ true) where
    same : (k : KeptSign) → get_or x.signs r None ≡ Some k → kept_sign k ≡ kept_sign g
    same k e = go (get_or x.signs r None) e suits
      where
        go : (o : Option KeptSign) → o ≡ Some k → MatchOption o (b ≡ true) (λ k. b ≡ same_sign (kept_sign k) (kept_sign g)) → kept_sign k ≡ kept_sign g
        go None e h = absurd cc
        go (Some m) e h = let j : m ≡ k = cc in same_sign_true (kept_sign k) (kept_sign g) (ap (λ u. same_sign (kept_sign u) (kept_sign g)) (sym j) ∙ sym h ∙ z)

    free : clashes vs (sign_of y) r ≡ false
    free = ap (λ z. clashes vs z r) (sym s) ∙ clash_free x.signs r (kept_sign g) vs d.signs same

    pub entry_stops : (w : Reason) (u : ℕ) → stop w u ≡ read_token n 8 f t → (m : ℕ) → read_variables n (suc m) vs f p ≡ stop w u
    entry_stops w u k = body_stops n vs f p y q r t e1 e2 free w u k

    pub entry_read : (b : Form ℕ) (u : ℕ) → read_token n 8 f t ≡ next b u → r < length x.signs → (e : Entry) → (es : Row Entry 4096) →
        listed es ≡ listed x.entries ++ (e ∷ []) → e.rank ≡ r → e.body ≡ t → Another f n vs p u (record { entries = es; signs = set x.signs r (Some g) })
    entry_read b u k room e es ze er et =
        record {
          variable = variable g r b;
          reads = λ m. body_read n vs f p y q r t e1 e2 free b u k m ∙ ap (λ w. read_variables n m (vs ++ (record { sign = w; rank = r; body = b } ∷ [])) f u) (sym s);
          entered =
              record {
                entries = subst (AllKept f n (vs ++ (variable g r b ∷ []))) (sym ze) (all_kept_last f n vs (listed x.entries) (variable g r b) e d.entries (record { rank = er; body = (u, ap (λ w. read_token n 8 f w) et ∙ k) }));
                signs = every_last (SignKept x.signs) (SignKept (set x.signs r (Some g))) (sign_at x.signs g r room same) vs (variable g r b) d.signs (g, get_or-set_same x.signs r (Some g) None room, refl);
                used = λ k l. used_at x.signs g r room vs b k (d.used k l);
              };
        }

module _ (f : List ℕ) (n p i : ℕ) where
  rest : i < n → n - i ≡ suc (n - (i + 1))
  rest h = omega arith

  pub listing_first : (x : Variables) → Entered f n [] x → Listing f n p (n - 0) p x
  listing_first x e =
      let z : n ≡ n - 0 = omega arith in
      record { variables = []; long = omega arith; reads = ap (λ m. read_variables n m [] f p) z; entered = e }

  -- behind the variables so far the file is still f
  module _ (q : ℕ) (x : Variables) (l : Listing f n p (n - i) q x) (h : i < n) (g : List ℕ) (same : g ≡ f) where
    there : Entered g n l.variables x
    there = subst (λ f. Entered f n l.variables x) (sym same) l.entered

    pub listing_stop : (s : Reason) (t : ℕ) → (Entered g n l.variables x → (m : ℕ) → read_variables n (suc m) l.variables g q ≡ stop s t) → read_variables n n [] f p ≡ stop s t
    listing_stop s t k =
        l.reads ∙ ap (λ m. read_variables n m l.variables f q) (rest h) ∙ ap (λ f. read_variables n (suc (n - (i + 1))) l.variables f q) (sym same) ∙ k there (n - (i + 1))

    pub listing_next : (t : ℕ) (y : Variables) → (Entered g n l.variables x → Another g n l.variables q t y) → Listing f n p (n - (i + 1)) t y
    listing_next t y k =
        let a = subst (λ f. Another f n l.variables q t y) same (k there) in
        record {
          variables = l.variables ++ (a.variable ∷ []);
          long = rw length-append (omega (arith, l.long));
          reads = l.reads ∙ ap (λ m. read_variables n m l.variables f q) (rest h) ∙ a.reads (n - (i + 1));
          entered = a.entered;
        }
