-- What readers have read stands in the file, joined.
use Rattle.faults.specs.declared.Reason.{Reason}
use Rattle.faults.specs.declared.Reason.TheVariants.{NoEquations, NoSuchSort, NoSuchName, ValueTooLarge}
use Rattle.std.proofs.Common.{◌≡◌, ℕ, zero, suc, ◌+◌, ◌-◌, ◌*◌, ◌^◌, ◌<◌, ◌≤◌, Bool, true, false, ltb, List, [], ◌∷◌, ◌++◌, map, length, Some, Option, sym, refl, ap, ◌∙◌, subst, ap₂, add-zero, arith, length-append}
use lib.ListN.{length-map}
use Rattle.std.proofs.lemmas.Bool.{ltb-true}
use Rattle.definitions.specs.Lists.{at, bind, flat}
use Rattle.definitions.specs.Bits.{bits, Stands}
use Rattle.definitions.specs.Alg.{Alg, Lawful}
use Rattle.definitions.specs.Systems.{Quantified, Term, Equation}
use Rattle.definitions.specs.Reading.{Step, next, stop, Reader, take, take_for, follow, give, given, fail, here, below, one_by_one, repeated, ◌>>=◌, ◌>>◌, must}
use Rattle.definitions.specs.ReadSystem.{Scope, Sorted, Header, scope, sign_of, quantifier_of, read_sort, read_quantified, read_header, read_target, read_of, read_occurrence, read_clause, read_body, read_value_of, read_system, read_term}
use Rattle.definitions.specs.Written.{term_bits, sign_bits, quantifier_bits, occurrence_bits, clause_bits, body_bits, system_bits}
use Rattle.definitions.specs.Fits.{Fits, Every, SortFits, HeaderFits, header_of, TermsFit, ValuesFit, OccurrenceFits, ClauseFits, BodyFits, SystemFits}
use Rattle.theorems.proofs.Fields.{stands_most, stands_join, took, given_inv, below_inv}
use Rattle.theorems.proofs.Forth.{sound}
use Rattle.theorems.proofs.Goods.{bits_long, head_bits, heads_same}
use Rattle.theorems.proofs.Listing.{some_same, bind_inv}

-- what was read from p to q, and its bits
pub record Came (f : List ℕ) (p q : ℕ) {A : Type 0} (R : A → List ℕ → Type 0) (x : A) : Type 0 where
  pub its : List ℕ
  pub fact : R x its
  pub stands : Stands f p its
  pub behind : q ≡ p + length its

pub record Sound (f : List ℕ) {A : Type 0} (r : Reader A) (R : A → List ℕ → Type 0) : Type 0 where
  pub run : (p : ℕ) → p ≤ 8 * length f → (x : A) (q : ℕ) → r f p ≡ next x q → Came f p q R x

infixr 30 ◌⊕◌
pub ◌⊕◌ : {b c d e : List ℕ} → b ≡ c → d ≡ e → b ++ d ≡ c ++ e
p ⊕ q = ap₂ (λ u v. u ++ v) p q

pub sign_same : (n : ℕ) → n < 2 → bits 1 n ≡ sign_bits (sign_of n)
sign_same zero l = refl
sign_same (suc zero) l = refl
sign_same (suc (suc n)) l = absurd (omega arith)

quantifier_same : (n : ℕ) → n < 2 → bits 1 n ≡ quantifier_bits (quantifier_of n)
quantifier_same zero l = refl
quantifier_same (suc zero) l = refl
quantifier_same (suc (suc n)) l = absurd (omega arith)

module _ (f : List ℕ) where
  pub sound_then : {A B : Type 0} (m : Reader A) (k : A → Reader B) {R : A → List ℕ → Type 0} (T : B → List ℕ → Type 0) → Sound f m R →
      ((x : A) (bs : List ℕ) → R x bs → Sound f (k x) (λ y cs. T y (bs ++ cs))) → Sound f (m >>= k) T
  sound_then {A} {B} m k {R} T s t = record { run = λ p l y q e. go p y q l (m f p) refl e }
    where
      go : (p : ℕ) (y : B) (q : ℕ) → p ≤ 8 * length f → (z : Step A) → m f p ≡ z → follow z (λ x n. k x f n) ≡ next y q → Came f p q T y
      go p y q l (stop r n) e h = absurd cc
      go p y q l (next x n) e h =
          let c = s.run p l x n e in
          let d = (t x c.its c.fact).run n (subst (λ m. m ≤ 8 * length f) (sym c.behind) (stands_most f p c.its c.stands)) y q h in
          record {
            its = c.its ++ d.its;
            fact = d.fact;
            stands = stands_join f p c.its d.its c.stands (subst (λ m. Stands f m d.its) c.behind d.stands);
            behind = omega (arith, c.behind, d.behind, length-append c.its d.its);
          }

  pub sound_last : {A B : Type 0} (m : Reader A) (g : A → B) {R : A → List ℕ → Type 0} (T : B → List ℕ → Type 0) → Sound f m R →
      ((x : A) (bs : List ℕ) → R x bs → T (g x) bs) → Sound f (m >>= (λ z. give (g z))) T
  sound_last {A} {B} m g {R} T s t = record { run = λ p l y q e. go p y q l (m f p) refl e }
    where
      go : (p : ℕ) (y : B) (q : ℕ) → p ≤ 8 * length f → (z : Step A) → m f p ≡ z → follow z (λ x n. next (g x) n) ≡ next y q → Came f p q T y
      go p y q l (stop r n) e h = absurd cc
      go p y q l (next x n) e h =
          let c = s.run p l x n e in
          let ey : g x ≡ y = cc in
          let eq : q ≡ n = cc in
          record { its = c.its; fact = subst (λ z. T z c.its) ey (t x c.its c.fact); stands = c.stands; behind = eq ∙ c.behind }

  pub sound_take : (w : ℕ) → Sound f (take w) (λ v bs. (bs ≡ bits w v) × (v < 2 ^ w))
  sound_take w = record {
    run = λ p l x q e. let t = took f p w x q e in
        record { its = bits w x; fact = (refl, t.small); stands = t.stands; behind = t.behind ∙ ap (λ n. p + n) (sym (bits_long w x)) };
  }

  pub sound_must : {B : Type 0} (k : Reader B) (t : Bool) (r : Reason) (q : ℕ) {T : B → List ℕ → Type 0} → (t ≡ true → Sound f k T) → Sound f (must t r q >> k) T
  sound_must k true r q s = record { run = (s refl).run }
  sound_must k false r q s = record { run = λ p l x q e. absurd cc }

  pub sound_fail : {A : Type 0} (r : Reason) (q : ℕ) {T : A → List ℕ → Type 0} → Sound f (fail r q) T
  sound_fail r q = record { run = λ p l x n e. absurd cc }

  pub sound_here : {A : Type 0} (k : ℕ → Reader A) {T : A → List ℕ → Type 0} → ((p : ℕ) → Sound f (k p) T) → Sound f (here >>= k) T
  sound_here k h = record { run = λ p l x q e. (h p).run p l x q e }

  pub sound_give : {A : Type 0} (x : A) {T : A → List ℕ → Type 0} → T x [] → Sound f (give x) T
  sound_give {A} x {T} h = record {
    run = λ p l y q e.
        let ex : x ≡ y = cc in
        let eq : q ≡ p = cc in
        record { its = []; fact = subst (λ z. T z []) ex h; stands = l; behind = eq ∙ sym (add-zero p) };
  }

  -- a field that stands for something
  abbrev pub For : {A : Type 0} → ℕ → (ℕ → Option A) → A → List ℕ → Type 0
  For w what y bs = (v : ℕ) × (bs ≡ bits w v) × (v < 2 ^ w) × (what v ≡ Some y)

  pub sound_for : {A : Type 0} (w : ℕ) (what : ℕ → Option A) (r : Reason) → Sound f (take_for w what r) (For w what)
  sound_for {A} w what r = record { run = λ p l y q e. go p y q l (take w f p) refl e }
    where
      go : (p : ℕ) (y : A) (q : ℕ) → p ≤ 8 * length f → (z : Step ℕ) → take w f p ≡ z → follow z (λ v n. given (what v) r p f n) ≡ next y q → Came f p q (For w what) y
      go p y q l (stop t n) e h = absurd cc
      go p y q l (next v n) e h =
          let g = given_inv (what v) r p f n y q h in
          let c = (sound_take w).run p l v n e in
          record { its = c.its; fact = (v, c.fact.0, c.fact.1, g.0); stands = c.stands; behind = g.1 ∙ c.behind }

  pub sound_repeated : {A : Type 0} (r : Reader A) (b : A → List ℕ) (P : A → Type 0) → Sound f r (λ x bs. (bs ≡ b x) × P x) → (n : ℕ) →
      Sound f (repeated r n) (λ xs bs. (bs ≡ flat (map b xs)) × (length xs ≡ n) × Every P xs)
  sound_repeated {A} r b P s zero = record {
    run = λ p l xs q e.
        let ex : [] ≡ xs = cc in
        let eq : q ≡ p = cc in
        record { its = []; fact = subst (λ (ys : List A). ([] ≡ flat (map b ys)) × (length ys ≡ 0) × Every P ys) ex (refl, refl, tt); stands = l; behind = eq ∙ sym (add-zero p) };
  }
  sound_repeated {A} r b P s (suc n) =
      sound_then r (λ y. repeated r n >>= (λ ys. give (y ∷ ys))) (λ xs bs. (bs ≡ flat (map b xs)) × (length xs ≡ suc n) × Every P xs) s
      (λ x bs h. sound_last (repeated r n) (λ (ys : List A). x ∷ ys) _ (sound_repeated r b P s n)
      (λ ys cs k. (ap₂ (λ u v. u ++ v) h.0 k.0, ap suc k.1, (h.1, k.2))))

  -- in step with a list
  abbrev pub Stepwise : {A B : Type 0} → (A → B → Type 0) → List A → List B → Type 0
  Stepwise P [] [] = Unit {0}
  Stepwise P [] (y ∷ ys) = ⊥
  Stepwise P (x ∷ xs) [] = ⊥
  Stepwise P (x ∷ xs) (y ∷ ys) = P x y × Stepwise P xs ys

  pub sound_rows : {A B : Type 0} (r : A → Reader B) (b : B → List ℕ) (P : A → B → Type 0) → ((x : A) → Sound f (r x) (λ y bs. (bs ≡ b y) × P x y)) → (xs : List A) →
      Sound f (one_by_one r xs) (λ ys bs. (bs ≡ flat (map b ys)) × Stepwise P xs ys)
  sound_rows {A} {B} r b P s [] = record {
    run = λ p l ys q e.
        let ex : [] ≡ ys = cc in
        let eq : q ≡ p = cc in
        record { its = []; fact = subst (λ (zs : List B). ([] ≡ flat (map b zs)) × Stepwise P [] zs) ex (refl, tt); stands = l; behind = eq ∙ sym (add-zero p) };
  }
  sound_rows {A} {B} r b P s (x ∷ xs) =
      sound_then (r x) (λ y. one_by_one r xs >>= (λ ys. give (y ∷ ys))) (λ ys bs. (bs ≡ flat (map b ys)) × Stepwise P (x ∷ xs) ys) (s x)
      (λ y bs h. sound_last (one_by_one r xs) (λ (ys : List B). y ∷ ys) _ (sound_rows r b P s xs)
      (λ ys cs k. (ap₂ (λ u v. u ++ v) h.0 k.0, (h.1, k.1))))

  -- a weaker fact
  pub sound_map : {A : Type 0} (r : Reader A) {R T : A → List ℕ → Type 0} → Sound f r R → ((x : A) (bs : List ℕ) → R x bs → T x bs) → Sound f r T
  sound_map r s t = record { run = λ p l x q e. let c = s.run p l x q e in record { its = c.its; fact = t x c.its c.fact; stands = c.stands; behind = c.behind } }

  module _ (a : Alg) (law : Lawful a) where
    sound_sort : Sound f (read_sort a) (λ s bs. (bs ≡ bits 4 s) × SortFits a s)
    sound_sort = sound_map (read_sort a) (sound_for 4 (λ s. bind (a.size s) (λ _. Some s)) NoSuchSort) fact
      where
        fact : (s : ℕ) (bs : List ℕ) → For 4 (λ s. bind (a.size s) (λ _. Some s)) s bs → (bs ≡ bits 4 s) × SortFits a s
        fact s bs w =
            let (z, e₁, e₂) = bind_inv (a.size w.0) (λ _. Some w.0) s w.3 in
            subst (λ n. (bs ≡ bits 4 n) × SortFits a n) (some_same w.0 s e₂) (w.1, (w.2, (z, e₁)))

    sound_quantified : Sound f (read_quantified a) (λ (q : Quantified) bs. (bs ≡ quantifier_bits q.quantifier ++ bits 4 q.sort) × SortFits a q.sort)
    sound_quantified =
        sound_then _ _ _ (sound_take 1) (λ k b₁ r₁.
        sound_last _ (λ s. record { quantifier = quantifier_of k; sort = s }) _ sound_sort (λ s b₂ r₂. ((r₁.0 ∙ quantifier_same k r₁.1) ⊕ r₂.0, r₂.1)))

    sound_header : Sound f (read_header a) (λ h bs. (bs ≡ head_bits h) × HeaderFits a h)
    sound_header =
        sound_then _ _ _ (sound_take 1) (λ n b₁ r₁.
        sound_then _ _ _ (sound_take 4) (λ m b₂ r₂.
        sound_then _ _ _ (sound_repeated (read_sort a) (bits 4) (SortFits a) sound_sort m) (λ ss b₃ r₃.
        sound_then _ _ _ (sound_take 2) (λ k b₄ r₄.
        sound_last _ (λ qs. record { sign = sign_of n; sorts = ss; quantified = qs }) _
        (sound_repeated (read_quantified a) (λ (q : Quantified). quantifier_bits q.quantifier ++ bits 4 q.sort) (λ (q : Quantified). SortFits a q.sort) sound_quantified k)
        (λ qs b₅ r₅. (
          (r₁.0 ∙ sign_same n r₁.1) ⊕ (r₂.0 ∙ ap (bits 4) (sym r₃.1)) ⊕ r₃.0 ⊕ (r₄.0 ∙ ap (bits 2) (sym r₅.1)) ⊕ r₅.0,
          record {
            few = subst (λ z. z < 16) (sym r₃.1) r₂.1;
            sorts = r₃.2;
            few_quantified = subst (λ z. z < 4) (sym r₅.1) r₄.1;
            quantified = r₅.2;
          },
        ))))))

    sound_target : (hs : List Header) → Sound f (read_target hs) (λ t bs. (bs ≡ bits 5 t.0) × (t.0 < 32) × (at hs t.0 ≡ Some t.1))
    sound_target hs = sound_map (read_target hs) (sound_for 5 (λ i. bind (at hs i) (λ h. Some (i, h))) NoSuchName) fact
      where
        fact : (t : ℕ × Header) (bs : List ℕ) → For 5 (λ i. bind (at hs i) (λ h. Some (i, h))) t bs → (bs ≡ bits 5 t.0) × (t.0 < 32) × (at hs t.0 ≡ Some t.1)
        fact t bs w =
            let (h, e₁, e₂) = bind_inv (at hs w.0) (λ h. Some (w.0, h)) t w.3 in
            subst (λ (u : ℕ × Header). (bs ≡ bits 5 u.0) × (u.0 < 32) × (at hs u.0 ≡ Some u.1)) (some_same (w.0, h) t e₂) (w.1, w.2, e₁)

    sound_term : (c : Scope) (s : ℕ) → Sound f (read_of a c s) (λ t bs. (bs ≡ term_bits t) × Fits a c 32 s t)
    sound_term c s = sound_last (read_term a c 32 (Some s)) (λ (x : Sorted). x.the_term) _ plain (λ x bs h. h)
      where
        plain : Sound f (read_term a c 32 (Some s)) (λ (x : Sorted) bs. (bs ≡ term_bits x.the_term) × Fits a c 32 s x.the_term)
        plain = record {
          run = λ p l x q e.
              let g = sound a c f (λ o n h j _ l. let w = law.arg o n h j (omega arith) in (w.0, w.1)) 32 (Some s) p x q e in
              record { its = term_bits x.the_term; fact = (refl, subst (λ m. Fits a c 32 m x.the_term) (sym g.needs) g.fits); stands = g.stands; behind = g.behind };
        }

    terms_fit : (c : Scope) (ss : List ℕ) (ts : List Term) → Stepwise (Fits a c 32) ss ts → TermsFit a c ss ts
    terms_fit c [] [] h = tt
    terms_fit c [] (t ∷ ts) h = h
    terms_fit c (s ∷ ss) [] h = h
    terms_fit c (s ∷ ss) (t ∷ ts) h = (h.0, terms_fit c ss ts h.1)

    abbrev ValueFits : ℕ → ℕ → Type 0
    ValueFits s v = (v < 256) × ((z : ℕ) × (a.size s ≡ Some z) × (v < z))

    values_fit : (ss vs : List ℕ) → Stepwise ValueFits ss vs → ValuesFit a ss vs
    values_fit [] [] h = tt
    values_fit [] (t ∷ ts) h = h
    values_fit (s ∷ ss) [] h = h
    values_fit (s ∷ ss) (t ∷ ts) h = (h.0, values_fit ss ts h.1)

    sound_value : (s : ℕ) → Sound f (read_value_of a s) (λ v bs. (bs ≡ bits 8 v) × ValueFits s v)
    sound_value s = sound_map (read_value_of a s) (sound_for 8 (λ v. bind (a.size s) (λ z. below z v)) ValueTooLarge) fact
      where
        fact : (v : ℕ) (bs : List ℕ) → For 8 (λ v. bind (a.size s) (λ z. below z v)) v bs → (bs ≡ bits 8 v) × ValueFits s v
        fact v bs w =
            let (z, e₁, e₂) = bind_inv (a.size s) (λ z. below z w.0) v w.3 in
            let (e, l) = below_inv z w.0 v e₂ in
            subst (λ n. (bs ≡ bits 8 n) × ValueFits s n) e (w.1, (w.2, (z, e₁, l)))

    module _ (hs : List Header) where
      sound_occurrence : (c : Scope) → Sound f (read_occurrence a hs c) (λ o bs. (bs ≡ occurrence_bits o) × OccurrenceFits a hs c o)
      sound_occurrence c =
          sound_then _ _ _ (sound_target hs) (λ t b₁ r₁.
          sound_last _ (λ ts. record { target = t.0; arguments = ts }) _ (sound_rows (read_of a c) term_bits (Fits a c 32) (sound_term c) t.1.sorts) (λ ts b₂ r₂.
          (r₁.0 ⊕ r₂.0, record { small = r₁.1; header = t.1; there = r₁.2; fit = terms_fit c t.1.sorts ts r₂.1 })))

      sound_clause : (c : Scope) → Sound f (read_clause a hs c) (λ k bs. (bs ≡ clause_bits k) × ClauseFits a hs c k)
      sound_clause c =
          sound_then _ _ _ (sound_term c 0) (λ g b₁ r₁.
          sound_then _ _ _ (sound_take 3) (λ n b₂ r₂.
          sound_last _ (λ os. record { guard = g; occurrences = os }) _ (sound_repeated (read_occurrence a hs c) occurrence_bits (OccurrenceFits a hs c) (sound_occurrence c) (suc n)) (λ os b₃ r₃.
          let e : n ≡ length os - 1 = omega (arith, r₃.1) in (
            r₁.0 ⊕ (r₂.0 ∙ ap (bits 3) e) ⊕ r₃.0,
            record { guard = r₁.1; some = omega (arith, r₃.1); few = omega (arith, r₃.1, r₂.1); fit = r₃.2 },
          ))))

      pub sound_body : (h : Header) → Sound f (read_body a hs h) (λ e bs. (bs ≡ body_bits e) × ((header_of e ≡ h) × BodyFits a hs e))
      sound_body h =
          sound_then _ _ _ (sound_term (scope h) 0) (λ t b₁ r₁.
          sound_then _ _ _ (sound_take 4) (λ n b₂ r₂.
          sound_last _ (λ cs. record { sign = h.sign; sorts = h.sorts; quantified = h.quantified; h = t; clauses = cs }) _
          (sound_repeated (read_clause a hs (scope h)) clause_bits (ClauseFits a hs (scope h)) (sound_clause (scope h)) n) (λ cs b₃ r₃. (
            r₁.0 ⊕ (r₂.0 ∙ ap (bits 4) (sym r₃.1)) ⊕ r₃.0,
            (refl, record { h = r₁.1; few = subst (λ z. z < 16) (sym r₃.1) r₂.1; fit = r₃.2 }),
          ))))

      bodies : (ks : List Header) (es : List Equation) → Stepwise (λ h e. (header_of e ≡ h) × BodyFits a hs e) ks es → (map header_of es ≡ ks) × Every (BodyFits a hs) es
      bodies [] [] h = (refl, tt)
      bodies [] (e ∷ es) h = absurd h
      bodies (k ∷ ks) [] h = absurd h
      bodies (k ∷ ks) (e ∷ es) h =
          let (p, q) = bodies ks es h.1 in (ap₂ (λ x xs. x ∷ xs) h.0.0 p, (h.0.1, q))

    pub sound_system : Sound f (read_system a) (λ s bs. (bs ≡ system_bits s) × SystemFits a s)
    sound_system =
        sound_then _ _ _ (sound_take 5) (λ n b₁ r₁.
        sound_must _ (ltb 0 n) NoEquations 0 (λ some.
        sound_then _ _ _ (sound_repeated (read_header a) head_bits (HeaderFits a) sound_header n) (λ hs b₂ r₂.
        sound_then _ _ _ (sound_rows (read_body a hs) body_bits (λ h e. (header_of e ≡ h) × BodyFits a hs e) (sound_body hs) hs) (λ es b₃ r₃.
        sound_then _ _ _ (sound_target hs) (λ t b₄ r₄.
        sound_last _ (λ vs. record { equations = es; start = t.0; values = vs }) _ (sound_rows (read_value_of a) (bits 8) ValueFits sound_value t.1.sorts) (λ vs b₅ r₅.
        whole n b₁ r₁ some hs b₂ r₂ es b₃ r₃.0 (bodies hs hs es r₃.1) t b₄ r₄ vs b₅ r₅))))))
      where
        whole : (n : ℕ) (b₁ : List ℕ) → (b₁ ≡ bits 5 n) × (n < 32) → ltb 0 n ≡ true → (hs : List Header) (b₂ : List ℕ) →
            (b₂ ≡ flat (map head_bits hs)) × (length hs ≡ n) × Every (HeaderFits a) hs → (es : List Equation) (b₃ : List ℕ) → b₃ ≡ flat (map body_bits es) →
            (map header_of es ≡ hs) × Every (BodyFits a hs) es → (t : ℕ × Header) (b₄ : List ℕ) → (b₄ ≡ bits 5 t.0) × (t.0 < 32) × (at hs t.0 ≡ Some t.1) →
            (vs b₅ : List ℕ) → (b₅ ≡ flat (map (bits 8) vs)) × Stepwise ValueFits t.1.sorts vs →
            (b₁ ++ (b₂ ++ (b₃ ++ (b₄ ++ b₅))) ≡ system_bits (record { equations = es; start = t.0; values = vs })) × SystemFits a (record { equations = es; start = t.0; values = vs })
        whole n b₁ r₁ some hs b₂ r₂ es b₃ r₃ h t b₄ r₄ vs b₅ r₅ =
            let e : length es ≡ n = sym (length-map es header_of) ∙ ap length h.0 ∙ r₂.1 in (
              (r₁.0 ∙ ap (bits 5) (sym e)) ⊕ (r₂.0 ∙ ap (λ ks. flat (map head_bits ks)) (sym h.0) ∙ heads_same es) ⊕ r₃ ⊕ r₄.0 ⊕ r₅.0,
              record {
                some = omega (arith, ltb-true 0 n some);
                few = omega (arith, r₁.1);
                headers = subst (Every (HeaderFits a)) (sym h.0) r₂.2;
                bodies = subst (λ ks. Every (BodyFits a ks) es) (sym h.0) h.1;
                small = r₄.1;
                header = t.1;
                there = subst (λ ks. at ks t.0 ≡ Some t.1) (sym h.0) r₄.2;
                values = values_fit t.1.sorts vs r₅.1;
              },
            )
