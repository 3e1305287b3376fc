-- Readers that read something from its bits, joined.
use Rattle.faults.specs.declared.Reason.{Reason}
use Rattle.faults.specs.declared.Reason.TheVariants.{NoEquations, NoSuchSort, NoSuchName, ValueTooLarge}
use Rattle.std.proofs.Common.{◌≡◌, ℕ, zero, suc, ◌+◌, ◌-◌, ◌^◌, ◌<◌, Bool, true, false, ltb, List, [], ◌∷◌, ◌++◌, map, length, Some, Option, sym, refl, ap, ◌∙◌, subst, subst₂, add-zero, add_assoc, arith, length-append}
use mathlib.Core.Bool.{false≢true}
use lib.ListN.{length-map}
use Rattle.std.proofs.lemmas.Bool.{lt-ltb}
use Rattle.definitions.specs.Lists.{at, bind, flat}
use Rattle.definitions.specs.Bits.{bits, Stands}
use Rattle.definitions.specs.Alg.{Alg}
use Rattle.definitions.specs.Solution.{Sign, least, greatest}
use Rattle.definitions.specs.Systems.{Quantifier, exists, forall, Quantified, Term, Occurrence, Clause, Equation, System}
use Rattle.definitions.specs.Reading.{next, Reader, take, take_for, follow, give, here, below, one_by_one, repeated, ◌>>=◌, ◌>>◌, must}
use Rattle.definitions.specs.ReadSystem.{Scope, Sorted, Header, scope, sign_of, quantifier_of, read_sort, read_quantified, read_header, read_target, read_of, read_occurrence, read_clause, read_body, read_value_of, read_system, read_term}
use Rattle.definitions.specs.Written.{term_bits, sign_bits, quantifier_bits, header_bits, occurrence_bits, clause_bits, body_bits, system_bits}
use Rattle.definitions.specs.Fits.{Fits, Every, SortFits, HeaderFits, header_of, TermsFit, ValuesFit, OccurrenceFits, ClauseFits, BodyFits, SystemFits}
use Rattle.theorems.proofs.Fields.{stands_left, stands_right, takes, below_some}
use Rattle.theorems.proofs.Back.{reads}
use Rattle.theorems.proofs.Listing.{every_map}

-- r reads x from the bits bs, wherever they stand in f
pub record Good (f : List ℕ) {A : Type 0} (r : Reader A) (x : A) (bs : List ℕ) : Type 0 where
  pub run : (p : ℕ) → Stands f p bs → r f p ≡ next x (p + length bs)

pub bits_long : (w v : ℕ) → length (bits w v) ≡ w
bits_long zero v = refl
bits_long (suc w) v = ap suc (bits_long w _)

-- the bits of a header alone, and of those of a system's equations
abbrev pub head_bits : Header → List ℕ
head_bits e =
    sign_bits e.sign ++ (bits 4 (length e.sorts) ++ (flat (map (bits 4) e.sorts) ++
    (bits 2 (length e.quantified) ++ flat (map (λ (q : Quantified). quantifier_bits q.quantifier ++ bits 4 q.sort) e.quantified))))

pub heads_same : (es : List Equation) → flat (map head_bits (map header_of es)) ≡ flat (map header_bits es)
heads_same [] = refl
heads_same (e ∷ es) = ap (λ bs. header_bits e ++ bs) (heads_same es)

module _ (f : List ℕ) where
  pub good_then : {A B : Type 0} (m : Reader A) (k : A → Reader B) {x : A} {y : B} {bs cs : List ℕ} → Good f m x bs → Good f (k x) y cs → Good f (m >>= k) y (bs ++ cs)
  good_then m k {y = y} {bs} {cs} g g' =
      record {
        run = λ p h.
            ap (λ r. follow r (λ x q. k x f q)) (g.run p (stands_left f p bs cs h)) ∙ g'.run (p + length bs) (stands_right f p bs cs h) ∙
            ap (next y) (sym (ap (λ n. p + n) (length-append bs cs) ∙ sym (add_assoc p (length bs) (length cs))));
      }

  pub good_last : {A B : Type 0} {m : Reader A} (g : A → B) {x : A} {bs : List ℕ} → Good f m x bs → Good f (m >>= (λ z. give (g z))) (g x) bs
  good_last g h = record { run = λ p s. ap (λ r. follow r (λ x q. next (g x) q)) (h.run p s) }

  pub good_take : (w v : ℕ) → v < 2 ^ w → Good f (take w) v (bits w v)
  good_take w v l = record { run = λ p h. takes f p w v l h ∙ ap (next v) (ap (λ n. p + n) (sym (bits_long w v))) }

  pub good_for : {A : Type 0} (w v : ℕ) (what : ℕ → Option A) (r : Reason) (y : A) → v < 2 ^ w → what v ≡ Some y → Good f (take_for w what r) y (bits w v)
  good_for w v what r y l e = record { run = λ p h. rw ((good_take w v l).run p h, e) refl }

  -- behind a test that holds
  pub good_must : {B : Type 0} {k : Reader B} {y : B} {bs : List ℕ} (t : Bool) (r : Reason) (q : ℕ) → t ≡ true → Good f k y bs → Good f (must t r q >> k) y bs
  good_must true r q e g = record { run = g.run }
  good_must false r q e g = absurd (false≢true e)

  -- the place here
  pub good_here : {A : Type 0} (k : ℕ → Reader A) {x : A} {bs : List ℕ} → ((p : ℕ) → Good f (k p) x bs) → Good f (here >>= k) x bs
  good_here k h = record { run = λ p s. (h p).run p s }

  pub good_repeated : {A : Type 0} (r : Reader A) (b : A → List ℕ) (xs : List A) → Every (λ x. Good f r x (b x)) xs → Good f (repeated r (length xs)) xs (flat (map b xs))
  good_repeated r b [] h = record { run = λ p s. ap (next []) (sym (add-zero p)) }
  good_repeated {A} r b (x ∷ xs) h = good_then _ _ h.0 (good_last (λ (ys : List A). x ∷ ys) (good_repeated r b xs h.1))

  -- in step with a list: y is read for x, from the bits b y
  pub data Rows {A B : Type 0} (r : A → Reader B) (b : B → List ℕ) : List A → List B → Type 0 where
    no_row : Rows r b [] []
    a_row : {x : A} {y : B} {xs : List A} {ys : List B} → Good f (r x) y (b y) → Rows r b xs ys → Rows r b (x ∷ xs) (y ∷ ys)

  pub good_rows : {A B : Type 0} (r : A → Reader B) (b : B → List ℕ) {xs : List A} {ys : List B} → Rows r b xs ys → Good f (one_by_one r xs) ys (flat (map b ys))
  good_rows r b no_row = record { run = λ p s. ap (next []) (sym (add-zero p)) }
  good_rows {B = B} r b (a_row {y = y} g gs) = good_then _ _ g (good_last (λ (zs : List B). y ∷ zs) (good_rows r b gs))

  pub sign_good : (s : Sign) → (n : ℕ) × (sign_bits s ≡ bits 1 n) × (n < 2) × (sign_of n ≡ s)
  sign_good least = (0, refl, omega arith, refl)
  sign_good greatest = (1, refl, omega arith, refl)

  quantifier_good : (s : Quantifier) → (n : ℕ) × (quantifier_bits s ≡ bits 1 n) × (n < 2) × (quantifier_of n ≡ s)
  quantifier_good exists = (0, refl, omega arith, refl)
  quantifier_good forall = (1, refl, omega arith, refl)

  module _ (a : Alg) where
    good_sort : (s : ℕ) → SortFits a s → Good f (read_sort a) s (bits 4 s)
    good_sort s h = good_for 4 s (λ t. bind (a.size t) (λ _. Some t)) NoSuchSort s h.0 (rw h.1.1 refl)

    good_quantified : (q : Quantified) → SortFits a q.sort → Good f (read_quantified a) q (quantifier_bits q.quantifier ++ bits 4 q.sort)
    good_quantified q h =
        let (n, e, l, e') = quantifier_good q.quantifier in
        subst₂ (λ bs k. Good f (read_quantified a) (record { quantifier = k; sort = q.sort }) (bs ++ bits 4 q.sort)) (sym e) e'
        (good_then _ _ (good_take 1 n l) (good_last (λ s. record { quantifier = quantifier_of n; sort = s }) (good_sort q.sort h)))

    good_header : (h : Header) → HeaderFits a h → Good f (read_header a) h (head_bits h)
    good_header h k =
        let (n, e, l, e') = sign_good h.sign in
        let ss = flat (map (bits 4) h.sorts) in
        let qs = flat (map (λ (q : Quantified). quantifier_bits q.quantifier ++ bits 4 q.sort) h.quantified) in
        subst₂ (λ bs g. Good f (read_header a) (record { sign = g; sorts = h.sorts; quantified = h.quantified })
        (bs ++ (bits 4 (length h.sorts) ++ (ss ++ (bits 2 (length h.quantified) ++ qs))))) (sym e) e'
        (good_then _ _ (good_take 1 n l)
        (good_then _ _ (good_take 4 (length h.sorts) k.few)
        (good_then _ _ (good_repeated (read_sort a) (bits 4) h.sorts (every_map h.sorts good_sort k.sorts))
        (good_then _ _ (good_take 2 (length h.quantified) k.few_quantified)
        (good_last (λ q. record { sign = sign_of n; sorts = h.sorts; quantified = q })
        (good_repeated (read_quantified a) (λ (q : Quantified). quantifier_bits q.quantifier ++ bits 4 q.sort) h.quantified
        (every_map h.quantified good_quantified k.quantified)))))))

    good_target : (hs : List Header) (i : ℕ) (h : Header) → i < 32 → at hs i ≡ Some h → Good f (read_target hs) (i, h) (bits 5 i)
    good_target hs i h l e = good_for 5 i (λ j. bind (at hs j) (λ k. Some (j, k))) NoSuchName (i, h) l (rw e refl)

    pub good_term : (c : Scope) (s : ℕ) (t : Term) → Fits a c 32 s t → Good f (read_of a c s) t (term_bits t)
    good_term c s t k = good_last (λ (x : Sorted). x.the_term) (plain c s t k)
      where
        plain : (c : Scope) (s : ℕ) (t : Term) → Fits a c 32 s t → Good f (read_term a c 32 (Some s)) (record { the_term = t; the_sort = s }) (term_bits t)
        plain c s t k = record { run = λ p h. reads k f (Some s) refl p h }

    term_rows : (c : Scope) (ss : List ℕ) (ts : List Term) → TermsFit a c ss ts → Rows (read_of a c) term_bits ss ts
    term_rows c [] [] h = no_row
    term_rows c [] (t ∷ ts) h = absurd h
    term_rows c (s ∷ ss) [] h = absurd h
    term_rows c (s ∷ ss) (t ∷ ts) h = a_row (good_term c s t h.0) (term_rows c ss ts h.1)

    value_rows : (ss vs : List ℕ) → ValuesFit a ss vs → Rows (read_value_of a) (bits 8) ss vs
    value_rows [] [] h = no_row
    value_rows [] (v ∷ vs) h = absurd h
    value_rows (s ∷ ss) [] h = absurd h
    value_rows (s ∷ ss) (v ∷ vs) h =
        a_row (good_for 8 v (λ w. bind (a.size s) (λ z. below z w)) ValueTooLarge v h.0.0 (rw h.0.1.1 (below_some h.0.1.0 v h.0.1.2))) (value_rows ss vs h.1)

    module _ (hs : List Header) where
      good_occurrence : (c : Scope) (o : Occurrence) → OccurrenceFits a hs c o → Good f (read_occurrence a hs c) o (occurrence_bits o)
      good_occurrence c o k =
          good_then _ _ (good_target hs o.target k.header k.small k.there)
          (good_last (λ ts. record { target = o.target; arguments = ts }) (good_rows (read_of a c) term_bits (term_rows c k.header.sorts o.arguments k.fit)))

      pub good_clause : (c : Scope) (k : Clause) → ClauseFits a hs c k → Good f (read_clause a hs c) k (clause_bits k)
      good_clause c k h =
          let n = length k.occurrences - 1 in
          let e : length k.occurrences ≡ suc n = omega (arith, h.some) in
          good_then _ _ (good_term c 0 k.guard h.guard)
          (good_then _ _ (good_take 3 n (omega (arith, h.few, h.some)))
          (good_last (λ z. record { guard = k.guard; occurrences = z })
          (subst (λ m. Good f (repeated (read_occurrence a hs c) m) k.occurrences (flat (map occurrence_bits k.occurrences))) e
          (good_repeated (read_occurrence a hs c) occurrence_bits k.occurrences (every_map k.occurrences (good_occurrence c) h.fit)))))

      good_body : (e : Equation) → BodyFits a hs e → Good f (read_body a hs (header_of e)) e (body_bits e)
      good_body e h =
          let c = scope (header_of e) in
          good_then _ _ (good_term c 0 e.h h.h)
          (good_then _ _ (good_take 4 (length e.clauses) h.few)
          (good_last (λ z. record { sign = e.sign; sorts = e.sorts; quantified = e.quantified; h = e.h; clauses = z })
          (good_repeated (read_clause a hs c) clause_bits e.clauses (every_map e.clauses (good_clause c) h.fit))))

      body_rows : (es : List Equation) → Every (BodyFits a hs) es → Rows (read_body a hs) body_bits (map header_of es) es
      body_rows [] h = no_row
      body_rows (e ∷ es) h = a_row (good_body e h.0) (body_rows es h.1)

    good_heads : (es : List Equation) → Every (HeaderFits a) (map header_of es) → Good f (repeated (read_header a) (length es)) (map header_of es) (flat (map header_bits es))
    good_heads es h =
        subst₂ (λ n bs. Good f (repeated (read_header a) n) (map header_of es) bs) (length-map es header_of) (heads_same es)
        (good_repeated (read_header a) head_bits (map header_of es) (every_map (map header_of es) good_header h))

    pub good_system : (s : System) → SystemFits a s → Good f (read_system a) s (system_bits s)
    good_system s h =
        let hs = map header_of s.equations in
        good_then _ _ (good_take 5 (length s.equations) h.few)
        (good_must (ltb 0 (length s.equations)) NoEquations 0 (lt-ltb 0 (length s.equations) h.some)
        (good_then _ _ (good_heads s.equations h.headers)
        (good_then _ _ (good_rows (read_body a hs) body_bits (body_rows hs s.equations h.bodies))
        (good_then _ _ (good_target hs s.start h.header h.small h.there)
        (good_last (λ vs. record { equations = s.equations; start = s.start; values = vs })
        (good_rows (read_value_of a) (bits 8) (value_rows h.header.sorts s.values h.values)))))))
