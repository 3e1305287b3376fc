-- Whole system files as they are read.
use Rattle.std.proofs.Common.{◌≡◌, ℕ, zero, suc, ◌≤◌, Bool, true, false, ◌||◌, eqb, ltb, List, [], ◌∷◌, map, length, get_or, Some, sym, refl, ap, ◌∙◌, arith}
use Rattle.std.proofs.lemmas.Bool.{lt-ltb, ltb-false}
use Rattle.std.proofs.lemmas.List.{length-map}
use Rattle.faults.specs.declared.Reason.{Reason}
use Rattle.faults.specs.declared.Reason.TheVariants.{BadLength, NoEquations}
use Rattle.definitions.specs.Lists.{at}
use Rattle.definitions.specs.Alg.{Alg}
use Rattle.definitions.specs.Systems.{Term, Clause, Equation, System}
use Rattle.definitions.specs.Reading.{Step, next, stop, Reader, follow, take, repeated, one_by_one, must, ended, complete, got, bad}
use Rattle.definitions.specs.ReadSystem.{Header, scope, read_of, read_clause, read_body, read_target, read_value_of, read_header, read_system, reading}
use Rattle.definitions.specs.Fits.{header_of}
use Rattle.system.specs.Steps.{placed}
use Rattle.system.specs.Bodies.{places_of, padded}
use Rattle.system.specs.Files.{kept_header}
use Rattle.system.specs.Whole.{read_rest, kept_headers, Outlined}
use Rattle.system.specs.declared.outline.Outline.{Outline}
use Rattle.system.specs.declared.header.Header.{Header as KeptHeader}
use Rattle.system.specs.declared.outline.Equation.{Equation as Told}
use Rattle.rows.specs.Listed.{listed}
use Rattle.system.proofs.Walks.{ReadAt, places_read}

-- what was placed
pub was_next : {X : Type 0} (m : Step X) (q : ℕ) → next tt q ≡ placed m → (x : X) × (m ≡ next x q)
was_next (next x t) q e = let i : t ≡ q = cc in (x, ap (λ u. next x u) i)
was_next (stop r t) q e = absurd cc

pub was_stop : {X : Type 0} (m : Step X) (r : Reason) (q : ℕ) → stop r q ≡ placed m → m ≡ stop r q
was_stop (next x t) r q e = absurd cc
was_stop (stop s t) r q e = let i : s ≡ r = cc in let j : t ≡ q = cc in ap (λ u. stop u t) i ∙ ap (λ u. stop r u) j

-- an equation as read has the header that it was read by
pub read_header_lem : (a : Alg) (hs : List Header) (h : Header) (f : List ℕ) (p : ℕ) (e : Equation) (q : ℕ) → read_body a hs h f p ≡ next e q → header_of e ≡ h
read_header_lem a hs h f p e q k = go (read_of a (scope h) 0 f p) k
  where
    clauses : (t : Term) (m : Step (List Clause)) → follow m (λ cs v. next (record { sign = h.sign; sorts = h.sorts; quantified = h.quantified; h = t; clauses = cs }) v) ≡ next e q → header_of e ≡ h
    clauses t (next cs v) k =
        let i : record { sign = h.sign; sorts = h.sorts; quantified = h.quantified; h = t; clauses = cs } ≡ e = cc in
        sym (ap header_of i)
    clauses t (stop r v) k = absurd cc

    counted : (t : Term) (m : Step ℕ) → follow m (λ n u. follow (repeated (read_clause a hs (scope h)) n f u) (λ cs v. next (record { sign = h.sign; sorts = h.sorts; quantified = h.quantified; h = t; clauses = cs }) v)) ≡ next e q → header_of e ≡ h
    counted t (next n u) k = clauses t (repeated (read_clause a hs (scope h)) n f u) k
    counted t (stop r u) k = absurd cc

    go : (m : Step Term) → follow m (λ t q. follow (take 4 f q) (λ n u. follow (repeated (read_clause a hs (scope h)) n f u) (λ cs v. next (record { sign = h.sign; sorts = h.sorts; quantified = h.quantified; h = t; clauses = cs }) v))) ≡ next e q → header_of e ≡ h
    go (next t u) k = counted t (take 4 f u) k
    go (stop r u) k = absurd cc

-- values read one by one that each tell what they were read by
pub each_tells : {X B : Type 0} (g : B → X) (r : X → Reader B) (f : List ℕ) → ((x : X) (p : ℕ) (y : B) (q : ℕ) → r x f p ≡ next y q → g y ≡ x) →
    (xs : List X) (p : ℕ) (ys : List B) (q : ℕ) → one_by_one r xs f p ≡ next ys q → map g ys ≡ xs
each_tells g r f t [] p ys q e = let i : ys ≡ [] = cc in ap (map g) i
each_tells {X} {B} g r f t (x ∷ xs) p ys q e = go (λ u zs v. each_tells g r f t xs u zs v) (r x f p) refl e
  where
    rest : (y : B) → g y ≡ x → (m : Step (List B)) → ((zs : List B) (v : ℕ) → m ≡ next zs v → map g zs ≡ xs) → follow m (λ zs v. next (y ∷ zs) v) ≡ next ys q → map g ys ≡ x ∷ xs
    rest y k (next zs v) ih e =
        let i : ys ≡ y ∷ zs = cc in
        ap (map g) i ∙ ap (λ w. w ∷ map g zs) k ∙ ap (λ w. x ∷ w) (ih zs v refl)
    rest y k (stop s v) ih e = absurd cc

    go : ((u : ℕ) (zs : List B) (v : ℕ) → one_by_one r xs f u ≡ next zs v → map g zs ≡ xs) → (m : Step B) → r x f p ≡ m → follow m (λ y t. follow (one_by_one r xs f t) (λ zs v. next (y ∷ zs) v)) ≡ next ys q → map g ys ≡ x ∷ xs
    go ih (next y u) k e = rest y (t x p y u k) (one_by_one r xs f u) (ih u) e
    go ih (stop s u) k e = absurd cc

module _ (a : Alg) (hs : List Header) (f : List ℕ) (p : ℕ) where
  pub rest_no_bodies : (r : Reason) (t : ℕ) → stop r t ≡ placed (one_by_one (read_body a hs) hs f p) → read_rest a hs f p ≡ stop r t
  rest_no_bodies r t e = ap (λ m. follow m (λ es q. follow (read_target hs f q) (λ t q. follow (one_by_one (read_value_of a) t.1.sorts f q) (λ vs q. next (record { equations = es; start = t.0; values = vs }) q)))) (was_stop (one_by_one (read_body a hs) hs f p) r t e)

  bodies_read : (es : List Equation) (q : ℕ) → one_by_one (read_body a hs) hs f p ≡ next es q →
      read_rest a hs f p ≡ follow (read_target hs f q) (λ t q. follow (one_by_one (read_value_of a) t.1.sorts f q) (λ vs q. next (record { equations = es; start = t.0; values = vs }) q))
  bodies_read es q e = ap (λ m. follow m (λ es q. follow (read_target hs f q) (λ t q. follow (one_by_one (read_value_of a) t.1.sorts f q) (λ vs q. next (record { equations = es; start = t.0; values = vs }) q)))) e

  pub rest_no_target : (q : ℕ) → next tt q ≡ placed (one_by_one (read_body a hs) hs f p) → (r : Reason) (t : ℕ) → stop r t ≡ read_target hs f q → read_rest a hs f p ≡ stop r t
  rest_no_target q e r t k =
      let b = was_next (one_by_one (read_body a hs) hs f p) q e in
      bodies_read b.0 q b.1 ∙ ap (λ m. follow m (λ t q. follow (one_by_one (read_value_of a) t.1.sorts f q) (λ vs q. next (record { equations = b.0; start = t.0; values = vs }) q))) (sym k)

  target_read : (es : List Equation) (q i : ℕ) (h : Header) (u : ℕ) → one_by_one (read_body a hs) hs f p ≡ next es q → next (i, h) u ≡ read_target hs f q →
      read_rest a hs f p ≡ follow (one_by_one (read_value_of a) h.sorts f u) (λ vs q. next (record { equations = es; start = i; values = vs }) q)
  target_read es q i h u e k = bodies_read es q e ∙ ap (λ m. follow m (λ t q. follow (one_by_one (read_value_of a) t.1.sorts f q) (λ vs q. next (record { equations = es; start = t.0; values = vs }) q))) (sym k)

  pub rest_no_values : (q : ℕ) → next tt q ≡ placed (one_by_one (read_body a hs) hs f p) → (i : ℕ) (h : Header) (u : ℕ) → next (i, h) u ≡ read_target hs f q →
      (r : Reason) (t : ℕ) → stop r t ≡ one_by_one (read_value_of a) h.sorts f u → read_rest a hs f p ≡ stop r t
  rest_no_values q e i h u k r t l =
      let b = was_next (one_by_one (read_body a hs) hs f p) q e in
      target_read b.0 q i h u b.1 k ∙ ap (λ m. follow m (λ vs q. next (record { equations = b.0; start = i; values = vs }) q)) (sym l)

positive : (n : ℕ) → (n ≡ 0 → ⊥) → true ≡ ltb 0 n
positive n h = sym (lt-ltb 0 n (omega arith))

-- a system whose headers are read
pub system_read : (a : Alg) (f : List ℕ) (n q : ℕ) → next n q ≡ take 5 f 0 → (n ≡ 0 → ⊥) → (hs : List Header) (u : ℕ) → next hs u ≡ repeated (read_header a) n f q → read_system a f 0 ≡ read_rest a hs f u
system_read a f n q e h hs u k =
    ap (λ m. follow m (λ n q. follow (must (ltb 0 n) NoEquations 0 f q) (λ _ q. follow (repeated (read_header a) n f q) (λ hs q. read_rest a hs f q)))) (sym e) ∙
    ap (λ b. follow (must b NoEquations 0 f q) (λ _ q. follow (repeated (read_header a) n f q) (λ hs q. read_rest a hs f q))) (sym (positive n h)) ∙
    ap (λ m. follow m (λ hs q. read_rest a hs f q)) (sym k)

body_at : (ts : List Told) (i : ℕ) (t : Told) → at ts i ≡ Some t → t.body ≡ get_or (map (λ (t : Told). t.body) ts) i 0
body_at [] i t e = absurd cc
body_at (u ∷ ts) zero t e = let i : t ≡ u = cc in ap (λ (t : Told). t.body) i
body_at (u ∷ ts) (suc i) t e = body_at ts i t e

heads : (ts : List Told) → map (λ (t : Told). kept_header t.header) ts ≡ map kept_header (map (λ (t : Told). t.header) ts)
heads [] = refl
heads (t ∷ ts) = ap (λ hs. kept_header t.header ∷ hs) (heads ts)

pub outlined : (a : Alg) (f : List ℕ) (o : Outline) (ks : List KeptHeader) (p q u : ℕ) (h : Header) (vs : List ℕ) → map (λ (t : Told). t.header) (listed o.equations) ≡ ks → read_system a f 0 ≡ read_rest a (map kept_header ks) f p → next tt q ≡ placed (one_by_one (read_body a (map kept_header ks)) (map kept_header ks) f p) →
    map (λ (t : Told). t.body) (listed o.equations) ≡ places_of (read_body a (map kept_header ks)) (map kept_header ks) f p → next (o.start.equation, h) u ≡ read_target (map kept_header ks) f q → next vs o.end ≡ one_by_one (read_value_of a) h.sorts f u → o.start.values ≡ padded vs → (s : System) × Outlined a f s o
outlined a f o ks p q u h vs n e b w t l z =
    let hs = map kept_header ks in
    let d = was_next (one_by_one (read_body a hs) hs f p) q b in
    let k : map header_of d.0 ≡ hs = each_tells header_of (read_body a hs) f (λ x p y q j. read_header_lem a hs x f p y q j) hs p d.0 q d.1 in
    let m : kept_headers o ≡ hs = heads (listed o.equations) ∙ ap (map kept_header) n in (
      record { equations = d.0; start = o.start.equation; values = vs },
      record {
        whole = e ∙ target_read a hs f p d.0 q o.start.equation h u d.1 t ∙ ap (λ m. follow m (λ vs q. next (record { equations = d.0; start = o.start.equation; values = vs }) q)) (sym l);
        count = sym (length-map (listed o.equations) (λ (t : Told). kept_header t.header)) ∙ ap length (m ∙ sym k) ∙ length-map d.0 header_of;
        headers = m ∙ sym k;
        bodies = λ i x t j y. at_place hs m (places_of (read_body a hs) hs f p) w i x t y (places_read f (read_body a hs) hs p q d.0 d.1 i x j);
        start = refl;
        values = z;
      },
    )
  where
    at_place : (hs : List Header) → kept_headers o ≡ hs → (ps : List ℕ) → map (λ (t : Told). t.body) (listed o.equations) ≡ ps → (i : ℕ) (x : Equation) (t : Told) → at (listed o.equations) i ≡ Some t → ReadAt f (read_body a hs) hs ps i x →
        (q : ℕ) × (read_body a (kept_headers o) (header_of x) f t.body ≡ next x q)
    at_place hs m ps w i x t y d =
        let v = d.0 in
        let r = d.1.1.1 in
        let g : header_of x ≡ v = read_header_lem a hs v f (get_or ps i 0) x d.1.0 r in
        let b : t.body ≡ get_or ps i 0 = body_at (listed o.equations) i t y ∙ ap (λ z. get_or z i 0) w in
        (d.1.0, ap (λ z. read_body a z (header_of x) f t.body) m ∙ ap (λ z. read_body a hs z f t.body) g ∙ ap (λ z. read_body a hs v f z) b ∙ r)

-- a system whose headers are not read
pub no_headers : (a : Alg) (f : List ℕ) (n q : ℕ) → next n q ≡ take 5 f 0 → (n ≡ 0 → ⊥) → (r : Reason) (t : ℕ) → stop r t ≡ repeated (read_header a) n f q → read_system a f 0 ≡ stop r t
no_headers a f n q e h r t k =
    ap (λ m. follow m (λ n q. follow (must (ltb 0 n) NoEquations 0 f q) (λ _ q. follow (repeated (read_header a) n f q) (λ hs q. read_rest a hs f q)))) (sym e) ∙
    ap (λ b. follow (must b NoEquations 0 f q) (λ _ q. follow (repeated (read_header a) n f q) (λ hs q. read_rest a hs f q))) (sym (positive n h)) ∙
    ap (λ m. follow m (λ hs q. read_rest a hs f q)) (sym k)

-- a file that is read is not too long
pub got_short : (a : Alg) (f : List ℕ) (s : System) → reading a f ≡ got s → length f ≤ 8192
got_short a f s e = go (eqb (length f) 0) (ltb 8192 (length f)) refl e
  where
    go : (b d : Bool) → ltb 8192 (length f) ≡ d → elim (b || d) [ true ↦ bad BadLength 0 | false ↦ ended (complete (read_system a) f 0) ] ≡ got s → length f ≤ 8192
    go true d h e = absurd cc
    go false true h e = absurd cc
    go false false h e = ltb-false 8192 (length f) h

-- the first of readers in a row, and the rest
pub repeated_more : {B : Type 0} (r : Reader B) (f : List ℕ) (n p : ℕ) (xs : List B) (q : ℕ) → repeated r (suc n) f p ≡ next xs q →
    (x : B) × ((t : ℕ) × ((ys : List B) × ((r f p ≡ next x t) × ((repeated r n f t ≡ next ys q) × (xs ≡ x ∷ ys)))))
repeated_more {B} r f n p xs q e = go (r f p) refl e
  where
    rest : (x : B) (t : ℕ) → r f p ≡ next x t → (m : Step (List B)) → repeated r n f t ≡ m → follow m (λ ys u. next (x ∷ ys) u) ≡ next xs q →
        (x : B) × ((t : ℕ) × ((ys : List B) × ((r f p ≡ next x t) × ((repeated r n f t ≡ next ys q) × (xs ≡ x ∷ ys)))))
    rest x t h (next ys u) k e =
        let i : u ≡ q = cc in
        let j : xs ≡ x ∷ ys = cc in
        (x, (t, (ys, (h, (k ∙ ap (λ z. next ys z) i, j)))))
    rest x t h (stop s u) k e = absurd cc

    go : (m : Step B) → r f p ≡ m → follow m (λ y t. follow (repeated r n f t) (λ ys u. next (y ∷ ys) u)) ≡ next xs q →
        (x : B) × ((t : ℕ) × ((ys : List B) × ((r f p ≡ next x t) × ((repeated r n f t ≡ next ys q) × (xs ≡ x ∷ ys)))))
    go (next x t) h e = rest x t h (repeated r n f t) refl e
    go (stop s t) h e = absurd cc
