-- Tables of what is known on the way to the least knowledge.
use Rattle.std.proofs.Common.{◌≡◌, ℕ, zero, suc, ◌<◌, ◌≤◌, Bool, true, false, eqb, ◌⊎◌, inl, inr, List, [], ◌∷◌, ◌++◌, map, length, get_or, set, take, replicate, Some, None, Option, Ok, Err, Result, sym, refl, ap, ap₂, ◌∙◌, ◌-◌, subst, arith}
use mathlib.Core.Bool.{false≢true}
use lib.ListN.{length-map}
use Rattle.std.specs.Option.{IsSome, IfSome}
use Rattle.std.proofs.lemmas.Bool.{eqb-true, eqb-false}
use Rattle.std.proofs.lemmas.List.{get_or-set_same, get_or-set_other, get_or_default}
use Rattle.definitions.specs.Lists.{at}
use Rattle.definitions.specs.Alg.{Alg}
use Rattle.definitions.specs.Systems.{Equation, System}
use Rattle.definitions.specs.Reading.{next}
use Rattle.definitions.specs.ReadSystem.{Header, read_body}
use Rattle.definitions.specs.Constants.{Known, Knowledge, Brought, taken, learnt, learnt_all, equation_brings, unreached, least_knowledge}
use Rattle.definitions.specs.Fits.{Every, header_of}
use Rattle.theorems.specs.KnowledgeLaws.{arities, Shaped}
use Rattle.theorems.proofs.Listing.{some_same, at_lt, at_mapped, at_map_some, every_map}
use Rattle.theorems.proofs.Knows.{from_belows, to_all}
use Rattle.theorems.proofs.Stable.{Shape, OfShape, learns_all, from_all}
use Rattle.theorems.proofs.Following.{Learning, to_belows, shape_long, shape_at, shape_of, brings_shaped, learning_begin, learning_next, learning_end}
use Rattle.terms.specs.Known.{Alike}
use Rattle.rows.specs.Listed.{listed, listed_within}
use Rattle.system.specs.declared.outline.Equation.{Equation as Told}
use Rattle.system.specs.declared.outline.Outline.{Outline}
use Rattle.system.specs.Files.{kept_header}
use Rattle.system.specs.Whole.{kept_headers, Outlined}
use Rattle.passes.specs.declared.constants.Known.{Known as Kept}
use Rattle.passes.specs.declared.constants.Known.TheVariants.{Unreached, Fresh, Followed}
use Rattle.passes.specs.declared.plan.ParameterChange.TheVariants.{Stays, Goes, Becomes}
use Rattle.passes.specs.declared.plan.EquationChange.{EquationChange}
use Rattle.passes.specs.declared.plan.EquationChange.TheVariants as equation
use Rattle.passes.specs.declared.plan.Plan.{Plan}
use Rattle.passes.specs.Plans.{Changes, becomes, knowing}
use Rattle.passes.specs.declared.plan.Missing.{Missing}
use Rattle.passes.specs.Learned.{Tells, Shows, kept_at, followed, fresh, Brings, Follows, put, changing, Learnt, Learns, Least}
use Rattle.passes.proofs.Learning.{alike_same, kept_lt, shows_set, kept_set}

-- a list's member
pub at_told : {X : Type 0} (xs : List X) (i : ℕ) (x : X) → i < length xs → x ≡ get_or xs i x → at xs i ≡ Some x
at_told [] i x l e = absurd (omega arith)
at_told (y ∷ xs) zero x l e = ap Some (sym e)
at_told (y ∷ xs) (suc i) x l e = at_told xs i x (omega arith) e

-- what is got is there
pub got : {X : Type 0} (P : X → Type 0) (o : Option X) (x : X) → o ≡ Some x → IfSome o P → P x
got P o x e h = subst (λ (o : Option _). IfSome o P) e h

pub not_got : {X : Type 0} (o : Option X) → o ≡ None → IsSome o → ⊥
not_got o e h = false≢true (subst (λ (o : Option _). IsSome o) e h)

-- an entry that is followed and has not changed tells the same as before
same_told : {ns : List ℕ} {J K : Knowledge} (j : ℕ) (k : Kept) → followed k ≡ true → Shape ns J → Shape ns K → Tells k (get_or J j None) → Tells k (get_or K j None) → get_or K j None ≡ get_or J j None
same_told j Unreached f y z s t = absurd cc
same_told j (Fresh vs) f y z s t = absurd cc
same_told j (Followed vs) f y z s t =
    let long : length t.0 ≡ length s.0 = some_same (length t.0) (length s.0) (sym (shape_at z j t.0 t.1) ∙ shape_at y j s.0 s.1) in
    t.1 ∙ ap Some (alike_same t.0 s.0 long (λ n. sym (t.2 n) ∙ s.2 n)) ∙ sym s.1

-- a mark as followed tells the same
shows_followed : (T : List Kept) (K : Knowledge) (i : ℕ) (vs : List (Option ℕ)) → kept_at T i ≡ Fresh vs → Shows T K → Shows (set T i (Followed vs)) K
shows_followed T K i vs e s j = go (eqb j i) refl
  where
    go : (b : Bool) → eqb j i ≡ b → Tells (kept_at (set T i (Followed vs)) j) (get_or K j None)
    go true k =
        let same = eqb-true j i k in
        let x : kept_at (set T i (Followed vs)) j ≡ Followed vs = ap (kept_at (set T i (Followed vs))) same ∙ get_or-set_same T i (Followed vs) Unreached (kept_lt T i vs e) in
        subst (λ x. Tells x (get_or K j None)) (sym x) (subst (λ x. Tells x (get_or K j None)) (ap (kept_at T) same ∙ e) (s j))
    go false k = subst (λ x. Tells x (get_or K j None)) (sym (get_or-set_other T i j (Followed vs) Unreached (eqb-false j i k))) (s j)

-- knowledge on the way, by the words of the theory
abbrev Inside : Alg → System → List Kept → Type 0
Inside a s T = (K : Knowledge) × Shows T K × Learning a s (λ i. followed (kept_at T i)) K

inside : (a : Alg) (s : System) (T : List Kept) → Learnt a s T → Inside a s T
inside a s T l =
    let K = l.0 in
    let u = l.2 in (
      K,
      l.1,
      record {
        shape = shape_of (arities s.equations) K (u.long ∙ sym (length-map s.equations (λ (e : Equation). length e.sorts))) u.arity;
        least = to_belows K (least_knowledge a s) u.least;
        start = (to_all K ((s.start, map Some s.values) ∷ []) u.start).0;
        followed = λ i e p d. to_all K (equation_brings a e (get_or K i None)) (u.followed i e p d);
      },
    )

outside : (a : Alg) (s : System) (T : List Kept) → Inside a s T → Learnt a s T
outside a s T l =
    let K = l.0 in
    let u = l.2 in (
      K,
      l.1,
      record {
        long = shape_long u.shape ∙ length-map s.equations (λ (e : Equation). length e.sorts);
        arity = λ i ks. shape_at u.shape i ks;
        least = from_belows u.least;
        start = from_all K ((s.start, map Some s.values) ∷ []) (u.start, tt);
        followed = λ i e p d. from_all K (equation_brings a e (get_or K i None)) (u.followed i e p d);
      },
    )

module _ (a : Alg) (s : System) (h : Shaped s) where
  abbrev ns : List ℕ
  ns = arities s.equations

  module _ (T : List Kept) (i : ℕ) (vs : List (Option ℕ)) (e : kept_at T i ≡ Fresh vs) where
    -- an entry that is to be followed is an equation's
    entry : (l : Inside a s T) → Tells (Fresh vs) (get_or l.0 i None)
    entry l = subst (λ k. Tells k (get_or l.0 i None)) e (l.1 i)

    equation_there : Inside a s T → (q : Equation) × (at s.equations i ≡ Some q)
    equation_there l =
        let t = entry l in
        let m = at_map_some (λ (e : Equation). length e.sorts) s.equations i (length t.0) (shape_at l.2.shape i t.0 t.1) in
        (m.0, m.1)

    -- it is followed
    followed_learnt : (U : List Kept) (l : Inside a s T) (q : Equation) → at s.equations i ≡ Some q → Brings (equation_brings a q (Some (entry l).0)) (set T i (Followed vs)) U → Inside a s U
    followed_learnt U l q p b = (N, shows, learning_next a s h i q ks (λ j. followed (kept_at U j)) l.2 p t.1 keeps)
      where
        t : Tells (Fresh vs) (get_or l.0 i None)
        t = entry l

        ks : Known
        ks = t.0

        bs : List Brought
        bs = equation_brings a q (Some ks)

        N : Knowledge
        N = learnt_all l.0 bs

        shaped : OfShape ns bs
        shaped = brings_shaped a s h i q (Some ks) p

        before : Shows (set T i (Followed vs)) l.0
        before = shows_followed T l.0 i vs e l.1

        within : Every (λ (b : Brought). b.0 < length l.0) bs
        within = every_map bs (λ b m. (let k = at_lt ns b.0 (length b.1) m in omega (arith, shape_long l.2.shape))) shaped

        shows : Shows U N
        shows = b.shows l.0 within before

        keeps : (j : ℕ) → followed (kept_at U j) ≡ true → (get_or N j None ≡ get_or l.0 j None) × ((j ≡ i) ⊎ (followed (kept_at T j) ≡ true))
        keeps j f = (same_told j (kept_at U j) f l.2.shape (learns_all bs l.2.shape shaped).shape (subst (λ k. Tells k (get_or l.0 j None)) (sym (b.kept j f)) (before j)) (shows j), go (eqb j i) refl)
          where
            go : (b : Bool) → eqb j i ≡ b → (j ≡ i) ⊎ (followed (kept_at T j) ≡ true)
            go true k = inl (eqb-true j i k)
            go false k = inr (ap followed (sym (b.kept j f ∙ get_or-set_other T i j (Followed vs) Unreached (eqb-false j i k))) ∙ f)

  -- in an outlined file
  module _ (f : List ℕ) (o : Outline) (out : Outlined a f s o) (T : List Kept) (i : ℕ) (vs : List (Option ℕ)) (e : kept_at T i ≡ Fresh vs) (l : Learnt a s T) where
    pub follow_there : i < length (listed o.equations)
    follow_there = let q = equation_there T i vs e (inside a s T l) in let k = at_lt s.equations i q.0 q.1 in omega (arith, out.count)

    pub follow_learns : {X : Type 0} (U : List Kept) (t : Told) (r : Result X Missing) → at (listed o.equations) i ≡ Some t →
        ((ks : Known) (h : Header) (q : Equation) (p : ℕ) → Alike vs ks → read_body a (kept_headers o) h f t.body ≡ next q p → Follows (equation_brings a q (Some ks)) (set T i (Followed vs)) U r) →
        Learns a s U r
    follow_learns U t r at_t b = go r (b (entry T i vs e (inside a s T l)).0 (header_of q.0) q.0 read.0 (entry T i vs e (inside a s T l)).2 read.1)
      where
        q : (q : Equation) × (at s.equations i ≡ Some q)
        q = equation_there T i vs e (inside a s T l)

        read : (p : ℕ) × (read_body a (kept_headers o) (header_of q.0) f t.body ≡ next q.0 p)
        read = out.bodies i q.0 t q.1 at_t

        go : {X : Type 0} (r : Result X Missing) → Follows (equation_brings a q.0 (Some (entry T i vs e (inside a s T l)).0)) (set T i (Followed vs)) U r → Learns a s U r
        go (Ok x) b = outside a s U (followed_learnt T i vs e U (inside a s T l) q.0 q.1 b)
        go (Err x) b = absurd b

  -- once nothing is left to be followed
  pub learnt_least : (T : List Kept) → ((i : ℕ) → fresh (kept_at T i) ≡ false) → Learnt a s T → Least a s (Ok T)
  learnt_least T n l =
      let m = inside a s T l in
      subst (Shows T) (learning_end a s h m.2 (λ i q p f. go i (kept_at T i) (get_or m.0 i None) (n i) f (m.1 i))) m.1
    where
      go : (i : ℕ) (k : Kept) (o : Option Known) → fresh k ≡ false → followed k ≡ false → Tells k o → o ≡ None
      go i Unreached o u f t = t
      go i (Fresh vs) o u f t = absurd cc
      go i (Followed vs) o u f t = absurd cc

  -- the start
  none_reached : (es : List Equation) (i : ℕ) → get_or {A = Option Known} (map (λ _. None) es) i None ≡ None
  none_reached [] i = refl
  none_reached (q ∷ es) zero = refl
  none_reached (q ∷ es) (suc i) = none_reached es i

  none_kept : (n i : ℕ) → kept_at (replicate n Unreached) i ≡ Unreached
  none_kept zero i = refl
  none_kept (suc n) zero = refl
  none_kept (suc n) (suc i) = none_kept n i

  pub start_learnt : (vs : List (Option ℕ)) → Alike vs (map Some s.values) → length vs ≡ 15 → s.start < 31 → Learnt a s (set (replicate 31 Unreached) s.start (Fresh vs))
  start_learnt vs alike long low = outside a s T (learnt (unreached s) s.start (map Some s.values), shows, learning_begin a s h (λ i. followed (kept_at T i)) none)
    where
      T : List Kept
      T = set (replicate 31 Unreached) s.start (Fresh vs)

      shows : Shows T (learnt (unreached s) s.start (map Some s.values))
      shows =
          let k = at_lt ns s.start (length s.values) h.0 in
          shows_set (replicate 31 Unreached) (unreached s) s.start (Fresh vs) (map Some s.values) (omega arith) (omega (arith, length-map s.equations (λ (e : Equation). length e.sorts), length-map {B = Option Known} s.equations (λ _. None)))
          (map Some s.values, ap (λ o. Some (taken o (map Some s.values))) (none_reached s.equations s.start), alike, long)
          (λ i. subst (λ k. Tells k (get_or (unreached s) i None)) (sym (none_kept 31 i)) (none_reached s.equations i))

      none : (i : ℕ) → followed (kept_at T i) ≡ true → ⊥
      none i f =
          let e : kept_at T i ≡ Unreached = kept_set (replicate 31 Unreached) s.start (Fresh vs) (λ c. absurd cc) i f ∙ none_kept 31 i in
          let bad : false ≡ true = ap followed (sym e) ∙ f in
          absurd cc

  front : (xs ys : List ℕ) → take (length xs) (xs ++ ys) ≡ xs
  front [] ys = refl
  front (x ∷ xs) ys = ap (λ z. x ∷ z) (front xs ys)

  pub start_values : (f : List ℕ) (o : Outline) (t : Told) → Outlined a f s o → at (listed o.equations) o.start.equation ≡ Some t → take (length (listed t.header.sorts)) o.start.values ≡ s.values
  start_values f o t out p =
      let here = sym (ap (λ hs. at hs o.start.equation) out.headers) ∙ at_mapped (λ (t : Told). kept_header t.header) (listed o.equations) o.start.equation t p in
      let m = at_map_some header_of s.equations o.start.equation (kept_header t.header) here in
      let count : length m.0.sorts ≡ length s.values = some_same (length m.0.sorts) (length s.values) (sym (at_mapped (λ (e : Equation). length e.sorts) s.equations o.start.equation m.0 m.1) ∙ ap (at ns) out.start ∙ h.0) in
      let long : length (listed t.header.sorts) ≡ length s.values = ap (λ (h : Header). length h.sorts) (sym m.2) ∙ count in
      ap₂ take long out.values ∙ front s.values (replicate (15 - length s.values) 0)

-- the plan by the least knowledge
all_goes : (n i : ℕ) → i < n → at (replicate n Goes) i ≡ Some Goes
all_goes zero i l = absurd (omega arith)
all_goes (suc n) zero l = refl
all_goes (suc n) (suc i) l = all_goes n i (omega arith)

put_becomes : (o : Option ℕ) → put o ≡ elim o [ None ↦ Stays | Some v ↦ Becomes v ]
put_becomes None = refl
put_becomes (Some v) = refl

abbrev becoming : Option Known → EquationChange
becoming o = elim o [ None ↦ equation.Bare | Some ks ↦ equation.Stays ]

put_there : (vs ks : List (Option ℕ)) → Alike vs ks → length vs ≡ 15 → (n : ℕ) → n < 15 → at (map put vs) n ≡ Some (becomes (Some ks) n)
put_there vs ks h long n l =
    at_mapped put vs n (get_or vs n None) (at_told vs n (get_or vs n None) (omega arith) (get_or_default vs n None (get_or vs n None) (omega arith))) ∙ ap Some (ap put (h n) ∙ put_becomes (get_or ks n None))

changes_told : (e : Equation) (k : Kept) (o : Option Known) → length e.sorts ≤ 15 → Tells k o → Changes e (becoming o) (becomes o) (changing k)
changes_told e Unreached o few t = subst (λ o. Changes e (becoming o) (becomes o) (changing Unreached)) (sym t) (record { equation = refl; parameters = λ n l. all_goes 15 n (omega arith) })
changes_told e (Fresh vs) o few t = subst (λ o. Changes e (becoming o) (becomes o) (changing (Fresh vs))) (sym t.1) (record { equation = refl; parameters = λ n l. put_there vs t.0 t.2 t.3 n (omega arith) })
changes_told e (Followed vs) o few t = subst (λ o. Changes e (becoming o) (becomes o) (changing (Followed vs))) (sym t.1) (record { equation = refl; parameters = λ n l. put_there vs t.0 t.2 t.3 n (omega arith) })

kept_there : (T : List Kept) (i : ℕ) → i < length T → at T i ≡ Some (kept_at T i)
kept_there [] i l = absurd (omega arith)
kept_there (k ∷ T) zero l = refl
kept_there (k ∷ T) (suc i) l = kept_there T i (omega arith)

pub plan_knowing : (a : Alg) (s : System) (f : List ℕ) (o : Outline) → Outlined a f s o → (T : List Kept) (P : Plan) → length T ≡ 31 → P.fold ≡ false → P.equations ≡ map changing T → Shows T (least_knowledge a s) → knowing a s P
plan_knowing a s f o out T P long folds is shows = record {
  fold = folds;
  each_equation = λ i e p.
      let m = at_map_some (λ (t : Told). kept_header t.header) (listed o.equations) i (header_of e) (ap (λ hs. at hs i) out.headers ∙ at_mapped header_of s.equations i e p) in
      let few : length e.sorts ≤ 15 = subst (λ (h : Header). length h.sorts ≤ 15) m.2 (listed_within m.0.header.sorts) in
      let l = at_lt (listed o.equations) i m.0 m.1 in
      let w = listed_within o.equations in (
        changing (kept_at T i),
        (ap (λ cs. at cs i) is ∙ at_mapped changing T i (kept_at T i) (kept_there T i (omega arith)), changes_told e (kept_at T i) (get_or (least_knowledge a s) i None) few (shows i)),
      );
}
