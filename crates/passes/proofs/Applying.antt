-- Plans that are made of an accepted file, and the file written by them.
use Rattle.std.proofs.Common.{◌≡◌, ℕ, zero, suc, ◌+◌, ◌<◌, ◌≤◌, Bool, true, false, List, [], ◌∷◌, ◌++◌, map, length, set, get_or, take, drop, replicate, Some, Option, Ok, Err, Result, sym, refl, ap, ◌∙◌, subst, add-one, arith}
use Rattle.std.proofs.lemmas.List.{take_all, set-get_or, get_or-replicate}
use Rattle.std.specs.Result.{result_or, result_unwrap_or}
use Rattle.faults.specs.declared.Reason.TheVariants.{ResultTooLong}
use Rattle.faults.specs.declared.PassFault.TheVariants.{Declined}
use Rattle.definitions.specs.Lists.{at, bind}
use Rattle.definitions.specs.Alg.{Alg, Lawful}
use Rattle.definitions.specs.Systems.{Term, Clause, Equation, System}
use Rattle.definitions.specs.Values.{known, is_false}
use Rattle.definitions.specs.Reading.{next, follow, repeated}
use Rattle.definitions.specs.Reading.{take as field_of}
use Rattle.definitions.specs.ReadSystem.{Header, Sorted, scope, greatest_depth, read_term, read_of, read_clause, read_body}
use Rattle.definitions.specs.Written.{written}
use Rattle.definitions.specs.Fits.{Every, SystemFits, header_of}
use Rattle.definitions.specs.Settle.{Pass, Ran}
use Rattle.definitions.specs.Rules.{applied, applied_to, fitted_in}
use Rattle.definitions.specs.Calls.{Applies}
use Rattle.bits.specs.declared.writer.Full.{Full}
use Rattle.rows.specs.Listed.{listed, listed_within}
use Rattle.terms.specs.Shapes.{what, standing}
use Rattle.terms.proofs.Laws.{followed, term_stands}
use Rattle.system.specs.Files.{kept_header}
use Rattle.system.specs.Whole.{kept_headers, Outlined, Read}
use Rattle.system.specs.declared.outline.Equation.{Equation as Told}
use Rattle.system.specs.declared.outline.Outline.{Outline}
use Rattle.system.proofs.Outlines.{got_short}
use Rattle.theorems.proofs.Listing.{some_same, at_lt, at_some, at_mapped}
use Rattle.theorems.proofs.Repack.{whole_forth}
use Rattle.passes.specs.declared.plan.ParameterChange.TheVariants.{Stays}
use Rattle.passes.specs.declared.plan.EquationChange.{EquationChange}
use Rattle.passes.specs.declared.plan.EquationChange.TheVariants as equation
use Rattle.passes.specs.declared.plan.Change.{Change}
use Rattle.passes.specs.declared.plan.Plan.{Plan}
use Rattle.passes.specs.declared.plan.Missing.{Missing}
use Rattle.passes.specs.Planned.{system_by, Fitted}
use Rattle.passes.specs.Rewrites.{false_at}
use Rattle.passes.specs.Plans.{change_none, Planning, PlansAs, folding}

-- of the changes the first i are as told of the things xs, and the others are as they were
abbrev pub Filled : {X : Type 0} → (X → Change) → List X → ℕ → List Change → Type 0
Filled f xs i cs = cs ≡ map f (take i xs) ++ drop i (replicate 31 change_none)

module _ {X : Type 0} (f : X → Change) where
  set_next : (xs : List X) (e : List Change) (i : ℕ) (x : X) → i < length xs → i < length e → x ≡ get_or xs i x →
      set (map f (take i xs) ++ drop i e) i (f x) ≡ map f (take (suc i) xs) ++ drop (suc i) e
  set_next [] e i x l k p = absurd (omega arith)
  set_next (y ∷ xs) [] i x l k p = absurd (omega arith)
  set_next (y ∷ xs) (c ∷ e) zero x l k p = ap (λ z. f z ∷ e) p
  set_next (y ∷ xs) (c ∷ e) (suc i) x l k p = ap (λ z. f y ∷ z) (set_next xs e i x (omega arith) (omega arith) p)

  still : (xs : List X) (e : List Change) (i : ℕ) (d : Change) → i < length xs → i < length e → get_or (map f (take i xs) ++ drop i e) i d ≡ get_or e i d
  still [] e i d l k = absurd (omega arith)
  still (y ∷ xs) [] i d l k = absurd (omega arith)
  still (y ∷ xs) (c ∷ e) zero d l k = refl
  still (y ∷ xs) (c ∷ e) (suc i) d l k = still xs e i d (omega arith) (omega arith)

  filled_at : (xs : List X) (e : List Change) (i : ℕ) (x : X) → at xs i ≡ Some x → at (map f xs ++ e) i ≡ Some (f x)
  filled_at [] e i x p = absurd cc
  filled_at (y ∷ xs) e zero x p = ap (λ z. Some (f z)) (some_same y x p)
  filled_at (y ∷ xs) e (suc i) x p = filled_at xs e i x p

all_at : {A : Type 0} (n i : ℕ) (x : A) → i < n → at (replicate n x) i ≡ Some x
all_at zero i x l = absurd (omega arith)
all_at (suc n) zero x l = refl
all_at (suc n) (suc i) x l = all_at n i x (omega arith)

-- a change of an equation whose parameters stay
abbrev pub bared : Bool → Change
bared b = record { equation = elim b [ true ↦ equation.Bare | false ↦ equation.Stays ]; parameters = replicate 15 Stays }

-- one equation more, that becomes bare, or stays
module _ {X : Type 0} (p : X → Bool) (xs : List X) (i : ℕ) (cs : List Change) (x : X) (l : i < length xs) (k : i < 31) (is : x ≡ get_or xs i x) (filled : Filled (λ y. bared (p y)) xs i cs) where
  was : (d : Change) → get_or cs i d ≡ change_none
  was d = ap (λ z. get_or z i d) filled ∙ still (λ y. bared (p y)) xs (replicate 31 change_none) i d l k ∙ get_or-replicate 31 i change_none d k

  put : Filled (λ y. bared (p y)) xs (i + 1) (set cs i (bared (p x)))
  put =
      ap (λ z. set z i (bared (p x))) filled ∙ set_next (λ y. bared (p y)) xs (replicate 31 change_none) i x l k is ∙
      ap (λ n. map (λ y. bared (p y)) (take n xs) ++ drop n (replicate 31 change_none)) (sym (add-one i))

  pub bare_next : (d : Change) → p x ≡ true → Filled (λ y. bared (p y)) xs (i + 1) (set cs i (record { equation = equation.Bare; parameters = (get_or cs i d).parameters }))
  bare_next d t = ap (λ (c : Change). set cs i (record { equation = equation.Bare; parameters = c.parameters })) (was d) ∙ ap (λ b. set cs i (bared b)) (sym t) ∙ put

  pub stay_next : p x ≡ false → Filled (λ y. bared (p y)) xs (i + 1) cs
  stay_next t = sym (set-get_or cs i change_none) ∙ ap (set cs i) (was change_none ∙ ap bared (sym t)) ∙ put

-- the h of an equation that is read stands where its body stands
abbrev built : Header → Term → List Clause → Equation
built h g cs = record { sign = h.sign; sorts = h.sorts; quantified = h.quantified; h = g; clauses = cs }

h_stands : (a : Alg) (f : List ℕ) (hs : List Header) (h : Header) (p : ℕ) (e : Equation) (q : ℕ) → length f ≤ 65536 → read_body a hs h f p ≡ next e q → standing a greatest_depth f p ≡ Some e.h
h_stands a f hs h p e q short k =
    let d = followed (read_of a (scope h) 0 f p) (λ g u. follow (field_of 4 f u) (λ n v. follow (repeated (read_clause a hs (scope h)) n f v) (λ cs w. next (built h g cs) w))) e q k in
    let n = followed (field_of 4 f d.1.0) (λ n v. follow (repeated (read_clause a hs (scope h)) n f v) (λ cs w. next (built h d.0 cs) w)) e q d.1.1.1 in
    let b = followed (repeated (read_clause a hs (scope h)) n.0 f n.1.0) (λ cs w. next (built h d.0 cs) w) e q n.1.1.1 in
    let t = followed (read_term a (scope h) greatest_depth (Some 0) f p) (λ (x : Sorted) u. next x.the_term u) d.0 d.1.0 d.1.1.0 in
    ap what (term_stands a (scope h) f short greatest_depth (Some 0) p t.0 t.1.0 t.1.1.0) ∙
    ap Some (same_term t.0.the_term d.0 t.1.0 d.1.0 t.1.1.1 ∙ same_h (built h d.0 b.0) e b.1.0 q b.1.1.1)
  where
    same_term : (x y : Term) (u v : ℕ) → next x u ≡ next y v → x ≡ y
    same_term x y u v e = cc

    same_h : (x y : Equation) (u v : ℕ) → next x u ≡ next y v → x.h ≡ y.h
    same_h x y u v e = let i : x ≡ y = cc in ap (λ (z : Equation). z.h) i

-- of an outlined system, each equation with what is told of it
module _ (a : Alg) (f : List ℕ) (s : System) (o : Outline) (short : length f ≤ 65536) (out : Outlined a f s o) (i : ℕ) (e : Equation) (p : at s.equations i ≡ Some e) where
  told : (t : Told) × (at (listed o.equations) i ≡ Some t)
  told = let l = at_lt s.equations i e p in at_some (listed o.equations) i (omega (arith, out.count))

  told_h : standing a greatest_depth f told.0.body ≡ Some e.h
  told_h =
      let r = out.bodies i e told.0 p told.1 in
      h_stands a f (kept_headers o) (header_of e) told.0.body e r.0 short r.1

  few_sorts : length e.sorts ≤ 15
  few_sorts =
      let same : kept_header told.0.header ≡ header_of e =
      some_same (kept_header told.0.header) (header_of e)
      (sym (at_mapped (λ (t : Told). kept_header t.header) (listed o.equations) i told.0 told.1) ∙ ap (λ hs. at hs i) out.headers ∙ at_mapped header_of s.equations i e p) in
      subst (λ (h : Header). length h.sorts ≤ 15) same (listed_within told.0.header.sorts)

-- the plan by which equations whose h is known false become bare
pub bared_folds : (a : Alg) (f : List ℕ) (s : System) (o : Outline) (P : Plan) (ts : List Told) (i : ℕ) → length f ≤ 65536 → Outlined a f s o → ts ≡ listed o.equations → length ts ≤ i →
    P.fold ≡ true → Filled (λ (t : Told). bared (false_at a f t.body)) ts i P.equations → folding a s P
bared_folds a f s o P ts i short out same all folds filled =
    record {
      fold = folds;
      each_equation = λ j e p.
          let t = told a f s o short out j e p in
          let b = false_at a f t.0.body in (
            bared b,
            (
              ap (λ cs. at cs j) (filled ∙ ap (λ us. map (λ (t : Told). bared (false_at a f t.body)) us ++ drop i (replicate 31 change_none)) (take_all i ts all)) ∙
                  filled_at (λ (t : Told). bared (false_at a f t.body)) ts (drop i (replicate 31 change_none)) j t.0 (ap (λ us. at us j) same ∙ t.1),
              record {
                equation = ap (λ (o : Option Term). elim (is_false (bind o (known a []))) as (λ _. EquationChange) [ true ↦ equation.Bare | false ↦ equation.Stays ]) (told_h a f s o short out j e p);
                parameters = λ n l. let m = few_sorts a f s o short out j e p in all_at 15 n Stays (omega arith);
              },
            ),
          );
    }

-- a plan as told is a plan as told otherwise
pub planning_map : {R S : Plan → Type 0} → ((P : Plan) → R P → S P) → (r : Result Plan Missing) → Planning R r → Planning S r
planning_map h (Ok P) k = h P k
planning_map h (Err e) k = absurd k

-- the items of a list of bytes
pub bytes_each : (f : List ℕ) → ((i : ℕ) → get_or f i 0 < 256) → Every (λ x. x < 256) f
bytes_each [] h = tt
bytes_each (x ∷ f) h = (h 0, bytes_each f (λ i. h (suc i)))

-- what is written where it fits, and the fault where it does not
fitted_applies : (o : Ran) (g before after : List ℕ) (w : Result ℕ Full) → o ≡ fitted_in (length before) g → Fitted g before after w → Applies o before after (result_or w (Err (Declined ResultTooLong)))
fitted_applies o g before after (Ok n) e h = record { file = g; wrote = e ∙ h.0; put = h.1 }
fitted_applies o g before after (Err x) e h = record { why = e ∙ h.0; kept = h.1 }

-- the plan of a file that is read makes of it what the pass makes of it
pub planned_applies : (m : Pass) (a : Alg) (f before after : List ℕ) (o : Outline) (r : Result Plan Missing) (d : Plan) (w : Result ℕ Full) → Lawful a → Every (λ x. x < 256) f → Read a f (Ok o) → PlansAs m a f o r →
    ((s : System) → length f ≤ 65536 → Outlined a f s o → SystemFits a s → Fitted (written (system_by a (result_unwrap_or r d) s)) before after w) →
    Applies (applied m a (length before) f) before after (result_or w (Err (Declined ResultTooLong)))
planned_applies m a f before after o r d w law bytes read plans writes = go r (plans s short read.1.1 fits) (writes s short read.1.1 fits)
  where
    s : System
    s = read.0

    short : length f ≤ 65536
    short = let h = got_short a f s read.1.0 in omega arith

    fits : SystemFits a s
    fits = (whole_forth a law f bytes s read.1.0).1

    go : (r : Result Plan Missing) → Planning (λ P. system_by a P s ≡ m a s) r → Fitted (written (system_by a (result_unwrap_or r d) s)) before after w →
        Applies (applied m a (length before) f) before after (result_or w (Err (Declined ResultTooLong)))
    go (Ok P) k h = fitted_applies (applied m a (length before) f) (written (m a s)) before after w (ap (applied_to m a (length before)) read.1.0) (subst (λ t. Fitted (written t) before after w) k h)
    go (Err e) k h = absurd k
