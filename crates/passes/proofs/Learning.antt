-- Values and tables of what is known, as the pass C keeps them.
use Rattle.std.proofs.Common.{◌≡◌, ℕ, zero, suc, ◌+◌, ◌*◌, ◌<◌, ◌≤◌, Bool, true, false, eqb, nat_eq, ◌⊎◌, inl, inr, List, [], ◌∷◌, ◌++◌, map, length, get_or, set, take, drop, replicate, Some, None, Option, Result, sym, refl, ap, ◌∙◌, subst, ap₂, add-one, arith, length-set}
use lib.Pointwise.{pointwise}
use Rattle.std.specs.Option.{option_eq}
use Rattle.std.proofs.lemmas.Bool.{eqb-true, eq-eqb, and_parts, cases_lt}
use Rattle.std.proofs.lemmas.List.{take_all, drop_all, append-nil}
use Rattle.definitions.specs.Lists.{at, bind, flat}
use Rattle.definitions.specs.Alg.{Alg}
use Rattle.definitions.specs.Systems.{Term, Clause, Equation}
use Rattle.definitions.specs.ReadSystem.{greatest_depth}
use Rattle.definitions.specs.Values.{known, is_false}
use Rattle.definitions.specs.Constants.{Known, Knowledge, Brought, agreed, agreed_all, taken, learnt, learnt_all, clause_brings, equation_brings}
use Rattle.definitions.specs.Fits.{Every}
use Rattle.terms.specs.Known.{Alike}
use Rattle.terms.specs.Shapes.{standing}
use Rattle.system.specs.Walks.{Found, Pairs}
use Rattle.theorems.proofs.Listing.{every_left, every_right}
use Rattle.passes.specs.declared.constants.Known.{Known as Kept}
use Rattle.passes.specs.declared.constants.Known.TheVariants.{Unreached, Fresh, Followed}
use Rattle.passes.specs.declared.constants.Pending.{Pending}
use Rattle.passes.specs.declared.plan.Missing.{Missing}
use Rattle.passes.specs.Learned.{Follows, PendingFrom, NextPending, Tells, Shows, kept_at, followed, fresh, values_known, rank, ranks, Joins, Brings, occurrence_brings}
use Rattle.passes.proofs.Along.{met, none_left}

-- lists of one length that tell the same are the same
pub alike_same : (xs ys : List (Option ℕ)) → length xs ≡ length ys → Alike xs ys → xs ≡ ys
alike_same [] [] e h = refl
alike_same [] (y ∷ ys) e h = absurd (omega arith)
alike_same (x ∷ xs) [] e h = absurd (omega arith)
alike_same (x ∷ xs) (y ∷ ys) e h = ap₂ (λ z zs. z ∷ zs) (h 0) (alike_same xs ys (omega arith) (λ n. h (suc n)))

-- what both know, one by one
none_agreed : (y : Option ℕ) → agreed y None ≡ None
none_agreed None = refl
none_agreed (Some v) = refl

pub agreed_at : (xs ys : List (Option ℕ)) (n : ℕ) → get_or (agreed_all xs ys) n None ≡ agreed (get_or xs n None) (get_or ys n None)
agreed_at [] ys n = refl
agreed_at (x ∷ xs) [] n = sym (none_agreed (get_or (x ∷ xs) n None))
agreed_at (x ∷ xs) (y ∷ ys) zero = refl
agreed_at (x ∷ xs) (y ∷ ys) (suc n) = agreed_at xs ys n

pub agreed_alike : (vs ws xs ys : List (Option ℕ)) → Alike vs xs → Alike ws ys → Alike (agreed_all vs ws) (agreed_all xs ys)
agreed_alike vs ws xs ys h k n = agreed_at vs ws n ∙ ap₂ agreed (h n) (k n) ∙ sym (agreed_at xs ys n)

agreed_long : (xs ys : List (Option ℕ)) → length xs ≡ length ys → length (agreed_all xs ys) ≡ length xs
agreed_long [] ys e = refl
agreed_long (x ∷ xs) [] e = absurd (omega arith)
agreed_long (x ∷ xs) (y ∷ ys) e = ap suc (agreed_long xs ys (omega arith))

-- of two lists the first i are joined, and nothing is known behind them
pub record Sharing (xs ys : List (Option ℕ)) (i : ℕ) (vs : List (Option ℕ)) : Type 0 where
  pub long : length vs ≡ 15
  pub alike : Alike vs (agreed_all (take i xs) (take i ys))

none_behind : (k n : ℕ) → get_or {A = Option ℕ} (replicate k None) n None ≡ None
none_behind zero n = refl
none_behind (suc k) zero = refl
none_behind (suc k) (suc n) = none_behind k n

pub sharing_first : (xs ys : List (Option ℕ)) → Sharing xs ys 0 (replicate 15 None)
sharing_first xs ys = record { long = refl; alike = none_behind 15 }

one_more : (xs ys vs : List (Option ℕ)) (i : ℕ) → i < length xs → i < length ys → i < length vs → Alike vs (agreed_all (take i xs) (take i ys)) →
    Alike (set vs i (agreed (get_or xs i None) (get_or ys i None))) (agreed_all (take (suc i) xs) (take (suc i) ys))
one_more [] ys vs i k l m a n = absurd (omega arith)
one_more (x ∷ xs) [] vs i k l m a n = absurd (omega arith)
one_more (x ∷ xs) (y ∷ ys) [] i k l m a n = absurd (omega arith)
one_more (x ∷ xs) (y ∷ ys) (v ∷ vs) zero k l m a zero = refl
one_more (x ∷ xs) (y ∷ ys) (v ∷ vs) zero k l m a (suc n) = a (suc n)
one_more (x ∷ xs) (y ∷ ys) (v ∷ vs) (suc i) k l m a zero = a 0
one_more (x ∷ xs) (y ∷ ys) (v ∷ vs) (suc i) k l m a (suc n) = one_more xs ys vs i (omega arith) (omega arith) (omega arith) (λ n. a (suc n)) n

pub sharing_next : (xs ys vs : List (Option ℕ)) (i : ℕ) (v : Option ℕ) → length xs ≡ 15 → length ys ≡ 15 → i < 15 → v ≡ agreed (get_or xs i None) (get_or ys i None) → Sharing xs ys i vs → Sharing xs ys (i + 1) (set vs i v)
sharing_next xs ys vs i v k l m e b = record {
  long = length-set vs i v ∙ b.long;
  alike = λ n. ap (λ w. get_or (set vs i w) n None) e ∙ one_more xs ys vs i (omega arith) (omega arith) (omega (arith, b.long)) b.alike n ∙
      ap (λ j. get_or (agreed_all (take j xs) (take j ys)) n None) (sym (add-one i));
}

pub sharing_end : (xs ys vs : List (Option ℕ)) (i : ℕ) → length xs ≡ 15 → length ys ≡ 15 → 15 ≤ i → Sharing xs ys i vs → vs ≡ agreed_all xs ys
sharing_end xs ys vs i k l m b =
    alike_same vs (agreed_all xs ys) (b.long ∙ sym k ∙ sym (agreed_long xs ys (k ∙ sym l)))
    (λ n. b.alike n ∙ ap₂ (λ us ws. get_or (agreed_all us ws) n None) (take_all i xs (omega arith)) (take_all i ys (omega arith)))

-- lists that are compared
option_same : (x y : Option ℕ) → option_eq nat_eq x y ≡ true → x ≡ y
option_same None None h = refl
option_same None (Some w) h = absurd cc
option_same (Some v) None h = absurd cc
option_same (Some v) (Some w) h = ap Some (eqb-true v w h)

option_refl : (x : Option ℕ) → option_eq nat_eq x x ≡ true
option_refl None = refl
option_refl (Some v) = eq-eqb v v refl

pointwise_refl : (xs : List (Option ℕ)) → pointwise (option_eq nat_eq) xs xs ≡ true
pointwise_refl [] = refl
pointwise_refl (x ∷ xs) = rw (option_refl x) (pointwise_refl xs)

pub pointwise_same : (xs ys : List (Option ℕ)) → pointwise (option_eq nat_eq) xs ys ≡ true → xs ≡ ys
pointwise_same [] [] h = refl
pointwise_same [] (y ∷ ys) h = absurd cc
pointwise_same (x ∷ xs) [] h = absurd cc
pointwise_same (x ∷ xs) (y ∷ ys) h = let (k, l) = and_parts (option_eq nat_eq x y) (pointwise (option_eq nat_eq) xs ys) h in ap₂ (λ z zs. z ∷ zs) (option_same x y k) (pointwise_same xs ys l)

pub pointwise_other : (xs ys : List (Option ℕ)) → pointwise (option_eq nat_eq) xs ys ≡ false → xs ≡ ys → ⊥
pointwise_other xs ys h e = let k : pointwise (option_eq nat_eq) xs ys ≡ true = subst (λ zs. pointwise (option_eq nat_eq) xs zs ≡ true) e (pointwise_refl xs) in absurd cc

-- what is joined knows less, or is the same
pub shrinks : (xs ys : List (Option ℕ)) → length xs ≡ length ys → (agreed_all xs ys ≡ xs) ⊎ (values_known (agreed_all xs ys) < values_known xs)
shrinks [] ys e = inl refl
shrinks (x ∷ xs) [] e = absurd (omega arith)
shrinks (x ∷ xs) (y ∷ ys) e = go x y (shrinks xs ys (omega arith))
  where
    go : (x y : Option ℕ) → (agreed_all xs ys ≡ xs) ⊎ (values_known (agreed_all xs ys) < values_known xs) →
        (agreed x y ∷ agreed_all xs ys ≡ x ∷ xs) ⊎ (values_known (agreed x y ∷ agreed_all xs ys) < values_known (x ∷ xs))
    go None y (inl h) = inl (ap (λ zs. None ∷ zs) h)
    go None y (inr h) = inr h
    go (Some v) None (inl h) = inr (subst (λ zs. values_known zs < suc (values_known xs)) (sym h) (omega arith))
    go (Some v) None (inr h) = inr (omega arith)
    go (Some v) (Some w) h = both v (eqb v w) h
      where
        both : (v : ℕ) (b : Bool) → (agreed_all xs ys ≡ xs) ⊎ (values_known (agreed_all xs ys) < values_known xs) →
            (elim b [ false ↦ None | true ↦ Some v ] ∷ agreed_all xs ys ≡ Some v ∷ xs) ⊎ (values_known (elim b [ false ↦ None | true ↦ Some v ] ∷ agreed_all xs ys) < suc (values_known xs))
        both v true (inl h) = inl (ap (λ zs. Some v ∷ zs) h)
        both v true (inr h) = inr (omega arith)
        both v false (inl h) = inr (subst (λ zs. values_known zs < suc (values_known xs)) (sym h) (omega arith))
        both v false (inr h) = inr (omega arith)

known_few : (xs : List (Option ℕ)) → values_known xs ≤ length xs
known_few [] = omega arith
known_few (None ∷ xs) = omega (arith, known_few xs)
known_few (Some v ∷ xs) = omega (arith, known_few xs)

-- joining to what is kept
pub joins_first : (vs : List (Option ℕ)) → length vs ≡ 15 → Joins Unreached vs (Fresh vs)
joins_first vs e = record {
  tells = λ o ks t h. (ks, ap (λ z. Some (taken z ks)) t, h, e);
  kept = λ c. absurd cc;
  less = omega (arith, known_few vs);
}

module _ (old vs : List (Option ℕ)) (k : length old ≡ 15) (l : length vs ≡ 15) where
  joined_long : length (agreed_all old vs) ≡ 15
  joined_long = agreed_long old vs (k ∙ sym l) ∙ k

  taken_alike : (o : Option Known) (ks : Known) → Tells (Fresh old) o → Alike vs ks → Tells (Fresh (agreed_all old vs)) (Some (taken o ks))
  taken_alike o ks t h = (agreed_all t.0 ks, ap (λ z. Some (taken z ks)) t.1, agreed_alike old vs t.0 ks t.2 h, joined_long)

  pub joins_fresh : Joins (Fresh old) vs (Fresh (agreed_all old vs))
  joins_fresh = record { tells = λ o ks t h. taken_alike o ks t h; kept = λ c. absurd cc; less = go (shrinks old vs (k ∙ sym l)) }
    where
      go : (agreed_all old vs ≡ old) ⊎ (values_known (agreed_all old vs) < values_known old) → 2 * values_known (agreed_all old vs) + 1 ≤ 2 * values_known old + 1
      go (inl h) = omega (arith, ap values_known h)
      go (inr h) = omega arith

  pub joins_same : agreed_all old vs ≡ old → Joins (Followed old) vs (Followed old)
  joins_same e = record {
    tells = λ o ks t h. let a = taken_alike o ks t h in (a.0, a.1, subst (λ zs. Alike zs a.0) e a.2, k);
    kept = λ c. refl;
    less = omega arith;
  }

  pub joins_other : (agreed_all old vs ≡ old → ⊥) → Joins (Followed old) vs (Fresh (agreed_all old vs))
  joins_other n = record { tells = λ o ks t h. taken_alike o ks t h; kept = λ c. absurd cc; less = go (shrinks old vs (k ∙ sym l)) }
    where
      go : (agreed_all old vs ≡ old) ⊎ (values_known (agreed_all old vs) < values_known old) → 2 * values_known (agreed_all old vs) + 1 ≤ 2 * values_known old
      go (inl h) = absurd (n h)
      go (inr h) = omega arith

pub joins_as : (old new old' new' : Kept) (vs : List (Option ℕ)) → old ≡ old' → new ≡ new' → Joins old' vs new' → Joins old vs new
joins_as old new old' new' vs e f j = subst (λ o. Joins o vs new) (sym e) (subst (λ n. Joins old' vs n) (sym f) j)

-- of a list the first i are what f makes of the things xs, and the others are as they were
abbrev pub Filling : {X Y : Type 0} → (X → Y) → List X → List Y → ℕ → List Y → Type 0
Filling f xs es i ys = ys ≡ map f (take i xs) ++ drop i es

module _ {X Y : Type 0} (f : X → Y) where
  set_next : (xs : List X) (es : List Y) (i : ℕ) (d : X) → i < length xs → i < length es → set (map f (take i xs) ++ drop i es) i (f (get_or xs i d)) ≡ map f (take (suc i) xs) ++ drop (suc i) es
  set_next [] es i d l k = absurd (omega arith)
  set_next (x ∷ xs) [] i d l k = absurd (omega arith)
  set_next (x ∷ xs) (e ∷ es) zero d l k = refl
  set_next (x ∷ xs) (e ∷ es) (suc i) d l k = ap (λ z. f x ∷ z) (set_next xs es i d (omega arith) (omega arith))

  pub filling_next : (xs : List X) (es ys : List Y) (i : ℕ) (d : X) (y : Y) → i < length xs → i < length es → y ≡ f (get_or xs i d) → Filling f xs es i ys → Filling f xs es (i + 1) (set ys i y)
  filling_next xs es ys i d y l k e h =
      ap₂ (λ zs z. set zs i z) h e ∙ set_next xs es i d l k ∙ ap (λ n. map f (take n xs) ++ drop n es) (sym (add-one i))

  pub filling_end : (xs : List X) (es ys : List Y) (i : ℕ) → length xs ≤ i → length es ≤ i → Filling f xs es i ys → ys ≡ map f xs
  filling_end xs es ys i l k h = h ∙ ap₂ (λ us vs. map f us ++ vs) (take_all i xs l) (drop_all i es k) ∙ append-nil (map f xs)

-- one entry of a table changes
pub shows_set : (T : List Kept) (K : Knowledge) (t : ℕ) (x : Kept) (ks : Known) → t < length T → t < length K → Tells x (Some (taken (get_or K t None) ks)) → Shows T K → Shows (set T t x) (learnt K t ks)
shows_set [] K t x ks l m h s i = absurd (omega arith)
shows_set (y ∷ T) [] t x ks l m h s i = absurd (omega arith)
shows_set (y ∷ T) (k ∷ K) zero x ks l m h s zero = h
shows_set (y ∷ T) (k ∷ K) zero x ks l m h s (suc i) = s (suc i)
shows_set (y ∷ T) (k ∷ K) (suc t) x ks l m h s zero = s 0
shows_set (y ∷ T) (k ∷ K) (suc t) x ks l m h s (suc i) = shows_set T K t x ks (omega arith) (omega arith) h (λ j. s (suc j)) i

pub kept_set : (T : List Kept) (t : ℕ) (x : Kept) → (followed x ≡ true → x ≡ kept_at T t) → (i : ℕ) → followed (kept_at (set T t x) i) ≡ true → kept_at (set T t x) i ≡ kept_at T i
kept_set [] t x h i f = refl
kept_set (y ∷ T) zero x h zero f = h f
kept_set (y ∷ T) zero x h (suc i) f = refl
kept_set (y ∷ T) (suc t) x h zero f = refl
kept_set (y ∷ T) (suc t) x h (suc i) f = kept_set T t x h i f

pub ranks_set : (T : List Kept) (t : ℕ) (x : Kept) → t < length T → ranks (set T t x) + rank (kept_at T t) ≡ ranks T + rank x
ranks_set [] t x l = absurd (omega arith)
ranks_set (y ∷ T) zero x l = omega arith
ranks_set (y ∷ T) (suc t) x l = omega (arith, ranks_set T t x (omega arith))

pub learnt_less : (T : List Kept) (t : ℕ) (vs : List (Option ℕ)) (x : Kept) → t < length T → Joins (kept_at T t) vs x → ranks (set T t x) ≤ ranks T
learnt_less T t vs x l j = omega (arith, ranks_set T t x l, j.less)

pub learnt_brings : (T : List Kept) (t : ℕ) (vs : List (Option ℕ)) (x : Kept) → t < length T → Joins (kept_at T t) vs x → (ks : Known) → Alike vs ks → Brings ((t, ks) ∷ []) T (set T t x)
learnt_brings T t vs x l j ks h = record {
  shows = λ K m s. shows_set T K t x ks l m.0 (j.tells (get_or K t None) ks (s t) h) s;
  kept = kept_set T t x j.kept;
}

-- one thing after another is brought
pub brings_none : (T : List Kept) → Brings [] T T
brings_none T = record { shows = λ K m s. s; kept = λ i f. refl }

learnt_append : (bs cs : List Brought) (K : Knowledge) → learnt_all K (bs ++ cs) ≡ learnt_all (learnt_all K bs) cs
learnt_append [] cs K = refl
learnt_append (b ∷ bs) cs K = learnt_append bs cs (learnt K b.0 b.1)

learnt_long : (K : Knowledge) (t : ℕ) (ks : Known) → length (learnt K t ks) ≡ length K
learnt_long [] t ks = refl
learnt_long (k ∷ K) zero ks = refl
learnt_long (k ∷ K) (suc t) ks = ap suc (learnt_long K t ks)

all_long : (bs : List Brought) (K : Knowledge) → length (learnt_all K bs) ≡ length K
all_long [] K = refl
all_long (b ∷ bs) K = all_long bs (learnt K b.0 b.1) ∙ learnt_long K b.0 b.1

pub brings_join : (bs cs : List Brought) {T U V : List Kept} → Brings bs T U → Brings cs U V → Brings (bs ++ cs) T V
brings_join bs cs {T} {U} {V} g h = record {
  shows = λ K m s.
      let k = every_left (λ (b : Brought). b.0 < length K) bs cs m in
      let l = every_right (λ (b : Brought). b.0 < length K) bs cs m in
      subst (Shows V) (sym (learnt_append bs cs K))
      (h.shows (learnt_all K bs) (subst (λ n. Every (λ (b : Brought). b.0 < n) cs) (sym (all_long bs K)) l) (g.shows K k s));
  kept = λ i f. let e = h.kept i f in e ∙ g.kept i (ap followed (sym e) ∙ f);
}

pub brings_same : {bs cs : List Brought} {T U : List Kept} → bs ≡ cs → Brings bs T U → Brings cs T U
brings_same {T = T} {U = U} e h = subst (λ (bs : List Brought). Brings bs T U) e h

-- of the things ys some have brought what they bring, and the others belong to xs
pub record Bringing {X Y : Type 0} (R : X → Y → Type 0) (f : Y → List Brought) (ys : List Y) (xs : List X) (old now : List Kept) : Type 0 where
  pub left : List Y
  pub pairs : Pairs R xs left
  pub brings : (new : List Kept) → Brings (flat (map f left)) now new → Brings (flat (map f ys)) old new

module _ {X Y : Type 0} (R : X → Y → Type 0) (f : Y → List Brought) where
  pub bringing_first : (xs : List X) (ys : List Y) (T : List Kept) → Pairs R xs ys → Bringing R f ys xs T T
  bringing_first xs ys T h = record { left = ys; pairs = h; brings = λ new b. b }

  pub bringing_next : {ys : List Y} {xs more : List X} {old now : List Kept} (x : X) (new : List Kept) → xs ≡ x ∷ more → Bringing R f ys xs old now → ((y : Y) → R x y → Brings (f y) now new) → Bringing R f ys more old new
  bringing_next x new e l w =
      let m = met R x l.left e l.pairs in
      record {
        left = m.rest;
        pairs = m.there;
        brings = λ then b. l.brings then (brings_same (ap (λ zs. flat (map f zs)) (sym m.is)) (brings_join (f m.first) (flat (map f m.rest)) (w m.first m.here) b));
      }

  pub bringing_end : {ys : List Y} {xs : List X} {old : List Kept} (now : List Kept) → length xs ≡ 0 → Bringing R f ys xs old now → Brings (flat (map f ys)) old now
  bringing_end {xs = xs} now e l = l.brings now (brings_same (ap (λ zs. flat (map f zs)) (sym (none_left R xs l.left e l.pairs))) (brings_none now))

pub one_each : {Y : Type 0} (f : Y → Brought) (ys : List Y) → flat (map (λ y. f y ∷ []) ys) ≡ map f ys
one_each f [] = refl
one_each f (y ∷ ys) = ap (λ zs. f y ∷ zs) (one_each f ys)

-- what is found is there
pub there : {X : Type 0} (P : X → Type 0) (o : Option X) (x : X) → o ≡ Some x → Found o P → P x
there P o x e h = subst (λ (o : Option _). Found o P) e h

pub not_missing : {X : Type 0} (P : X → Type 0) (o : Option X) → o ≡ None → Found o P → ⊥
not_missing P o e h = subst (λ (o : Option _). Found o P) e h

-- the known values of arguments that are read
pub arguments_known : (a : Alg) (f : List ℕ) (ks : Known) (ps : List ℕ) (ts : List Term) → length ps ≡ length ts → ((k : ℕ) (t : Term) → at ts k ≡ Some t → standing a greatest_depth f (get_or ps k 0) ≡ Some t) →
    map (λ p. bind (standing a greatest_depth f p) (λ (t : Term). known a ks t)) ps ≡ map (known a ks) ts
arguments_known a f ks [] [] l h = refl
arguments_known a f ks [] (t ∷ ts) l h = absurd (omega arith)
arguments_known a f ks (p ∷ ps) [] l h = absurd (omega arith)
arguments_known a f ks (p ∷ ps) (t ∷ ts) l h =
    ap₂ (λ x xs. x ∷ xs) (ap (λ (o : Option Term). bind o (known a ks)) (h zero t refl)) (arguments_known a f ks ps ts (omega arith) (λ k u e. h (suc k) u e))

pub false_value : (o : Option ℕ) → option_eq nat_eq o (Some 0) ≡ is_false o
false_value None = refl
false_value (Some v) = refl

pub clause_none : (a : Alg) (ks : Known) (c : Clause) → is_false (known a ks c.guard) ≡ true → clause_brings a ks c ≡ []
clause_none a ks c e = rw (e, clause_brings) refl

pub clause_all : (a : Alg) (ks : Known) (c : Clause) → is_false (known a ks c.guard) ≡ false → clause_brings a ks c ≡ map (occurrence_brings a ks) c.occurrences
clause_all a ks c e = rw (e, clause_brings) refl

pub equation_none : (a : Alg) (ks : Known) (e : Equation) → is_false (known a ks e.h) ≡ true → equation_brings a e (Some ks) ≡ []
equation_none a ks x e = rw (e, equation_brings) refl

pub equation_all : (a : Alg) (ks : Known) (e : Equation) → is_false (known a ks e.h) ≡ false → equation_brings a e (Some ks) ≡ flat (map (clause_brings a ks) e.clauses)
equation_all a ks x e = rw (e, equation_brings) refl

-- what is known at a place is what is known of the term there
pub known_there : (a : Alg) (f : List ℕ) (ks : Known) (p : ℕ) (t : Term) (o : Option ℕ) (b : Bool) → standing a greatest_depth f p ≡ Some t → o ≡ bind (standing a greatest_depth f p) (known a ks) → b ≡ option_eq nat_eq o (Some 0) → is_false (known a ks t) ≡ b
known_there a f ks p t o b s e h = sym (h ∙ false_value o ∙ ap is_false (e ∙ ap (λ (o : Option Term). bind o (known a ks)) s))

pub follows_same : {X : Type 0} {bs cs : List Brought} (T U : List Kept) (r : Result X Missing) → bs ≡ cs → Follows bs T U r → Follows cs T U r
follows_same T U r e h = subst (λ (bs : List Brought). Follows bs T U r) e h

-- entries that are still to be followed
pub not_fresh : (k : Kept) → ((vs : List (Option ℕ)) → k ≡ Fresh vs → ⊥) → fresh k ≡ false
not_fresh Unreached h = refl
not_fresh (Fresh vs) h = absurd (h vs refl)
not_fresh (Followed vs) h = refl

pub none_next : (T : List Kept) (n i : ℕ) → ((j : ℕ) → n ≤ j → j < i → fresh (kept_at T j) ≡ false) → fresh (kept_at T i) ≡ false → (j : ℕ) → n ≤ j → j < i + 1 → fresh (kept_at T j) ≡ false
none_next T n i h e j m l = go (cases_lt j i)
  where
    go : (j < i) ⊎ (i ≤ j) → fresh (kept_at T j) ≡ false
    go (inl k) = h j m k
    go (inr k) = let same : i ≡ j = omega arith in subst (λ n. fresh (kept_at T n) ≡ false) same e

past : (T : List Kept) (j : ℕ) → length T ≤ j → kept_at T j ≡ Unreached
past [] j l = refl
past (x ∷ T) zero l = absurd (omega arith)
past (x ∷ T) (suc j) l = past T j (omega arith)

pub none_left_fresh : (T : List Kept) (n i : ℕ) → length T ≤ i → ((j : ℕ) → n ≤ j → j < i → fresh (kept_at T j) ≡ false) → (j : ℕ) → n ≤ j → fresh (kept_at T j) ≡ false
none_left_fresh T n i l h j m = go (cases_lt j i)
  where
    go : (j < i) ⊎ (i ≤ j) → fresh (kept_at T j) ≡ false
    go (inl k) = h j m k
    go (inr k) = ap fresh (past T j (omega arith))

pub pending_all : (T : List Kept) (r : Option Pending) → PendingFrom 0 T r → NextPending T r
pending_all T None h = λ i. h i (omega arith)
pending_all T (Some x) h = h

pub kept_lt : (T : List Kept) (i : ℕ) (vs : List (Option ℕ)) → kept_at T i ≡ Fresh vs → i < length T
kept_lt [] i vs e = absurd cc
kept_lt (x ∷ T) zero vs e = omega arith
kept_lt (x ∷ T) (suc i) vs e = omega (arith, kept_lt T i vs e)

-- following lowers the rank
pub followed_less : (T U : List Kept) (i : ℕ) (vs : List (Option ℕ)) → kept_at T i ≡ Fresh vs → ranks U ≤ ranks (set T i (Followed vs)) → ranks U < ranks T
followed_less T U i vs e l = omega (arith, ranks_set T i (Followed vs) (kept_lt T i vs e), ap rank e)
