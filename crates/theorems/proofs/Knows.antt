-- The least knowledge lies below every stable one.
use Rattle.std.proofs.Common.{◌≡◌, ℕ, zero, suc, Bool, true, false, eqb, List, [], ◌∷◌, ◌++◌, map, length, get_or, Some, None, Option, sym, refl, subst, arith}
use mathlib.Core.Bool.{false≢true}
use Rattle.std.proofs.lemmas.Bool.{eqb-true, eq-eqb, and_parts}
use Rattle.definitions.specs.Lists.{at, bind, whole, flat, each, times}
use Rattle.definitions.specs.Alg.{Alg}
use Rattle.definitions.specs.Systems.{Kind, parameter, variable, value, operation, not, and, or, equal, Term, Terms, node, none, more, folds, Occurrence, Clause, Equation, System}
use Rattle.definitions.specs.Values.{known, kind_known, is_true, is_false, both, either}
use Rattle.definitions.specs.Constants.{Known, Knowledge, agreed, agreed_all, taken, Brought, clause_brings, equation_brings, all_bring, brought, learnt, learnt_all, value_below, known_below, reached_below, below, stable, height, least_knowledge}

-- y is x, or not known
pub data Under {A : Type 0} : Option A → Option A → Type 0 where
  same : {x : Option A} → Under x x
  unknown : {x : Option A} → Under x None

pub data Unders : List (Option ℕ) → List (Option ℕ) → Type 0 where
  nil : Unders [] []
  cons : {x y : Option ℕ} {xs ys : List (Option ℕ)} → Under x y → Unders xs ys → Unders (x ∷ xs) (y ∷ ys)

pub bind_under : {A B : Type 0} {x y : Option A} (f : A → Option B) → Under x y → Under (bind x f) (bind y f)
bind_under f same = same
bind_under f unknown = unknown

pub get_or_under : {xs ys : List (Option ℕ)} → Unders xs ys → (n : ℕ) → Under (get_or xs n None) (get_or ys n None)
get_or_under nil n = same
get_or_under (cons h hs) zero = h
get_or_under (cons h hs) (suc n) = get_or_under hs n

tail_under : {A : Type 0} (x : Option A) {os ps : Option (List A)} → Under os ps →
    Under (bind x (λ v. bind os (λ vs. Some (v ∷ vs)))) (bind x (λ v. bind ps (λ vs. Some (v ∷ vs))))
tail_under None h = same
tail_under (Some v) h = bind_under (λ vs. Some (v ∷ vs)) h

head_under : {x y : Option ℕ} (os ps : Option (List ℕ)) → Under x y → Under os ps →
    Under (bind x (λ v. bind os (λ vs. Some (v ∷ vs)))) (bind y (λ v. bind ps (λ vs. Some (v ∷ vs))))
head_under {x} os ps same h = tail_under x h
head_under os ps unknown h = unknown

pub whole_under : {xs ys : List (Option ℕ)} → Unders xs ys → Under (whole xs) (whole ys)
whole_under nil = same
whole_under (cons {x} {y} {xs} {ys} h hs) = head_under (whole xs) (whole ys) h (whole_under hs)

-- not known, or the same, by what is asked of it
weaker_left : (x y : Option ℕ) → Under (both x y) (both None y)
weaker_left x None = unknown
weaker_left x (Some v) = go (eqb v 0) refl (is_false x) refl
  where
    go : (b : Bool) → eqb v 0 ≡ b → (c : Bool) → is_false x ≡ c → Under (both x (Some v)) (both None (Some v))
    go true e true k = rw (e, k, both) same
    go true e false k = rw (e, k, both) same
    go false e c k = rw (e, both) unknown

weaker_right : (x y : Option ℕ) → Under (both x y) (both x None)
weaker_right None y = unknown
weaker_right (Some v) y = go (eqb v 0) refl (eqb v 1) refl
  where
    go : (b : Bool) → eqb v 0 ≡ b → (c : Bool) → eqb v 1 ≡ c → Under (both (Some v) y) (both (Some v) None)
    go true e c k = rw (e, both) same
    go false e true k = rw (e, k, both) unknown
    go false e false k = rw (e, k, both) unknown

either_left : (x y : Option ℕ) → Under (either x y) (either None y)
either_left x None = unknown
either_left x (Some v) = go (eqb v 1) refl (is_true x) refl
  where
    go : (b : Bool) → eqb v 1 ≡ b → (c : Bool) → is_true x ≡ c → Under (either x (Some v)) (either None (Some v))
    go true e true k = rw (e, k, either) same
    go true e false k = rw (e, k, either) same
    go false e c k = rw (e, either) unknown

either_right : (x y : Option ℕ) → Under (either x y) (either x None)
either_right None y = unknown
either_right (Some v) y = go (eqb v 1) refl (eqb v 0) refl
  where
    go : (b : Bool) → eqb v 1 ≡ b → (c : Bool) → eqb v 0 ≡ c → Under (either (Some v) y) (either (Some v) None)
    go true e c k = rw (e, either) same
    go false e true k = rw (e, k, either) unknown
    go false e false k = rw (e, k, either) unknown

pub trans : {A : Type 0} {x y z : Option A} → Under x y → Under y z → Under x z
trans h same = h
trans h unknown = unknown

pub both_under : {x x' y y' : Option ℕ} → Under x x' → Under y y' → Under (both x y) (both x' y')
both_under same same = same
both_under {x} {y = y} same unknown = weaker_right x y
both_under {x} {y = y} unknown same = weaker_left x y
both_under {x} {y = y} unknown unknown = unknown

pub either_under : {x x' y y' : Option ℕ} → Under x x' → Under y y' → Under (either x y) (either x' y')
either_under same same = same
either_under {x} {y = y} same unknown = either_right x y
either_under {x} {y = y} unknown same = either_left x y
either_under {x} {y = y} unknown unknown = unknown

kind_under : (a : Alg) {ps qs xs ys : List (Option ℕ)} → Unders ps qs → Unders xs ys → (k : Kind) → Under (kind_known a ps [] k xs) (kind_known a qs [] k ys)
kind_under a h hs (parameter n) = get_or_under h n
kind_under a h hs (variable n) = same
kind_under a h hs (value s v) = same
kind_under a h hs (operation o) = bind_under (a.value o) (whole_under hs)
kind_under a h hs not = bind_under _ (whole_under hs)
kind_under a h hs and = both_under (get_or_under hs 0) (get_or_under hs 1)
kind_under a h hs or = either_under (get_or_under hs 0) (get_or_under hs 1)
kind_under a h hs equal = bind_under _ (whole_under hs)

mutual
  known_under : (t : Term) (a : Alg) {ps qs : List (Option ℕ)} → Unders ps qs → Under (known a ps t) (known a qs t)
  known_under (node k ts) a h = kind_under a h (knowns_under ts a h) k

  knowns_under : (ts : Terms) (a : Alg) {ps qs : List (Option ℕ)} → Unders ps qs → Unders (folds ts (kind_known a ps [])) (folds ts (kind_known a qs []))
  knowns_under none a h = nil
  knowns_under (more t ts) a h = cons (known_under t a h) (knowns_under ts a h)

-- the order by its test
to_under : (x y : Option ℕ) → value_below x y ≡ true → Under x y
to_under x None h = unknown
to_under None (Some w) h = absurd (false≢true h)
to_under (Some v) (Some w) h = subst (λ n. Under (Some v) (Some n)) (eqb-true v w h) same

pub self_below : (x : Option ℕ) → value_below x x ≡ true
self_below None = refl
self_below (Some v) = eq-eqb v v refl

from_under : {x y : Option ℕ} → Under x y → value_below x y ≡ true
from_under {x} same = self_below x
from_under unknown = refl

pub to_unders : (xs ys : List (Option ℕ)) → known_below xs ys ≡ true → Unders xs ys
to_unders [] [] h = nil
to_unders [] (y ∷ ys) h = absurd (false≢true h)
to_unders (x ∷ xs) [] h = absurd (false≢true h)
to_unders (x ∷ xs) (y ∷ ys) h =
    let (k, l) = and_parts (value_below x y) (known_below xs ys) h in cons (to_under x y k) (to_unders xs ys l)

pub from_unders : {xs ys : List (Option ℕ)} → Unders xs ys → known_below xs ys ≡ true
from_unders nil = refl
from_unders (cons h hs) = rw (from_under h) (from_unders hs)

pub trans_unders : {xs ys zs : List (Option ℕ)} → Unders xs ys → Unders ys zs → Unders xs zs
trans_unders nil nil = nil
trans_unders (cons h hs) (cons k ks) = cons (trans h k) (trans_unders hs ks)

pub data Reached : Option Known → Option Known → Type 0 where
  not_yet : {k : Option Known} → Reached None k
  already : {xs ys : Known} → Unders xs ys → Reached (Some xs) (Some ys)

pub data Belows : Knowledge → Knowledge → Type 0 where
  nil : Belows [] []
  cons : {k l : Option Known} {K L : Knowledge} → Reached k l → Belows K L → Belows (k ∷ K) (l ∷ L)

pub from_belows : {K L : Knowledge} → Belows K L → below K L ≡ true
from_belows nil = refl
from_belows (cons not_yet hs) = from_belows hs
from_belows (cons (already h) hs) = rw (from_unders h) (from_belows hs)

-- what is brought lies below the knowledge L
abbrev pub Met : Knowledge → Brought → Type 0
Met L b = (ks : Known) × (at L b.0 ≡ Some (Some ks)) × Unders b.1 ks

abbrev pub All : Knowledge → List Brought → Type 0
All L [] = Unit {0}
All L (b ∷ bs) = Met L b × All L bs

to_met : (L : Knowledge) (b : Brought) (o : Option (Option Known)) → at L b.0 ≡ o → reached_below (Some b.1) (bind o (λ k. k)) ≡ true → Met L b
to_met L b None e h = absurd (false≢true h)
to_met L b (Some None) e h = absurd (false≢true h)
to_met L b (Some (Some ks)) e h = (ks, e, to_unders b.1 ks h)

pub to_all : (L : Knowledge) (bs : List Brought) → each (λ b. reached_below (Some b.1) (bind (at L b.0) (λ k. k))) bs ≡ true → All L bs
to_all L [] h = tt
to_all L (b ∷ bs) h = go (reached_below (Some b.1) (bind (at L b.0) (λ k. k))) refl (to_all L bs) h
  where
    go : (t : Bool) → reached_below (Some b.1) (bind (at L b.0) (λ k. k)) ≡ t →
        (each (λ b. reached_below (Some b.1) (bind (at L b.0) (λ k. k))) bs ≡ true → All L bs) →
        elim t as (λ _. Bool) [ true ↦ each (λ b. reached_below (Some b.1) (bind (at L b.0) (λ k. k))) bs | false ↦ false ] ≡ true → All L (b ∷ bs)
    go true e rest h = (to_met L b (at L b.0) refl e, rest h)
    go false e rest h = absurd (false≢true h)

pub all_left : (L : Knowledge) (bs cs : List Brought) → All L (bs ++ cs) → All L bs
all_left L [] cs h = tt
all_left L (b ∷ bs) cs h = (h.0, all_left L bs cs h.1)

pub all_right : (L : Knowledge) (bs cs : List Brought) → All L (bs ++ cs) → All L cs
all_right L [] cs h = h
all_right L (b ∷ bs) cs h = all_right L bs cs h.1

pub all_join : (L : Knowledge) (bs cs : List Brought) → All L bs → All L cs → All L (bs ++ cs)
all_join L [] cs h k = k
all_join L (b ∷ bs) cs h k = (h.0, all_join L bs cs h.1 k)

args_under : (a : Alg) {ps qs : Known} → Unders ps qs → (ts : List Term) → Unders (map (known a ps) ts) (map (known a qs) ts)
args_under a h [] = nil
args_under a h (t ∷ ts) = cons (known_under t a h) (args_under a h ts)

pub false_under : {x y : Option ℕ} → Under x y → is_false x ≡ false → is_false y ≡ false
false_under same e = e
false_under unknown e = refl

module _ (a : Alg) (L : Knowledge) {ps qs : Known} (h : Unders ps qs) where
  occurrences_down : (os : List Occurrence) →
      All L (map (λ (o : Occurrence). (o.target, map (known a qs) o.arguments)) os) →
      All L (map (λ (o : Occurrence). (o.target, map (known a ps) o.arguments)) os)
  occurrences_down [] k = tt
  occurrences_down (o ∷ os) k =
      ((k.0.0, k.0.1, trans_unders (args_under a h o.arguments) k.0.2), occurrences_down os k.1)

  clause_down : (c : Clause) → All L (clause_brings a qs c) → All L (clause_brings a ps c)
  clause_down c = go (is_false (known a ps c.guard)) refl
    where
      go : (b : Bool) → is_false (known a ps c.guard) ≡ b → All L (clause_brings a qs c) → All L (clause_brings a ps c)
      go true e k = rw (e, clause_brings) tt
      go false e k = rw (e, clause_brings) (occurrences_down c.occurrences (rw (false_under (known_under c.guard a h) e, clause_brings) at k))

  clauses_down : (cs : List Clause) → All L (flat (map (clause_brings a qs) cs)) → All L (flat (map (clause_brings a ps) cs))
  clauses_down [] k = tt
  clauses_down (c ∷ cs) k =
      all_join L (clause_brings a ps c) (flat (map (clause_brings a ps) cs))
      (clause_down c (all_left L (clause_brings a qs c) (flat (map (clause_brings a qs) cs)) k))
      (clauses_down cs (all_right L (clause_brings a qs c) (flat (map (clause_brings a qs) cs)) k))

  reached_down : (e : Equation) → All L (equation_brings a e (Some qs)) → All L (equation_brings a e (Some ps))
  reached_down e = go (is_false (known a ps e.h)) refl
    where
      go : (b : Bool) → is_false (known a ps e.h) ≡ b → All L (equation_brings a e (Some qs)) → All L (equation_brings a e (Some ps))
      go true p k = rw (p, equation_brings) tt
      go false p k = rw (p, equation_brings) (clauses_down e.clauses (rw (false_under (known_under e.h a h) p, equation_brings) at k))

pub equation_down : (a : Alg) (L : Knowledge) (e : Equation) {k l : Option Known} → Reached k l → All L (equation_brings a e l) → All L (equation_brings a e k)
equation_down a L e not_yet h = tt
equation_down a L e (already u) h = reached_down a L u e h

pub all_down : (a : Alg) (L : Knowledge) (es : List Equation) {J K : Knowledge} → Belows J K → All L (all_bring a es K) → All L (all_bring a es J)
all_down a L [] b h = tt
all_down a L (e ∷ es) nil h = tt
all_down a L (e ∷ es) (cons {k} {l} {K} {L = K'} u us) h =
    all_join L (equation_brings a e k) (all_bring a es K)
    (equation_down a L e u (all_left L (equation_brings a e l) (all_bring a es K') h))
    (all_down a L es us (all_right L (equation_brings a e l) (all_bring a es K') h))

-- learning what lies below L stays below L
agreed_self : (x : Option ℕ) → Under (agreed x x) x
agreed_self None = same
agreed_self (Some v) = rw (eq-eqb v v refl, agreed) same

agreed_with : {x y : Option ℕ} → Under y x → Under (agreed x y) x
agreed_with {x} same = agreed_self x
agreed_with unknown = same

agreed_under : {x y z : Option ℕ} → Under x z → Under y z → Under (agreed x y) z
agreed_under same k = agreed_with k
agreed_under unknown k = unknown

agreed_unders : {xs ys zs : Known} → Unders xs zs → Unders ys zs → Unders (agreed_all xs ys) zs
agreed_unders nil nil = nil
agreed_unders (cons h hs) (cons k ks) = cons (agreed_under h k) (agreed_unders hs ks)

taken_under : {k : Option Known} {xs zs : Known} → Reached k (Some zs) → Unders xs zs → Reached (Some (taken k xs)) (Some zs)
taken_under not_yet h = already h
taken_under (already u) h = already (agreed_unders u h)

pub learnt_under : (j : ℕ) (xs zs : Known) {J L : Knowledge} → Belows J L → at L j ≡ Some (Some zs) → Unders xs zs → Belows (learnt J j xs) L
learnt_under j xs zs nil e h = nil
learnt_under zero xs zs (cons {k} {l} u us) e h =
    let el : l ≡ Some zs = cc in
    cons (subst (λ z. Reached (Some (taken k xs)) z) (sym el) (taken_under (subst (Reached k) el u) h)) us
learnt_under (suc j) xs zs (cons u us) e h = cons u (learnt_under j xs zs us e h)

pub learnt_all_lem : (bs : List Brought) {J L : Knowledge} → Belows J L → All L bs → Belows (learnt_all J bs) L
learnt_all_lem [] b h = b
learnt_all_lem (x ∷ bs) b h = learnt_all_lem bs (learnt_under x.0 x.1 h.0.0 b h.0.1 h.0.2) h.1

pub none_below : (es : List Equation) (L : Knowledge) → length L ≡ length es → Belows (map (λ _. None) es) L
none_below [] [] e = nil
none_below [] (l ∷ L) e = absurd (omega arith)
none_below (x ∷ es) [] e = absurd (omega arith)
none_below (x ∷ es) (l ∷ L) e = cons not_yet (none_below es L (omega arith))

times_below : (a : Alg) (s : System) (L : Knowledge) → stable a s L ≡ true → (n : ℕ) {J : Knowledge} → Belows J L →
    Belows (times n (λ K. learnt_all K (brought a s K)) J) L
times_below a s L st zero b = b
times_below a s L st (suc n) {J} b =
    let h = to_all L (brought a s L) st in
    times_below a s L st n (learnt_all_lem (brought a s J) b (h.0, all_down a L s.equations b h.1))

pub least : (a : Alg) (s : System) (K : Knowledge) → length K ≡ length s.equations → stable a s K ≡ true → below (least_knowledge a s) K ≡ true
least a s K e h = from_belows (times_below a s K h (height s) (none_below s.equations K e))
