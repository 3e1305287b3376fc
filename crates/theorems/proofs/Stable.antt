-- The least knowledge is stable.
use Rattle.std.proofs.Common.{◌≡◌, ℕ, zero, suc, ◌+◌, ◌<◌, ◌≤◌, Bool, true, false, eqb, ◌⊎◌, List, [], ◌∷◌, map, length, Some, None, Option, sym, refl, ap, ◌∙◌, subst, ap₂, inl, inr, arith}
use lib.ListN.{length-map}
use Rattle.std.proofs.lemmas.Bool.{eqb-true, cases_lt}
use Rattle.definitions.specs.Lists.{at, bind, flat, each, times, sum}
use Rattle.definitions.specs.Alg.{Alg}
use Rattle.definitions.specs.Systems.{Occurrence, Clause, Equation, System}
use Rattle.definitions.specs.Values.{known, is_false}
use Rattle.definitions.specs.Constants.{Known, Knowledge, agreed, agreed_all, Brought, clause_brings, equation_brings, all_bring, brought, learnt, learnt_all, reached_below, stable, unreached, height, least_knowledge}
use Rattle.theorems.specs.KnowledgeLaws.{arities, Shaped}
use Rattle.definitions.specs.Fits.{Every}
use Rattle.theorems.proofs.Knows.{Under, same, unknown, Unders, Reached, not_yet, already, Belows, Met, All, trans_unders, from_unders}
use Rattle.fixpoint.proofs.Pull.{every_append}

-- knowledge of the right shape
pub data Shape : List ℕ → Knowledge → Type 0 where
  nil : Shape [] []
  new : {n : ℕ} {ns : List ℕ} {K : Knowledge} → Shape ns K → Shape (n ∷ ns) (None ∷ K)
  old : {ns : List ℕ} (ks : Known) {K : Knowledge} → Shape ns K → Shape (length ks ∷ ns) (Some ks ∷ K)

abbrev pub OfShape : List ℕ → List Brought → Type 0
OfShape ns bs = Every (λ b. at ns b.0 ≡ Some (length b.1)) bs

-- what is brought has the right shape
module _ (a : Alg) (ns : List ℕ) where
  abbrev pub Fine : Occurrence → Type 0
  Fine o = at ns o.target ≡ Some (length o.arguments)

  occurrences_shaped : (ks : Known) (os : List Occurrence) → Every Fine os → OfShape ns (map (λ (o : Occurrence). (o.target, map (known a ks) o.arguments)) os)
  occurrences_shaped ks [] h = tt
  occurrences_shaped ks (o ∷ os) h = (h.0 ∙ ap Some (sym (length-map o.arguments (known a ks))), occurrences_shaped ks os h.1)

  clause_shaped : (ks : Known) (c : Clause) → Every Fine c.occurrences → OfShape ns (clause_brings a ks c)
  clause_shaped ks c h = go (is_false (known a ks c.guard)) refl
    where
      go : (b : Bool) → is_false (known a ks c.guard) ≡ b → OfShape ns (clause_brings a ks c)
      go true e = rw (e, clause_brings) tt
      go false e = rw (e, clause_brings) (occurrences_shaped ks c.occurrences h)

  clauses_shaped : (ks : Known) (cs : List Clause) → Every (λ (c : Clause). Every Fine c.occurrences) cs → OfShape ns (flat (map (clause_brings a ks) cs))
  clauses_shaped ks [] h = tt
  clauses_shaped ks (c ∷ cs) h =
      every_append (λ b. at ns b.0 ≡ Some (length b.1)) (clause_brings a ks c) (flat (map (clause_brings a ks) cs)) (clause_shaped ks c h.0) (clauses_shaped ks cs h.1)

  pub equation_shaped : (e : Equation) (k : Option Known) → Every (λ (c : Clause). Every Fine c.occurrences) e.clauses → OfShape ns (equation_brings a e k)
  equation_shaped e None h = tt
  equation_shaped e (Some ks) h = go (is_false (known a ks e.h)) refl
    where
      go : (b : Bool) → is_false (known a ks e.h) ≡ b → OfShape ns (equation_brings a e (Some ks))
      go true p = rw (p, equation_brings) tt
      go false p = rw (p, equation_brings) (clauses_shaped ks e.clauses h)

  pub all_shaped : (es : List Equation) (K : Knowledge) → Every (λ (e : Equation). Every (λ (c : Clause). Every Fine c.occurrences) e.clauses) es →
      OfShape ns (all_bring a es K)
  all_shaped [] K h = tt
  all_shaped (e ∷ es) [] h = tt
  all_shaped (e ∷ es) (k ∷ K) h =
      every_append (λ b. at ns b.0 ≡ Some (length b.1)) (equation_brings a e k) (all_bring a es K) (equation_shaped e k h.0) (all_shaped es K h.1)

pub brought_shaped : (a : Alg) (s : System) (K : Knowledge) → Shaped s → OfShape (arities s.equations) (brought a s K)
brought_shaped a s K h = (h.0 ∙ ap Some (sym (length-map s.values Some)), all_shaped a (arities s.equations) s.equations K h.1)

-- joining goes up
left_up : (x y : Option ℕ) → Under x (agreed x y)
left_up None y = same
left_up (Some v) None = unknown
left_up (Some v) (Some w) = go (eqb v w) refl
  where
    go : (b : Bool) → eqb v w ≡ b → Under (Some v) (agreed (Some v) (Some w))
    go true e = rw (e, agreed) same
    go false e = rw (e, agreed) unknown

right_up : (x y : Option ℕ) → Under y (agreed x y)
right_up None y = unknown
right_up (Some v) None = same
right_up (Some v) (Some w) = go (eqb v w) refl
  where
    go : (b : Bool) → eqb v w ≡ b → Under (Some w) (agreed (Some v) (Some w))
    go true e = rw (e, agreed, eqb-true v w e) same
    go false e = rw (e, agreed) unknown

lefts_up : (xs ys : Known) → length xs ≡ length ys → Unders xs (agreed_all xs ys)
lefts_up [] ys e = Unders.nil
lefts_up (x ∷ xs) [] e = absurd (omega arith)
lefts_up (x ∷ xs) (y ∷ ys) e = Unders.cons (left_up x y) (lefts_up xs ys (omega arith))

rights_up : (xs ys : Known) → length xs ≡ length ys → Unders ys (agreed_all xs ys)
rights_up [] [] e = Unders.nil
rights_up [] (y ∷ ys) e = absurd (omega arith)
rights_up (x ∷ xs) [] e = absurd (omega arith)
rights_up (x ∷ xs) (y ∷ ys) e = Unders.cons (right_up x y) (rights_up xs ys (omega arith))

agreed_long : (xs ys : Known) → length xs ≡ length ys → length (agreed_all xs ys) ≡ length ys
agreed_long [] ys e = e
agreed_long (x ∷ xs) [] e = absurd (omega arith)
agreed_long (x ∷ xs) (y ∷ ys) e = ap suc (agreed_long xs ys (omega arith))

pub unders_refl : (xs : Known) → Unders xs xs
unders_refl [] = Unders.nil
unders_refl (x ∷ xs) = Unders.cons same (unders_refl xs)

pub belows_refl : (K : Knowledge) → Belows K K
belows_refl [] = Belows.nil
belows_refl (None ∷ K) = Belows.cons not_yet (belows_refl K)
belows_refl (Some ks ∷ K) = Belows.cons (already (unders_refl ks)) (belows_refl K)

reached_trans : {k l m : Option Known} → Reached k l → Reached l m → Reached k m
reached_trans not_yet h = not_yet
reached_trans (already u) (already v) = already (trans_unders u v)

pub belows_trans : {J K L : Knowledge} → Belows J K → Belows K L → Belows J L
belows_trans Belows.nil Belows.nil = Belows.nil
belows_trans (Belows.cons h hs) (Belows.cons k ks) = Belows.cons (reached_trans h k) (belows_trans hs ks)

-- one learning
pub record Learnt (ns : List ℕ) (K : Knowledge) (j : ℕ) (xs : Known) : Type 0 where
  pub shape : Shape ns (learnt K j xs)
  pub up : Belows K (learnt K j xs)
  pub met : Met (learnt K j xs) (j, xs)

some_eq : (m n : ℕ) → Some m ≡ Some n → m ≡ n
some_eq m n e = cc

pub learns : (j : ℕ) (xs : Known) {ns : List ℕ} {K : Knowledge} → Shape ns K → at ns j ≡ Some (length xs) → Learnt ns K j xs
learns j xs nil e = absurd cc
learns zero xs (new {n} {ns} {K} s) e =
    record {
      shape = subst (λ m. Shape (m ∷ ns) (Some xs ∷ K)) (sym (some_eq n (length xs) e)) (old xs s);
      up = Belows.cons not_yet (belows_refl K);
      met = (xs, refl, unders_refl xs);
    }
learns zero xs (old {ns} ks {K} s) e =
    let l = some_eq (length ks) (length xs) e in
    record {
      shape = subst (λ m. Shape (m ∷ ns) (Some (agreed_all ks xs) ∷ K)) (agreed_long ks xs l ∙ sym l) (old (agreed_all ks xs) s);
      up = Belows.cons (already (lefts_up ks xs l)) (belows_refl K);
      met = (agreed_all ks xs, refl, rights_up ks xs l);
    }
learns (suc j) xs (new s) e =
    let r = learns j xs s e in record { shape = new r.shape; up = Belows.cons not_yet r.up; met = r.met }
learns (suc j) xs (old ks s) e =
    let r = learns j xs s e in record { shape = old ks r.shape; up = Belows.cons (already (unders_refl ks)) r.up; met = r.met }

pub met_up : (j : ℕ) (xs zs : Known) {K L : Knowledge} → Belows K L → at K j ≡ Some (Some zs) → Unders xs zs → Met L (j, xs)
met_up j xs zs Belows.nil e h = absurd cc
met_up zero xs zs (Belows.cons not_yet us) e h = absurd cc
met_up zero xs zs (Belows.cons (already {xs = ws} {ys} u) us) e h =
    let ew : ws ≡ zs = cc in (ys, refl, trans_unders h (subst (λ v. Unders v ys) ew u))
met_up (suc j) xs zs (Belows.cons u us) e h = met_up j xs zs us e h

-- learning all
pub record Learnts (ns : List ℕ) (K : Knowledge) (bs : List Brought) : Type 0 where
  pub shape : Shape ns (learnt_all K bs)
  pub up : Belows K (learnt_all K bs)
  pub met : All (learnt_all K bs) bs

pub learns_all : (bs : List Brought) {ns : List ℕ} {K : Knowledge} → Shape ns K → OfShape ns bs → Learnts ns K bs
learns_all [] {K = K} s h = record { shape = s; up = belows_refl K; met = tt }
learns_all (b ∷ bs) s h =
    let r = learns b.0 b.1 s h.0 in
    let rs = learns_all bs r.shape h.1 in
    record {
      shape = rs.shape;
      up = belows_trans r.up rs.up;
      met = (met_up b.0 b.1 r.met.0 rs.up r.met.1 r.met.2, rs.met);
    }

-- ranks
abbrev lacks : Option ℕ → ℕ
lacks None = 1
lacks (Some v) = 0

abbrev unknowns : Known → ℕ
unknowns [] = 0
unknowns (k ∷ ks) = lacks k + unknowns ks

abbrev rank_of : Option Known → ℕ
rank_of None = 0
rank_of (Some ks) = suc (unknowns ks)

abbrev rank : Knowledge → ℕ
rank [] = 0
rank (k ∷ K) = rank_of k + rank K

lacks_le : {x y : Option ℕ} → Under x y → lacks x ≤ lacks y
lacks_le same = omega arith
lacks_le {x} unknown = go x
  where
    go : (x : Option ℕ) → lacks x ≤ 1
    go None = omega arith
    go (Some v) = omega arith

lacks_same : {x y : Option ℕ} → Under x y → lacks y ≤ lacks x → x ≡ y
lacks_same same h = refl
lacks_same {x} unknown h = go x h
  where
    go : (x : Option ℕ) → 1 ≤ lacks x → x ≡ None
    go None h = refl
    go (Some v) h = absurd (omega arith)

unknowns_le : {xs ys : Known} → Unders xs ys → unknowns xs ≤ unknowns ys
unknowns_le Unders.nil = omega arith
unknowns_le (Unders.cons h hs) = omega (arith, lacks_le h, unknowns_le hs)

unknowns_same : {xs ys : Known} → Unders xs ys → unknowns ys ≤ unknowns xs → xs ≡ ys
unknowns_same Unders.nil h = refl
unknowns_same (Unders.cons k ks) h =
    ap₂ (λ x xs. x ∷ xs) (lacks_same k (omega (arith, unknowns_le ks))) (unknowns_same ks (omega (arith, lacks_le k)))

reached_le : {k l : Option Known} → Reached k l → rank_of k ≤ rank_of l
reached_le not_yet = omega arith
reached_le (already u) = omega (arith, unknowns_le u)

reached_same : {k l : Option Known} → Reached k l → rank_of l ≤ rank_of k → k ≡ l
reached_same {l = l} not_yet h = go l h
  where
    go : (l : Option Known) → rank_of l ≤ 0 → None ≡ l
    go None h = refl
    go (Some ks) h = absurd (omega arith)
reached_same (already u) h = ap Some (unknowns_same u (omega arith))

rank_le : {K L : Knowledge} → Belows K L → rank K ≤ rank L
rank_le Belows.nil = omega arith
rank_le (Belows.cons h hs) = omega (arith, reached_le h, rank_le hs)

rank_same : {K L : Knowledge} → Belows K L → rank L ≤ rank K → K ≡ L
rank_same Belows.nil h = refl
rank_same (Belows.cons k ks) h = ap₂ (λ x xs. x ∷ xs) (reached_same k (omega (arith, rank_le ks))) (rank_same ks (omega (arith, reached_le k)))

abbrev total : List ℕ → ℕ
total [] = 0
total (n ∷ ns) = suc n + total ns

unknowns_few : (ks : Known) → unknowns ks ≤ length ks
unknowns_few [] = omega arith
unknowns_few (None ∷ ks) = omega (arith, unknowns_few ks)
unknowns_few (Some v ∷ ks) = omega (arith, unknowns_few ks)

rank_few : {ns : List ℕ} {K : Knowledge} → Shape ns K → rank K ≤ total ns
rank_few nil = omega arith
rank_few (new s) = omega (arith, rank_few s)
rank_few (old ks s) = omega (arith, rank_few s, unknowns_few ks)

-- the rounds suffice
module _ (a : Alg) (s : System) (h : Shaped s) where
  abbrev ns : List ℕ
  ns = arities s.equations

  abbrev step : Knowledge → Knowledge
  step K = learnt_all K (brought a s K)

  stepped : (K : Knowledge) → Shape ns K → Learnts ns K (brought a s K)
  stepped K z = learns_all (brought a s K) z (brought_shaped a s K h)

  fixed : (n : ℕ) (K : Knowledge) → step K ≡ K → times n step K ≡ K
  fixed zero K e = refl
  fixed (suc n) K e = ap (times n step) e ∙ fixed n K e

  settles : (n : ℕ) (K : Knowledge) → Shape ns K → total ns ≤ rank K + n → (step (times n step K) ≡ times n step K) × Shape ns (times n step K)
  settles zero K z le =
      let r = stepped K z in
      (sym (rank_same r.up (omega (arith, rank_few r.shape))), z)
  settles (suc n) K z le = go (cases_lt (rank K) (rank (step K))) (settles n (step K) (stepped K z).shape)
    where
      go : (rank K < rank (step K)) ⊎ (rank (step K) ≤ rank K) →
          (total ns ≤ rank (step K) + n → (step (times n step (step K)) ≡ times n step (step K)) × Shape ns (times n step (step K))) →
          (step (times n step (step K)) ≡ times n step (step K)) × Shape ns (times n step (step K))
      go (inl l) ih = ih (omega arith)
      go (inr l) ih =
          let e : step K ≡ K = sym (rank_same (stepped K z).up l) in
          subst (λ X. (step X ≡ X) × Shape ns X) (sym (ap (times n step) e ∙ fixed n K e)) (e, z)

pub none_shaped : (es : List Equation) → Shape (arities es) (map (λ _. None) es)
none_shaped [] = nil
none_shaped (e ∷ es) = new (none_shaped es)

total_height : (es : List Equation) → total (arities es) ≡ sum (map (λ (e : Equation). suc (length e.sorts)) es)
total_height [] = refl
total_height (e ∷ es) = ap (λ n. suc (length e.sorts) + n) (total_height es)

from_met : (L : Knowledge) (b : Brought) → Met L b → reached_below (Some b.1) (bind (at L b.0) (λ k. k)) ≡ true
from_met L b m = rw m.1 (from_unders m.2)

pub from_all : (L : Knowledge) (bs : List Brought) → All L bs → each (λ b. reached_below (Some b.1) (bind (at L b.0) (λ k. k))) bs ≡ true
from_all L [] h = refl
from_all L (b ∷ bs) h = rw (from_met L b h.0, each) (from_all L bs h.1)

pub stands : (a : Alg) (s : System) → Shaped s → stable a s (least_knowledge a s) ≡ true
stands a s h =
    let K = least_knowledge a s in
    let (e, z) = settles a s h (height s) (unreached s) (none_shaped s.equations) (omega (arith, total_height s.equations)) in
    from_all K (brought a s K) (subst (λ L. All L (brought a s K)) e (stepped a s h K z).met)
