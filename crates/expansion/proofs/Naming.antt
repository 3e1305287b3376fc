-- A kept instance that comes, and the number that it gets.
use Rattle.std.specs.Cmp.Rules.{comparing}
use Rattle.std.proofs.Common.{rules, Decides, ◌≡◌, ℕ, zero, suc, ◌+◌, ◌-◌, ◌<◌, ◌≤◌, Bool, true, false, List, [], ◌∷◌, ◌++◌, length, take, replicate, Some, None, Option, sym, refl, ap, ◌∙◌, subst, ap₂, arith, length-append, zero-add}
use Rattle.definitions.specs.Lists.{at, some}
use Rattle.std.specs.Option.{is_some}
use Rattle.definitions.specs.Systems.{Equation, System}
use Rattle.definitions.specs.Truth.{Instance}
use Rattle.definitions.specs.Boolean.{same_instance, come, number_in}
use Rattle.definitions.specs.Fits.{Every}
use Rattle.theorems.proofs.Listing.{some_same, at_lt}
use Rattle.theorems.proofs.Numbers.{instance_eq, instance_same, come_has, come_keeps, number_at}
use Rattle.bits.specs.declared.writer.BitWriter.{BitWriter}
use Rattle.system.specs.declared.instance.Instance.{Instance as Kept}
use Rattle.system.specs.Instances.{same_instance as same}
use Rattle.system.specs.Bodies.{padded}
use Rattle.system.specs.Walks.{Pairs}
use Rattle.firstcome.specs.declared.FirstCome.{FirstCome}
use Rattle.firstcome.specs.Coming.{listed, place_from, place_of, Came, NoPlace}
use Rattle.expansion.specs.declared.draft.Draft.{Draft}
use Rattle.expansion.specs.Drafts.{Fine, StandsFor, Drafted}

-- values of one length are told apart by what is kept of them
front_same : (vs ws xs ys : List ℕ) → length vs ≡ length ws → vs ++ xs ≡ ws ++ ys → vs ≡ ws
front_same [] [] xs ys l e = refl
front_same [] (w ∷ ws) xs ys l e = absurd (omega arith)
front_same (v ∷ vs) [] xs ys l e = absurd (omega arith)
front_same (v ∷ vs) (w ∷ ws) xs ys l e =
    let h : v ≡ w = cc in
    let t : vs ++ xs ≡ ws ++ ys = cc in
    ap₂ (λ z zs. z ∷ zs) h (front_same vs ws xs ys (omega arith) t)

-- the test of the code
test : (l k : Kept) → Decides (same l k) (l ≡ k)
test l k = search (comparing, rules)

pub test_yes : (k l : Kept) → same l k ≡ true → l ≡ k
test_yes k l e = (test l k).0 e

pub test_is : (k l : Kept) → l ≡ k → same l k ≡ true
test_is k l e = (test l k).1 e

pub nowhere : (o : Option ℕ) → false ≡ is_some o → o ≡ None
nowhere None e = refl
nowhere (Some i) e = absurd cc

module _ (s : System) where
  -- equal instances are kept alike, and unequal ones are not
  kept_same : (k l : Kept) (x y : Instance) → Fine s x → Fine s y → StandsFor k x → StandsFor l y → k ≡ l → x ≡ y
  kept_same k l x y f g h i e =
      let n : x.0 ≡ y.0 = sym h.equation ∙ ap (λ z. z.equation) e ∙ i.equation in
      let q : f.equation ≡ g.equation = some_same f.equation g.equation (sym f.there ∙ ap (at s.equations) n ∙ g.there) in
      let m : length x.1 ≡ length y.1 = f.values ∙ ap (λ (z : Equation). length z.sorts) q ∙ sym g.values in
      let p : padded x.1 ≡ padded y.1 = sym h.values ∙ ap (λ z. z.values) e ∙ i.values in
      ap₂ (λ (u : ℕ) (w : List ℕ). (u, w)) n (front_same x.1 y.1 (replicate (15 - length x.1) 0) (replicate (15 - length y.1) 0) m p)

  same_kept : (k l : Kept) (x y : Instance) → StandsFor k x → StandsFor l y → x ≡ y → k ≡ l
  same_kept k l x y h i e =
      let n : k.equation ≡ l.equation = h.equation ∙ ap (λ (z : Instance). z.0) e ∙ sym i.equation in
      let p : k.values ≡ l.values = h.values ∙ ap (λ (z : Instance). padded z.1) e ∙ sym i.values in
      ap₂ (λ (u : ℕ) (w : List ℕ). record { equation = u; values = w }) n p

  -- the test p is whether a kept instance is k, which stands for x
  module _ (p : Kept → Bool) (k : Kept) (x : Instance) (fine : Fine s x) (stands : StandsFor k x) (yes : (l : Kept) → p l ≡ true → l ≡ k) (is : (l : Kept) → l ≡ k → p l ≡ true) where
    tells : (l : Kept) (y : Instance) → Fine s y → StandsFor l y → (b : Bool) → (b ≡ true → x ≡ y) → (x ≡ y → b ≡ true) → p l ≡ b
    tells l y f h true to from = is l (same_kept l k y x h stands (sym (to refl)))
    tells l y f h false to from = go (p l) refl
      where
        go : (c : Bool) → p l ≡ c → c ≡ false
        go true e = sym (from (kept_same k l x y fine f stands h (sym (yes l e))))
        go false e = refl

    some_alike : (ks : List Kept) (ns : List Instance) → Pairs StandsFor ks ns → Every (Fine s) ns → some p ks ≡ some (same_instance x) ns
    some_alike [] [] h f = refl
    some_alike [] (y ∷ ns) h f = absurd h
    some_alike (l ∷ ks) [] h f = absurd h
    some_alike (l ∷ ks) (y ∷ ns) h f =
        ap₂ (λ b c. elim b as (λ _. Bool) [ true ↦ true | false ↦ c ])
        (tells l y f.0 h.0 (same_instance x y) (instance_eq x y) (instance_same x y))
        (some_alike ks ns h.1 f.1)

    place_alike : (j : ℕ) (ks : List Kept) (ns : List Instance) → Pairs StandsFor ks ns → Every (Fine s) ns → some p ks ≡ true → place_from j p ks ≡ Some (j + number_in ns x)
    place_alike j [] ns h f e = absurd cc
    place_alike j (l ∷ ks) [] h f e = absurd h
    place_alike j (l ∷ ks) (y ∷ ns) h f e =
        go (p l) (same_instance y x) (tells l y f.0 h.0 (same_instance y x) (λ q. sym (instance_eq y x q)) (λ q. instance_same y x (sym q))) (place_alike (suc j) ks ns h.1 f.1) e
      where
        go : (b c : Bool) → b ≡ c → (some p ks ≡ true → place_from (suc j) p ks ≡ Some (suc j + number_in ns x)) → elim b [ true ↦ true | false ↦ some p ks ] ≡ true →
            elim b as (λ _. Option ℕ) [ true ↦ Some j | false ↦ place_from (suc j) p ks ] ≡ Some (j + elim c as (λ _. ℕ) [ true ↦ 0 | false ↦ suc (number_in ns x) ])
        go true true q ih t = ap Some (let w : j ≡ j + 0 = omega arith in w)
        go true false q ih t = absurd cc
        go false true q ih t = absurd cc
        go false false q ih t = ih t ∙ ap Some (let w : suc j + number_in ns x ≡ j + suc (number_in ns x) = omega arith in w)

    no_place_from : (j : ℕ) (ks : List Kept) → some p ks ≡ false → place_from j p ks ≡ None
    no_place_from j [] e = refl
    no_place_from j (l ∷ ks) e = go (p l) (no_place_from (suc j) ks) e
      where
        go : (b : Bool) → (some p ks ≡ false → place_from (suc j) p ks ≡ None) → elim b [ true ↦ true | false ↦ some p ks ] ≡ false → elim b as (λ _. Option ℕ) [ true ↦ Some j | false ↦ place_from (suc j) p ks ] ≡ None
        go true ih t = absurd cc
        go false ih t = ih t

    number_last : (ns : List Instance) → some (same_instance x) ns ≡ false → number_in (ns ++ (x ∷ [])) x ≡ length ns
    number_last [] e = ap (λ b. elim b as (λ _. ℕ) [ true ↦ 0 | false ↦ suc 0 ]) (instance_same x x refl)
    number_last (y ∷ ns) e = go (same_instance x y) (same_instance y x) refl refl (number_last ns) e
      where
        go : (b c : Bool) → same_instance x y ≡ b → same_instance y x ≡ c → (some (same_instance x) ns ≡ false → number_in (ns ++ (x ∷ [])) x ≡ length ns) → elim b [ true ↦ true | false ↦ some (same_instance x) ns ] ≡ false →
            elim c as (λ _. ℕ) [ true ↦ 0 | false ↦ suc (number_in (ns ++ (x ∷ [])) x) ] ≡ suc (length ns)
        go true c u w ih t = absurd cc
        go false true u w ih t = let q : same_instance x y ≡ true = instance_same x y (sym (instance_eq y x w)) in absurd cc
        go false false u w ih t = ap suc (ih t)

    pairs_snoc : (ks : List Kept) (ns : List Instance) → Pairs StandsFor ks ns → Pairs StandsFor (ks ++ (k ∷ [])) (ns ++ (x ∷ []))
    pairs_snoc [] [] h = (stands, tt)
    pairs_snoc [] (y ∷ ns) h = absurd h
    pairs_snoc (l ∷ ks) [] h = absurd h
    pairs_snoc (l ∷ ks) (y ∷ ns) h = (h.0, pairs_snoc ks ns h.1)

    -- the instances that came with it, and its number
    pub record Named (ks : List Kept) (ns : List Instance) (i : ℕ) : Type 0 where
      pub lists : Pairs StandsFor ks (come ns (x ∷ []))
      pub number : i ≡ number_in (come ns (x ∷ [])) x

    named : (ks ms : List Kept) (ns : List Instance) (n i : ℕ) → Pairs StandsFor ks ns → Every (Fine s) ns → n ≡ length ns →
        ms ≡ elim (some p ks) [ true ↦ ks | false ↦ ks ++ (k ∷ []) ] → i ≡ elim (place_of p ks) [ Some j ↦ j | None ↦ n ] → Named ms ns i
    named ks ms ns n i h f c l q = go (some (same_instance x) ns) refl
      where
        go : (b : Bool) → some (same_instance x) ns ≡ b → Named ms ns i
        go true e =
            let t : some p ks ≡ true = some_alike ks ns h f ∙ e in
            let same : come ns (x ∷ []) ≡ ns = ap (λ b. elim b as (λ _. List Instance) [ true ↦ ns | false ↦ ns ++ (x ∷ []) ]) e in
            let is_ks : ms ≡ ks = l ∙ ap (λ b. elim b as (λ _. List Kept) [ true ↦ ks | false ↦ ks ++ (k ∷ []) ]) t in
            let at_place : i ≡ number_in ns x = q ∙ ap (λ o. elim o as (λ _. ℕ) [ Some j ↦ j | None ↦ n ]) (place_alike 0 ks ns h f t) ∙ zero-add (number_in ns x) in
            record {
              lists = subst (λ (zs : List Instance). Pairs StandsFor ms zs) (sym same) (subst (λ (zs : List Kept). Pairs StandsFor zs ns) (sym is_ks) h);
              number = at_place ∙ ap (λ (zs : List Instance). number_in zs x) (sym same);
            }
        go false e =
            let t : some p ks ≡ false = some_alike ks ns h f ∙ e in
            let more : come ns (x ∷ []) ≡ ns ++ (x ∷ []) = ap (λ b. elim b as (λ _. List Instance) [ true ↦ ns | false ↦ ns ++ (x ∷ []) ]) e in
            let is_ks : ms ≡ ks ++ (k ∷ []) = l ∙ ap (λ b. elim b as (λ _. List Kept) [ true ↦ ks | false ↦ ks ++ (k ∷ []) ]) t in
            let at_end : i ≡ length ns = q ∙ ap (λ o. elim o as (λ _. ℕ) [ Some j ↦ j | None ↦ n ]) (no_place_from 0 ks t) ∙ c in
            record {
              lists = subst (λ (zs : List Instance). Pairs StandsFor ms zs) (sym more) (subst (λ (zs : List Kept). Pairs StandsFor zs (ns ++ (x ∷ []))) (sym is_ks) (pairs_snoc ks ns h));
              number = at_end ∙ sym (number_last ns e) ∙ ap (λ (zs : List Instance). number_in zs x) (sym more);
            }

    pairs_long : (ks : List Kept) (ns : List Instance) → Pairs StandsFor ks ns → length ks ≡ length ns
    pairs_long [] [] h = refl
    pairs_long [] (y ∷ ns) h = absurd h
    pairs_long (l ∷ ks) [] h = absurd h
    pairs_long (l ∷ ks) (y ∷ ns) h = ap suc (pairs_long ks ns h.1)

    take_long : {A : Type 0} (n : ℕ) (xs : List A) → n ≤ length xs → length (take n xs) ≡ n
    take_long zero xs h = refl
    take_long (suc n) [] h = absurd (omega arith)
    take_long (suc n) (y ∷ xs) h = ap suc (take_long n xs (omega arith))

    -- the list of a draft with the instance come
    pub record NamedIn (first : BitWriter) (places : ℕ) (ns : List Instance) (bs : List ℕ) (new : Draft) (i : ℕ) : Type 0 where
      pub drafted : Drafted s first places (come ns (x ∷ [])) bs new
      pub number : i ≡ number_in (come ns (x ∷ [])) x
      pub small : i < 4096

    pub came : (old : Draft) (l : FirstCome Kept) (i : ℕ) (first : BitWriter) (places : ℕ) (ns : List Instance) (bs : List ℕ) → Came p k old.list l i →
        Drafted s first places ns bs old → NamedIn first places ns bs (record { list = l; writer = old.writer; too_long = old.too_long }) i
    came old l i first places ns bs c d =
        let n = named (listed old.list) (listed l) ns old.list.len i d.lists d.fine d.count c.lists c.place in
        let slice : length l.items.now ≡ places = c.places ∙ d.slice in
        let count : l.len ≡ length (come ns (x ∷ [])) = sym (take_long l.len l.items.now l.within) ∙ pairs_long (listed l) (come ns (x ∷ [])) n.lists in
        let has = come_has ns (x ∷ []) in
        let low : number_in (come ns (x ∷ [])) x < length (come ns (x ∷ [])) =
        at_lt (come ns (x ∷ [])) (number_in (come ns (x ∷ [])) x) x (number_at (come ns (x ∷ [])) x has.0) in
        let few = d.few in
        let at_place = n.number in
        record {
          drafted = record {
            short = d.short;
            bytes = d.bytes;
            slice = slice;
            few = d.few;
            count = count;
            lists = n.lists;
            fine = come_keeps (Fine s) ns (x ∷ []) d.fine (fine, tt);
            are = d.are;
            written = d.written;
          };
          number = at_place;
          small = omega arith;
        }

    -- it is new, and there is no place
    pub not_come : (old : Draft) (l : FirstCome Kept) (first : BitWriter) (places : ℕ) (ns : List Instance) (bs : List ℕ) → NoPlace p old.list l →
        Drafted s first places ns bs old → places < length (come ns (x ∷ []))
    not_come old l first places ns bs c d =
        let e : some (same_instance x) ns ≡ false = sym (some_alike (listed old.list) ns d.lists d.fine) ∙ c.is_new in
        let more : come ns (x ∷ []) ≡ ns ++ (x ∷ []) = ap (λ b. elim b as (λ _. List Instance) [ true ↦ ns | false ↦ ns ++ (x ∷ []) ]) e in
        let long : length (come ns (x ∷ [])) ≡ length ns + 1 = ap length more ∙ length-append ns (x ∷ []) in
        let full = c.full in
        let count = d.count in
        let slice = d.slice in
        omega arith
