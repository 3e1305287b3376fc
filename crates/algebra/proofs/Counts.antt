-- The answers of the counting algebra, operation by operation.
use Rattle.std.proofs.Common.{◌≡◌, ℕ, zero, suc, ◌+◌, ◌-◌, ◌/◌, ◌%◌, ◌<◌, ◌≤◌, min, Bool, true, false, ltb, List, [], ◌∷◌, length, get_or, Some, None, Option, sym, refl, ap, ◌∙◌, ap₂, mod-eq_of_lt, add-one, arith}
use Rattle.definitions.specs.Lists.{at, bind, flat, map_from}
use Rattle.definitions.specs.Alg.{Op, within, sized}
use Rattle.definitions.specs.Algebras.{first, second, truth, counts, counting}
use Rattle.algebra.specs.Runs.{runs}
use Rattle.algebra.specs.Lists.{none_some, some_inj, at_in, at_over, at_lt, at_none, at_get_or}

-- each sort has four operations
four : (k : ℕ) (ns : List ℕ) (o : ℕ) → at (flat (map_from k counts ns)) o ≡ bind (at (map_from k counts ns) (o / 4)) (λ (l : List Op). at l (o % 4))
four k [] o = refl
four k (n ∷ ns) zero = refl
four k (n ∷ ns) (suc zero) = refl
four k (n ∷ ns) (suc (suc zero)) = refl
four k (n ∷ ns) (suc (suc (suc zero))) = refl
four k (n ∷ ns) (suc (suc (suc (suc o)))) =
    let q : suc (o / 4) ≡ suc (suc (suc (suc o))) / 4 = omega arith in
    let r : o % 4 ≡ suc (suc (suc (suc o))) % 4 = omega arith in
    four (suc k) ns o ∙ ap₂ (λ i w. bind (at (map_from k counts (n ∷ ns)) i) (λ (l : List Op). at l w)) q r

at_from : {X Y : Type 0} (k : ℕ) (f : ℕ → X → Y) (xs : List X) (i : ℕ) → at (map_from k f xs) i ≡ bind (at xs i) (λ x. Some (f (k + i) x))
at_from k f [] i = refl
at_from k f (x ∷ xs) zero = let e : k ≡ k + 0 = omega arith in ap (λ j. Some (f j x)) e
at_from k f (x ∷ xs) (suc i) = let e : suc k + i ≡ k + suc i = omega arith in at_from (suc k) f xs i ∙ ap (λ j. bind (at xs i) (λ x. Some (f j x))) e

-- the operation numbered o
pub operation : (ns : List ℕ) (o : ℕ) → o / 4 < length ns → at (flat (map_from 1 counts ns)) o ≡ at (counts (o / 4 + 1) (get_or ns (o / 4) 0)) (o % 4)
operation ns o h =
    let e : 1 + o / 4 ≡ o / 4 + 1 = omega arith in
    four 1 ns o ∙ ap (λ (z : Option (List Op)). bind z (λ (l : List Op). at l (o % 4))) (at_from 1 counts ns (o / 4) ∙ ap (λ z. bind z (λ n. Some (counts (1 + o / 4) n))) (at_in ns (o / 4) 0 h)) ∙
    ap (λ s. at (counts s (get_or ns (o / 4) 0)) (o % 4)) e

pub no_operation : (ns : List ℕ) (o : ℕ) → length ns ≤ o / 4 → at (flat (map_from 1 counts ns)) o ≡ None
no_operation ns o h = four 1 ns o ∙ ap (λ (z : Option (List Op)). bind z (λ (l : List Op). at l (o % 4))) (at_from 1 counts ns (o / 4) ∙ ap (λ z. bind z (λ n. Some (counts (1 + o / 4) n))) (at_over ns (o / 4) h))

module _ (ns : List ℕ) (o : ℕ) (h : o / 4 < length ns) where
  ask : {X : Type 0} (g : Op → Option X) (w : ℕ) → o % 4 ≡ w → bind (at (flat (map_from 1 counts ns)) o) g ≡ bind (at (counts (o / 4 + 1) (get_or ns (o / 4) 0)) w) g
  ask g w e = ap (λ z. bind z g) (operation ns o h ∙ ap (at (counts (o / 4 + 1) (get_or ns (o / 4) 0))) e)

  -- up, down and next are alike in their sorts
  three : {X : Type 0} (g : Op → Option X) (y : Option X) → (o % 4 ≡ 3 → ⊥) → ((v : List ℕ → ℕ) → g (record { args = (o / 4 + 1) ∷ []; res = o / 4 + 1; run = v }) ≡ y) →
      bind (at (flat (map_from 1 counts ns)) o) g ≡ y
  three g y ne f = go (o % 4) refl
    where
      go : (w : ℕ) → o % 4 ≡ w → bind (at (flat (map_from 1 counts ns)) o) g ≡ y
      go zero e = ask g 0 e ∙ f _
      go (suc zero) e = ask g 1 e ∙ f _
      go (suc (suc zero)) e = ask g 2 e ∙ f _
      go (suc (suc (suc zero))) e = absurd (ne e)
      go (suc (suc (suc (suc w)))) e = absurd (omega arith)

  pub arity_two : o % 4 ≡ 3 → Some 2 ≡ (counting ns).arity o
  arity_two e = sym (ask (λ (q : Op). Some (length q.args)) 3 e)

  pub arity_one : (o % 4 ≡ 3 → ⊥) → Some 1 ≡ (counting ns).arity o
  arity_one ne = sym (three (λ (q : Op). Some (length q.args)) (Some 1) ne (λ v. refl))

  pub result_truth : o % 4 ≡ 3 → Some 0 ≡ (counting ns).res_sort o
  result_truth e = sym (ask (λ (q : Op). Some q.res) 3 e)

  pub result_own : (o % 4 ≡ 3 → ⊥) → Some (o / 4 + 1) ≡ (counting ns).res_sort o
  result_own ne = sym (three (λ (q : Op). Some q.res) (Some (o / 4 + 1)) ne (λ v. refl))

  one : (k : ℕ) → k < 1 → Some (o / 4 + 1) ≡ at ((o / 4 + 1) ∷ []) k
  one zero l = refl
  one (suc k) l = absurd (omega arith)

  both : (k : ℕ) → k < 2 → Some (o / 4 + 1) ≡ at ((o / 4 + 1) ∷ (o / 4 + 1) ∷ []) k
  both zero l = refl
  both (suc zero) l = refl
  both (suc (suc k)) l = absurd (omega arith)

  -- all arguments are of the operation's own sort
  pub arg_own : (m k : ℕ) → Some m ≡ (counting ns).arity o → k < m → Some (o / 4 + 1) ≡ (counting ns).arg_sort o k
  arg_own m k e l = go (o % 4) refl
    where
      go : (w : ℕ) → o % 4 ≡ w → Some (o / 4 + 1) ≡ (counting ns).arg_sort o k
      go zero d = let i : m ≡ 1 = some_inj m 1 (e ∙ ask (λ (q : Op). Some (length q.args)) 0 d) in one k (omega arith) ∙ sym (ask (λ (q : Op). at q.args k) 0 d)
      go (suc zero) d = let i : m ≡ 1 = some_inj m 1 (e ∙ ask (λ (q : Op). Some (length q.args)) 1 d) in one k (omega arith) ∙ sym (ask (λ (q : Op). at q.args k) 1 d)
      go (suc (suc zero)) d = let i : m ≡ 1 = some_inj m 1 (e ∙ ask (λ (q : Op). Some (length q.args)) 2 d) in one k (omega arith) ∙ sym (ask (λ (q : Op). at q.args k) 2 d)
      go (suc (suc (suc zero))) d = let i : m ≡ 2 = some_inj m 2 (e ∙ ask (λ (q : Op). Some (length q.args)) 3 d) in both k (omega arith) ∙ sym (ask (λ (q : Op). at q.args k) 3 d)
      go (suc (suc (suc (suc w)))) d = absurd (omega arith)

  pub value_in : (xs : List ℕ) → (counting ns).value o xs ≡ runs (get_or ns (o / 4) 0) (o % 4) xs
  value_in xs = go (o % 4) refl
    where
      n : ℕ
      n = get_or ns (o / 4) 0

      e₁ : get_or (2 ∷ ns) (o / 4 + 1) 0 ≡ get_or ns (o / 4) 0
      e₁ = rw add-one refl

      g : Op → Option ℕ
      g q = elim (within (sized (2 ∷ ns) q.args) xs) [ true ↦ Some (q.run xs) | false ↦ None ]

      go : (w : ℕ) → o % 4 ≡ w → (counting ns).value o xs ≡ runs n w xs
      go zero e = ask g 0 e ∙ ap (λ m. elim (within (m ∷ []) xs) [ true ↦ Some (min (first xs + 1) (n - 1)) | false ↦ None ]) e₁
      go (suc zero) e = ask g 1 e ∙ ap (λ m. elim (within (m ∷ []) xs) [ true ↦ Some (first xs - 1) | false ↦ None ]) e₁
      go (suc (suc zero)) e = ask g 2 e ∙ ap (λ m. elim (within (m ∷ []) xs) [ true ↦ Some ((first xs + 1) % n) | false ↦ None ]) e₁
      go (suc (suc (suc zero))) e = ask g 3 e ∙ ap (λ m. elim (within (m ∷ m ∷ []) xs) [ true ↦ Some (truth (ltb (first xs) (second xs))) | false ↦ None ]) e₁
      go (suc (suc (suc (suc w)))) e = absurd (omega arith)

pub none_at : {X : Type 0} (ns : List ℕ) (o : ℕ) (g : Op → Option X) → None ≡ at ns (o / 4) → None ≡ bind (at (flat (map_from 1 counts ns)) o) g
none_at ns o g e = sym (ap (λ z. bind z g) (no_operation ns o (at_none ns (o / 4) (sym e))))

-- an operation that has an arity counts in a sort
pub arity_in : (ns : List ℕ) (o m : ℕ) → Some m ≡ (counting ns).arity o → o / 4 < length ns
arity_in ns o m e = go (at ns (o / 4)) refl
  where
    go : (z : Option ℕ) → at ns (o / 4) ≡ z → o / 4 < length ns
    go None i = none_some m (none_at ns o (λ (q : Op). Some (length q.args)) (sym i) ∙ sym e)
    go (Some n) i = at_lt ns (o / 4) n i

pub value_none : (ns : List ℕ) (o : ℕ) (xs : List ℕ) → None ≡ at ns (o / 4) → None ≡ (counting ns).value o xs
value_none ns o xs = none_at ns o (λ (q : Op). elim (within (sized (2 ∷ ns) q.args) xs) [ true ↦ Some (q.run xs) | false ↦ None ])

pub value_some : (ns : List ℕ) (o n : ℕ) (xs : List ℕ) (r : Option ℕ) → Some n ≡ at ns (o / 4) → r ≡ runs n (o % 4) xs → r ≡ (counting ns).value o xs
value_some ns o n xs r e h = h ∙ ap (λ m. runs m (o % 4) xs) (sym (at_get_or ns (o / 4) n (sym e))) ∙ sym (value_in ns o (at_lt ns (o / 4) n (sym e)) xs)

run_next : (n : ℕ) (xs : List ℕ) → within (n ∷ []) xs ≡ true → runs n 2 xs ≡ Some ((first xs + 1) % n)
run_next n xs w = ap (λ (b : Bool). elim b [ true ↦ Some ((first xs + 1) % n) | false ↦ None ]) w

pub next_on : (n a : ℕ) (xs : List ℕ) → within (n ∷ []) xs ≡ true → get_or xs 0 0 ≡ a → a + 1 < n → Some (a + 1) ≡ runs n 2 xs
next_on n a xs w e h = sym (run_next n xs w ∙ ap (λ m. Some ((m + 1) % n)) e ∙ ap Some (mod-eq_of_lt h))
