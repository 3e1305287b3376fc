-- What a data algebra means: sorts of finitely many values, and operations on them.
use Rattle.std.specs.Prelude.{◌≡◌, ℕ, ◌<◌, ◌≤◌, Bool, true, false, ◌&&◌, List, [], ◌∷◌, map, length, Some, None, Option, nat_lt, slice_index}
use Rattle.definitions.specs.Lists.{at, bind}

-- the answers to the questions, none where a number or an argument is out of range
pub record Alg : Type 0 where
  pub sorts : ℕ
  pub ops : ℕ
  pub size : ℕ → Option ℕ
  pub arity : ℕ → Option ℕ
  pub arg_sort : ℕ → ℕ → Option ℕ
  pub res_sort : ℕ → Option ℕ
  pub value : ℕ → List ℕ → Option ℕ

-- an operation: the sorts of its arguments and its result, and its value at arguments in range
pub record Op : Type 0 where
  pub args : List ℕ
  pub res : ℕ
  pub run : List ℕ → ℕ

-- the values lie below the sizes, and are as many
abbrev pub within : List ℕ → List ℕ → Bool
within [] [] = true
within [] (v ∷ vs) = false
within (n ∷ ns) [] = false
within (n ∷ ns) (v ∷ vs) = nat_lt v n && within ns vs

abbrev pub sized : List ℕ → List ℕ → List ℕ
sized sizes ss = map (λ s. slice_index sizes s) ss

-- the algebra of some sizes and operations
abbrev pub algebra : List ℕ → List Op → Alg
algebra sizes os =
    record {
      sorts = length sizes;
      ops = length os;
      size = at sizes;
      arity = λ o. bind (at os o) (λ q. Some (length q.args));
      arg_sort = λ o k. bind (at os o) (λ q. at q.args k);
      res_sort = λ o. bind (at os o) (λ q. Some q.res);
      value = λ o xs. bind (at os o) (λ q. let v = q.run xs in elim (within (sized sizes q.args) xs) [ true ↦ Some v | false ↦ None ]);
    }

-- what an algebra's author shows
pub record Lawful (a : Alg) : Type 0 where
  pub some_sort : 1 ≤ a.sorts
  pub few_sorts : a.sorts ≤ 16
  pub truths : a.size 0 ≡ Some 2
  pub sort : (s : ℕ) → s < a.sorts → (n : ℕ) × (a.size s ≡ Some n) × (1 ≤ n) × (n ≤ 256)
  pub no_sort : (s : ℕ) → a.sorts ≤ s → a.size s ≡ None
  pub few_ops : a.ops ≤ 63
  pub op : (o : ℕ) → o < a.ops → (n : ℕ) × (a.arity o ≡ Some n) × (n ≤ 3)
  pub no_op : (o : ℕ) → a.ops ≤ o → (a.arity o ≡ None) × (a.res_sort o ≡ None)
  pub arg : (o n : ℕ) → a.arity o ≡ Some n → (k : ℕ) → k < n → (s : ℕ) × (a.arg_sort o k ≡ Some s) × (s < a.sorts)
  pub no_arg : (o k : ℕ) → ((n : ℕ) → a.arity o ≡ Some n → n ≤ k) → a.arg_sort o k ≡ None
  pub res : (o : ℕ) → o < a.ops → (s : ℕ) × (a.res_sort o ≡ Some s) × (s < a.sorts)
  pub below : (o : ℕ) (xs : List ℕ) (v : ℕ) → a.value o xs ≡ Some v → (s : ℕ) × (n : ℕ) × (a.res_sort o ≡ Some s) × (a.size s ≡ Some n) × (v < n)
  -- a value exactly at arguments in range
  pub total : (o n : ℕ) (xs : List ℕ) → a.arity o ≡ Some n → length xs ≡ n →
      ((k s z : ℕ) → a.arg_sort o k ≡ Some s → a.size s ≡ Some z → slice_index xs k < z) → (v : ℕ) × (a.value o xs ≡ Some v)
  pub none_else : (o : ℕ) (xs : List ℕ) (v : ℕ) → a.value o xs ≡ Some v →
      (a.arity o ≡ Some (length xs)) × ((k s z : ℕ) → a.arg_sort o k ≡ Some s → a.size s ≡ Some z → slice_index xs k < z)
