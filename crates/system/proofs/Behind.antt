-- Terms behind their kinds, with their terms forgotten.
use Rattle.std.proofs.Common.{◌≡◌, ℕ, zero, suc, ◌-◌, ◌≤◌, List, [], ◌∷◌, map, Some, None, Ok, Option, sym, refl, ap, ◌∙◌, sub-one, arith}
use Rattle.faults.specs.declared.Reason.{Reason}
use Rattle.faults.specs.declared.Reason.TheVariants.{NoSuchName}
use Rattle.definitions.specs.Lists.{at, up_to}
use Rattle.definitions.specs.Alg.{Alg}
use Rattle.definitions.specs.Systems.{Kind, parameter, variable, operation, not, and, or, equal}
use Rattle.definitions.specs.Reading.{Step, next, stop, Reader, follow, take, given, repeated, one_by_one}
use Rattle.definitions.specs.ReadSystem.{Scope, Sorted, of, suits, read_term, read_kind, read_parameter, read_variable, read_equal}
use Rattle.system.specs.Steps.{sorts, placed, read_name, operated}
use Rattle.system.specs.declared.term.Operation.{Operation}
use Rattle.system.proofs.Rows.{placed_sorts, counted}

-- a term of the sort s whose parts are read by m
shut : {X : Type 0} (s : ℕ) (g : X → Sorted) → ((x : X) → (g x).the_sort ≡ s) → (m : Step X) → sorts (follow m (λ x q. next (g x) q)) ≡ follow (placed m) (λ _ q. next s q)
shut s g h (next x q) = ap (λ n. next n q) (h x)
shut s g h (stop r q) = refl

-- a term behind its kind
pub opened : (a : Alg) (c : Scope) (d : ℕ) (need : Option ℕ) (f : List ℕ) (p k q n : ℕ) → (d ≡ 0 → ⊥) → next k q ≡ take 3 f p → k ≡ n → sorts (read_kind a c (read_term a c (d - 1)) p need n f q) ≡ sorts (read_term a c d need f p)
opened a c zero need f p k q n ne e i = absurd (ne refl)
opened a c (suc d) need f p k q n ne e i = rw sub-one (ap (λ k. sorts (read_kind a c (read_term a c d) p need k f q)) (sym i) ∙ ap (λ m. sorts (follow m (λ k q. read_kind a c (read_term a c d) p need k f q))) e)

module _ (a : Alg) (c : Scope) (part : Option ℕ → Reader Sorted) (p : ℕ) (need : Option ℕ) (f : List ℕ) (q : ℕ) where
  named : (names : List ℕ) (w : ℕ) (kind : ℕ → Kind) →
      read_name names w p need f q ≡ sorts (follow (take w f q) (λ n t. follow (given (at names n) NoSuchName q f t) (λ s u. follow (suits need s p f u) (λ _ v. next (of s (kind n) []) v))))
  named names w kind = go (take w f q)
    where
      suited : (n s : ℕ) (m : Step (Unit {0})) → follow m (λ _ v. next s v) ≡ sorts (follow m (λ _ v. next (of s (kind n) []) v))
      suited n s (next x v) = refl
      suited n s (stop r v) = refl

      found : (n t : ℕ) (o : Option ℕ) → follow (given o NoSuchName q f t) (λ s u. follow (suits need s p f u) (λ _ v. next s v)) ≡ sorts (follow (given o NoSuchName q f t) (λ s u. follow (suits need s p f u) (λ _ v. next (of s (kind n) []) v)))
      found n t None = refl
      found n t (Some s) = suited n s (suits need s p f t)

      go : (m : Step ℕ) → follow m (λ n t. follow (given (at names n) NoSuchName q f t) (λ s u. follow (suits need s p f u) (λ _ v. next s v))) ≡
          sorts (follow m (λ n t. follow (given (at names n) NoSuchName q f t) (λ s u. follow (suits need s p f u) (λ _ v. next (of s (kind n) []) v))))
      go (next n t) = found n t (at names n)
      go (stop r t) = refl

  pub named_parameter : read_name c.parameters 4 p need f q ≡ sorts (read_parameter a c part p need f q)
  named_parameter = named c.parameters 4 parameter

  pub named_variable : read_name c.variables 2 p need f q ≡ sorts (read_variable a c part p need f q)
  named_variable = named c.variables 2 variable

  abbrev truths_of : Kind → ℕ → Step (Unit {0}) → Step ℕ
  truths_of k n m = sorts (follow m (λ _ t. follow (repeated (part (Some 0)) n f t) (λ ts u. next (of 0 k (map (λ t. t.the_term) ts)) u)))

  abbrev equal_of : Step (Unit {0}) → Step ℕ
  equal_of m = sorts (follow m (λ _ t. follow (part None f t) (λ x t. follow (part (Some x.the_sort) f t) (λ y u. next (of 0 equal (x.the_term ∷ y.the_term ∷ [])) u))))

  -- the kinds whose terms have the truth sort
  pub unsuited : (r : Reason) (t k : ℕ) → 4 ≤ k → stop r t ≡ suits need 0 p f q → stop r t ≡ sorts (read_kind a c part p need k f q)
  unsuited r t zero l e = absurd (omega arith)
  unsuited r t (suc zero) l e = absurd (omega arith)
  unsuited r t (suc (suc zero)) l e = absurd (omega arith)
  unsuited r t (suc (suc (suc zero))) l e = absurd (omega arith)
  unsuited r t (suc (suc (suc (suc zero)))) l e = ap (truths_of not 1) e
  unsuited r t (suc (suc (suc (suc (suc zero))))) l e = ap (truths_of and 2) e
  unsuited r t (suc (suc (suc (suc (suc (suc zero)))))) l e = ap (truths_of or 2) e
  unsuited r t (suc (suc (suc (suc (suc (suc (suc k))))))) l e = ap equal_of e

  truths_read : (k : Kind) (n : ℕ) → next tt q ≡ suits need 0 p f q → (w : Step (Unit {0})) → w ≡ placed (one_by_one (λ (_ : ℕ). part (Some 0)) (up_to n) f q) →
      follow w (λ _ t. next 0 t) ≡ truths_of k n (suits need 0 p f q)
  truths_read k n e w h =
      ap (λ m. follow m (λ _ t. next 0 t)) (h ∙ ap placed (counted (part (Some 0)) 0 n f q)) ∙
      sym (shut 0 (λ ts. of 0 k (map (λ t. t.the_term) ts)) (λ _. refl) (repeated (part (Some 0)) n f q)) ∙ ap (truths_of k n) e

  pub truths : (k n : ℕ) → 4 ≤ k → k ≤ 6 → (k ≡ 4 → n ≡ 1) → ((k ≡ 4 → ⊥) → n ≡ 2) → next tt q ≡ suits need 0 p f q → (w : Step (Unit {0})) → w ≡ placed (one_by_one (λ (_ : ℕ). part (Some 0)) (up_to n) f q) →
      follow w (λ _ t. next 0 t) ≡ sorts (read_kind a c part p need k f q)
  truths zero n l u y z e w h = absurd (omega arith)
  truths (suc zero) n l u y z e w h = absurd (omega arith)
  truths (suc (suc zero)) n l u y z e w h = absurd (omega arith)
  truths (suc (suc (suc zero))) n l u y z e w h = absurd (omega arith)
  truths (suc (suc (suc (suc zero)))) n l u y z e w h = truths_read not 1 e w (h ∙ ap (λ n. placed (one_by_one (λ (_ : ℕ). part (Some 0)) (up_to n) f q)) (y refl))
  truths (suc (suc (suc (suc (suc zero))))) n l u y z e w h = truths_read and 2 e w (h ∙ ap (λ n. placed (one_by_one (λ (_ : ℕ). part (Some 0)) (up_to n) f q)) (z (λ x. absurd (omega arith))))
  truths (suc (suc (suc (suc (suc (suc zero)))))) n l u y z e w h = truths_read or 2 e w (h ∙ ap (λ n. placed (one_by_one (λ (_ : ℕ). part (Some 0)) (up_to n) f q)) (z (λ x. absurd (omega arith))))
  truths (suc (suc (suc (suc (suc (suc (suc k))))))) n l u y z e w h = absurd (omega arith)

  pub no_left : next tt q ≡ suits need 0 p f q → (r : Reason) (t : ℕ) → stop r t ≡ sorts (part None f q) → stop r t ≡ sorts (read_equal a c part p need f q)
  no_left e r t l = go (part None f q) l ∙ ap equal_of e
    where
      go : (m : Step Sorted) → stop r t ≡ sorts m → stop r t ≡ sorts (follow m (λ x t. follow (part (Some x.the_sort) f t) (λ y u. next (of 0 equal (x.the_term ∷ y.the_term ∷ [])) u)))
      go (next x u) e = absurd cc
      go (stop s u) e = e

  second : (x : Sorted) (m : Step Sorted) → follow (placed m) (λ _ t. next 0 t) ≡ sorts (follow m (λ y u. next (of 0 equal (x.the_term ∷ y.the_term ∷ [])) u))
  second x (next y u) = refl
  second x (stop s u) = refl

  pub right : next tt q ≡ suits need 0 p f q → (s t : ℕ) → next s t ≡ sorts (part None f q) → (w : Step ℕ) → w ≡ sorts (part (Some s) f t) → follow (placed w) (λ _ t. next 0 t) ≡ sorts (read_equal a c part p need f q)
  right e s t l w h = ap (λ m. follow (placed m) (λ _ t. next 0 t)) h ∙ ap (λ m. follow m (λ _ t. next 0 t)) (placed_sorts (part (Some s) f t)) ∙ go (part None f q) l ∙ ap equal_of e
    where
      go : (m : Step Sorted) → next s t ≡ sorts m → follow (placed (part (Some s) f t)) (λ _ t. next 0 t) ≡ sorts (follow m (λ x t. follow (part (Some x.the_sort) f t) (λ y u. next (of 0 equal (x.the_term ∷ y.the_term ∷ [])) u)))
      go (next x u) e =
          let i : s ≡ x.the_sort = cc in
          let j : t ≡ u = cc in
          ap (λ n. follow (placed (part (Some n) f t)) (λ _ t. next 0 t)) i ∙ ap (λ n. follow (placed (part (Some x.the_sort) f n)) (λ _ t. next 0 t)) j ∙ second x (part (Some x.the_sort) f u)
      go (stop r u) e = absurd cc

-- an operation whose arguments came to w
pub operation_done : (a : Alg) (part : Option ℕ → Reader Sorted) (f : List ℕ) (o : Operation) (q : ℕ) (m : Step Sorted) → operated a part f q (Ok o) ≡ m → (w : Step (Unit {0})) → w ≡ placed (one_by_one (λ k. part (a.arg_sort o.op k)) (up_to o.count) f q) → follow w (λ _ t. next o.sort t) ≡ sorts m
operation_done a part f o q m h w e =
    ap (λ m. follow m (λ _ t. next o.sort t)) e ∙
    sym (shut o.sort (λ ts. of o.sort (operation o.op) (map (λ t. t.the_term) ts)) (λ _. refl) (one_by_one (λ k. part (a.arg_sort o.op k)) (up_to o.count) f q)) ∙
    ap sorts h
