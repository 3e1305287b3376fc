-- Where the reading of a system reads a term, that term stands.
use Rattle.std.proofs.Common.{◌≡◌, ℕ, zero, suc, ◌≤◌, Bool, true, false, eqb, ltb, List, [], ◌∷◌, map, length, Some, None, Option, refl, ap, ◌∙◌}
use Rattle.faults.specs.declared.Reason.{Reason}
use Rattle.faults.specs.declared.Reason.TheVariants.{TooDeep, NoSuchSort, NoSuchName, ValueTooLarge, WrongSort}
use Rattle.definitions.specs.Lists.{at, bind, from, up_to}
use Rattle.definitions.specs.Alg.{Alg}
use Rattle.definitions.specs.Systems.{Kind, parameter, variable, value, operation, not, and, or, equal, Term, Terms, node, none, more, terms}
use Rattle.definitions.specs.Reading.{Step, next, stop, Reader, follow, take, must, given, below, one_by_one, repeated}
use Rattle.definitions.specs.ReadSystem.{Scope, Sorted, of, suits, read_truths, read_equal, read_kind, read_term}
use Rattle.terms.specs.Shapes.{Shape, came, field_at, shape_kind, row, shape, ReadStands}
use Rattle.terms.proofs.Fields.{field_next}

-- what was followed
abbrev pub Followed : {A B : Type 0} → Step A → (A → ℕ → Step B) → B → ℕ → Type 0
Followed {A} m k y q = (x : A) × ((t : ℕ) × ((m ≡ next x t) × (k x t ≡ next y q)))

pub followed : {A B : Type 0} (m : Step A) (k : A → ℕ → Step B) (y : B) (q : ℕ) → follow m k ≡ next y q → Followed m k y q
followed (next x t) k y q e = (x, (t, (refl, e)))
followed (stop r t) k y q e = absurd cc

pub given_there : {A B : Type 0} (o : Option A) (r : Reason) (s : ℕ) (f : List ℕ) (u : ℕ) (k : A → ℕ → Step B) (y : B) (q : ℕ) → follow (given o r s f u) k ≡ next y q → (x : A) × ((o ≡ Some x) × (k x u ≡ next y q))
given_there (Some x) r s f u k y q e = (x, (refl, e))
given_there None r s f u k y q e = absurd cc

suited : {B : Type 0} (need : Option ℕ) (s p : ℕ) (f : List ℕ) (u : ℕ) (k : ℕ → Step B) (y : B) (q : ℕ) → follow (suits need s p f u) (λ _ v. k v) ≡ next y q → k u ≡ next y q
suited None s p f u k y q e = e
suited {B} (Some n) s p f u k y q e = go (eqb n s) e
  where
    go : (b : Bool) → follow (must b WrongSort p f u) (λ _ v. k v) ≡ next y q → k u ≡ next y q
    go true e = e
    go false e = absurd cc

below_same : (z n v : ℕ) → below z n ≡ Some v → n ≡ v
below_same z n v e = go (ltb n z) e
  where
    go : (b : Bool) → elim b [ true ↦ Some n | false ↦ None ] ≡ Some v → n ≡ v
    go true e = cc
    go false e = absurd cc

module _ (f : List ℕ) (short : length f ≤ 65536) where
  pub field_is : (w t n u : ℕ) → take w f t ≡ next n u → field_at w f t ≡ Some (n, u)
  field_is w t n u e = field_next w f t short ∙ ap came e

abbrev stood : {A : Type 0} → A → ℕ → Option (A × ℕ)
stood x q = Some (x, q)

-- a reader of terms that reads what stands
abbrev Stands : Reader Sorted → Shape Term → List ℕ → Type 0
Stands r s f = (p : ℕ) (x : Sorted) (q : ℕ) → r f p ≡ next x q → s f p ≡ Some (x.the_term, q)

module _ (f : List ℕ) (s : Shape Term) where
  row_more : (n p : ℕ) (x : Sorted) (t : ℕ) (ts : Terms) (q : ℕ) → s f p ≡ Some (x.the_term, t) → row s n f t ≡ Some (ts, q) → row s (suc n) f p ≡ Some (more x.the_term ts, q)
  row_more n p x t ts q e h =
      ap (λ (o : Option (Term × ℕ)). bind {B = Terms × ℕ} o (λ y. bind (row s n f y.1) (λ ys. Some (more y.0 ys.0, ys.1)))) e ∙
      ap (λ (o : Option (Terms × ℕ)). bind {B = Terms × ℕ} o (λ ys. Some (more x.the_term ys.0, ys.1))) h

  row_done : (xs ys : List Sorted) (p q : ℕ) → next xs p ≡ next ys q → stood (terms (map (λ t. t.the_term) xs)) p ≡ stood (terms (map (λ t. t.the_term) ys)) q
  row_done xs ys p q e =
      let i : xs ≡ ys = cc in
      let j : p ≡ q = cc in
      ap (λ z. stood (terms (map (λ (t : Sorted). t.the_term) z)) p) i ∙ ap (λ z. stood (terms (map (λ (t : Sorted). t.the_term) ys)) z) j

  each_row : (r : ℕ → Reader Sorted) → ((k : ℕ) → Stands (r k) s f) → (n k p : ℕ) (ts : List Sorted) (q : ℕ) → one_by_one r (from k n) f p ≡ next ts q → row s n f p ≡ Some (terms (map (λ t. t.the_term) ts), q)
  each_row r h zero k p ts q e = row_done [] ts p q e
  each_row r h (suc n) k p ts q e =
      let d = followed (r k f p) (λ y t. follow (one_by_one r (from (suc k) n) f t) (λ ys u. next (y ∷ ys) u)) ts q e in
      let b = followed (one_by_one r (from (suc k) n) f d.1.0) (λ ys u. next (d.0 ∷ ys) u) ts q d.1.1.1 in
      row_more n p d.0 d.1.0 (terms (map (λ t. t.the_term) b.0)) b.1.0 (h k p d.0 d.1.0 d.1.1.0) (each_row r h n (suc k) d.1.0 b.0 b.1.0 b.1.1.0) ∙
      row_done (d.0 ∷ b.0) ts b.1.0 q b.1.1.1

  repeated_row : (r : Reader Sorted) → Stands r s f → (n p : ℕ) (ts : List Sorted) (q : ℕ) → repeated r n f p ≡ next ts q → row s n f p ≡ Some (terms (map (λ t. t.the_term) ts), q)
  repeated_row r h zero p ts q e = row_done [] ts p q e
  repeated_row r h (suc n) p ts q e =
      let d = followed (r f p) (λ y t. follow (repeated r n f t) (λ ys u. next (y ∷ ys) u)) ts q e in
      let b = followed (repeated r n f d.1.0) (λ ys u. next (d.0 ∷ ys) u) ts q d.1.1.1 in
      row_more n p d.0 d.1.0 (terms (map (λ t. t.the_term) b.0)) b.1.0 (h p d.0 d.1.0 d.1.1.0) (repeated_row r h n d.1.0 b.0 b.1.0 b.1.1.0) ∙
      row_done (d.0 ∷ b.0) ts b.1.0 q b.1.1.1

module _ (a : Alg) (c : Scope) (f : List ℕ) (short : length f ≤ 65536) (s : Shape Term) (part : Option ℕ → Reader Sorted) (stands : (need : Option ℕ) → Stands (part need) s f) (p : ℕ) (need : Option ℕ) (t : ℕ) (x : Sorted) (q : ℕ) where
  abbrev Whole : Option ((Kind × ℕ) × ℕ) → Option (Term × ℕ)
  Whole o = bind o (λ h. bind (row s h.0.1 f h.1) (λ ys. Some (node h.0.0 ys.0, ys.1)))

  abbrev Rowed : Kind → Option (Terms × ℕ) → Option (Term × ℕ)
  Rowed k o = bind o (λ ys. Some (node k ys.0, ys.1))

  final : (y : Sorted) (u : ℕ) → next y u ≡ next x q → stood y.the_term u ≡ stood x.the_term q
  final y u e =
      let i : y ≡ x = cc in
      let j : u ≡ q = cc in
      ap (λ (z : Sorted). stood z.the_term u) i ∙ ap (λ z. stood x.the_term z) j

  named_stands : (xs : List ℕ) (w : ℕ) (kind : ℕ → Kind) → follow (take w f t) (λ n u. follow (given (at xs n) NoSuchName t f u) (λ s u. follow (suits need s p f u) (λ _ u. next (of s (kind n) []) u))) ≡ next x q →
      Whole (bind (field_at w f t) (λ n. Some ((kind n.0, 0), n.1))) ≡ Some (x.the_term, q)
  named_stands xs w kind e =
      let n = followed (take w f t) (λ n u. follow (given (at xs n) NoSuchName t f u) (λ s u. follow (suits need s p f u) (λ _ u. next (of s (kind n) []) u))) x q e in
      let o = given_there (at xs n.0) NoSuchName t f n.1.0 (λ s u. follow (suits need s p f u) (λ _ u. next (of s (kind n.0) []) u)) x q n.1.1.1 in
      let h = suited need o.0 p f n.1.0 (λ u. next (of o.0 (kind n.0) []) u) x q o.1.1 in
      ap (λ (o : Option (ℕ × ℕ)). Whole (bind o (λ n. Some ((kind n.0, 0), n.1)))) (field_is f short w t n.0 n.1.0 n.1.1.0) ∙ final (of o.0 (kind n.0) []) n.1.0 h

  value_stands : follow (take 4 f t) (λ s u. follow (given (a.size s) NoSuchSort t f u) (λ z u. follow (suits need s p f u) (λ _ u. follow (follow (take 8 f u) (λ n v. given (below z n) ValueTooLarge u f v)) (λ v w. next (of s (value s v) []) w)))) ≡ next x q →
      Whole (bind (field_at 4 f t) (λ s. bind (field_at 8 f s.1) (λ v. Some ((value s.0 v.0, 0), v.1)))) ≡ Some (x.the_term, q)
  value_stands e =
      let n = followed (take 4 f t) (λ s u. follow (given (a.size s) NoSuchSort t f u) (λ z u. follow (suits need s p f u) (λ _ u. follow (follow (take 8 f u) (λ n v. given (below z n) ValueTooLarge u f v)) (λ v w. next (of s (value s v) []) w)))) x q e in
      let s = n.0 in
      let u = n.1.0 in
      let o = given_there (a.size s) NoSuchSort t f u (λ z u. follow (suits need s p f u) (λ _ u. follow (follow (take 8 f u) (λ n v. given (below z n) ValueTooLarge u f v)) (λ v w. next (of s (value s v) []) w))) x q n.1.1.1 in
      let h = suited need s p f u (λ u. follow (follow (take 8 f u) (λ n v. given (below o.0 n) ValueTooLarge u f v)) (λ v w. next (of s (value s v) []) w)) x q o.1.1 in
      let b = followed (follow (take 8 f u) (λ n v. given (below o.0 n) ValueTooLarge u f v)) (λ v w. next (of s (value s v) []) w) x q h in
      let m = followed (take 8 f u) (λ n v. given (below o.0 n) ValueTooLarge u f v) b.0 b.1.0 b.1.1.0 in
      let g = below_given (below o.0 m.0) u m.1.0 b.0 b.1.0 m.1.1.1 in
      let i : m.0 ≡ b.0 = below_same o.0 m.0 b.0 g.0 in
      ap (λ (o : Option (ℕ × ℕ)). Whole (bind o (λ s. bind (field_at 8 f s.1) (λ v. Some ((value s.0 v.0, 0), v.1))))) (field_is f short 4 t s u n.1.1.0) ∙
      ap (λ (o : Option (ℕ × ℕ)). Whole (bind o (λ v. Some ((value s v.0, 0), v.1)))) (field_is f short 8 u m.0 m.1.0 m.1.1.0) ∙
      ap (λ v. stood (node (value s v) none) m.1.0) i ∙ ap (λ w. stood (node (value s b.0) none) w) g.1 ∙ final (of s (value s b.0) []) b.1.0 b.1.1.1
    where
      below_given : (o : Option ℕ) (u v y w : ℕ) → given o ValueTooLarge u f v ≡ next y w → (o ≡ Some y) × (v ≡ w)
      below_given (Some z) u v y w e = (cc, cc)
      below_given None u v y w e = absurd cc

  operation_stands : follow (take 6 f t) (λ o u. follow (given (a.arity o) NoSuchName t f u) (λ n u. follow (given (a.res_sort o) NoSuchName t f u) (λ s u. follow (suits need s p f u) (λ _ u. follow (one_by_one (λ k. part (a.arg_sort o k)) (up_to n) f u) (λ ts u. next (of s (operation o) (map (λ t. t.the_term) ts)) u))))) ≡ next x q →
      Whole (bind (field_at 6 f t) (λ o. bind {A = ℕ × ℕ} (bind (a.arity o.0) (λ n. Some (n, o.1))) (λ n. Some ((operation o.0, n.0), n.1)))) ≡ Some (x.the_term, q)
  operation_stands e =
      let m = followed (take 6 f t) (λ o u. follow (given (a.arity o) NoSuchName t f u) (λ n u. follow (given (a.res_sort o) NoSuchName t f u) (λ s u. follow (suits need s p f u) (λ _ u. follow (one_by_one (λ k. part (a.arg_sort o k)) (up_to n) f u) (λ ts u. next (of s (operation o) (map (λ t. t.the_term) ts)) u))))) x q e in
      let o = m.0 in
      let u = m.1.0 in
      let n = given_there (a.arity o) NoSuchName t f u (λ n u. follow (given (a.res_sort o) NoSuchName t f u) (λ s u. follow (suits need s p f u) (λ _ u. follow (one_by_one (λ k. part (a.arg_sort o k)) (up_to n) f u) (λ ts u. next (of s (operation o) (map (λ t. t.the_term) ts)) u)))) x q m.1.1.1 in
      let r = given_there (a.res_sort o) NoSuchName t f u (λ s u. follow (suits need s p f u) (λ _ u. follow (one_by_one (λ k. part (a.arg_sort o k)) (up_to n.0) f u) (λ ts u. next (of s (operation o) (map (λ t. t.the_term) ts)) u))) x q n.1.1 in
      let h = suited need r.0 p f u (λ u. follow (one_by_one (λ k. part (a.arg_sort o k)) (up_to n.0) f u) (λ ts u. next (of r.0 (operation o) (map (λ t. t.the_term) ts)) u)) x q r.1.1 in
      let b = followed (one_by_one (λ k. part (a.arg_sort o k)) (up_to n.0) f u) (λ ts u. next (of r.0 (operation o) (map (λ t. t.the_term) ts)) u) x q h in
      ap (λ (z : Option (ℕ × ℕ)). Whole (bind z (λ o. bind {A = ℕ × ℕ} (bind (a.arity o.0) (λ n. Some (n, o.1))) (λ n. Some ((operation o.0, n.0), n.1))))) (field_is f short 6 t o u m.1.1.0) ∙
      ap (λ (z : Option ℕ). Whole (bind {A = ℕ × ℕ} (bind z (λ n. Some (n, u))) (λ n. Some ((operation o, n.0), n.1)))) n.1.0 ∙
      ap (Rowed (operation o)) (each_row f s (λ k. part (a.arg_sort o k)) (λ k. stands (a.arg_sort o k)) n.0 0 u b.0 b.1.0 b.1.1.0) ∙
      final (of r.0 (operation o) (map (λ t. t.the_term) b.0)) b.1.0 b.1.1.1

  truths_stand : (k : Kind) (n : ℕ) → read_truths a c part p need k n f t ≡ next x q → Whole (Some ((k, n), t)) ≡ Some (x.the_term, q)
  truths_stand k n e =
      let h = suited need 0 p f t (λ u. follow (repeated (part (Some 0)) n f u) (λ ts u. next (of 0 k (map (λ t. t.the_term) ts)) u)) x q e in
      let b = followed (repeated (part (Some 0)) n f t) (λ ts u. next (of 0 k (map (λ t. t.the_term) ts)) u) x q h in
      ap (Rowed k) (repeated_row f s (part (Some 0)) (stands (Some 0)) n t b.0 b.1.0 b.1.1.0) ∙ final (of 0 k (map (λ t. t.the_term) b.0)) b.1.0 b.1.1.1

  equal_stands : read_equal a c part p need f t ≡ next x q → Whole (Some ((equal, 2), t)) ≡ Some (x.the_term, q)
  equal_stands e =
      let h = suited need 0 p f t (λ u. follow (part None f u) (λ y u. follow (part (Some y.the_sort) f u) (λ z u. next (of 0 equal (y.the_term ∷ z.the_term ∷ [])) u))) x q e in
      let b = followed (part None f t) (λ y u. follow (part (Some y.the_sort) f u) (λ z u. next (of 0 equal (y.the_term ∷ z.the_term ∷ [])) u)) x q h in
      let d = followed (part (Some b.0.the_sort) f b.1.0) (λ z u. next (of 0 equal (b.0.the_term ∷ z.the_term ∷ [])) u) x q b.1.1.1 in
      ap (Rowed equal) (row_more f s 1 t b.0 b.1.0 (more d.0.the_term none) d.1.0 (stands None t b.0 b.1.0 b.1.1.0) (row_more f s 0 b.1.0 d.0 d.1.0 none d.1.0 (stands (Some b.0.the_sort) b.1.0 d.0 d.1.0 d.1.1.0) refl)) ∙
      final (of 0 equal (b.0.the_term ∷ d.0.the_term ∷ [])) d.1.0 d.1.1.1

  kind_stands : (k : ℕ) → read_kind a c part p need k f t ≡ next x q → Whole (shape_kind a k f t) ≡ Some (x.the_term, q)
  kind_stands zero e = named_stands c.parameters 4 parameter e
  kind_stands (suc zero) e = named_stands c.variables 2 variable e
  kind_stands (suc (suc zero)) e = value_stands e
  kind_stands (suc (suc (suc zero))) e = operation_stands e
  kind_stands (suc (suc (suc (suc zero)))) e = truths_stand not 1 e
  kind_stands (suc (suc (suc (suc (suc zero))))) e = truths_stand and 2 e
  kind_stands (suc (suc (suc (suc (suc (suc zero)))))) e = truths_stand or 2 e
  kind_stands (suc (suc (suc (suc (suc (suc (suc k))))))) e = equal_stands e

-- a term that is read stands there
pub term_stands : (a : Alg) (c : Scope) (f : List ℕ) → length f ≤ 65536 → (d : ℕ) (need : Option ℕ) (p : ℕ) (x : Sorted) (q : ℕ) → read_term a c d need f p ≡ next x q → shape a d f p ≡ Some (x.the_term, q)
term_stands a c f short zero need p x q e =
    let d = followed (take 3 f p) (λ _ _. stop TooDeep p) x q e in
    let h : stop TooDeep p ≡ next x q = d.1.1.1 in
    absurd cc
term_stands a c f short (suc n) need p x q e =
    let d = followed (take 3 f p) (λ k u. read_kind a c (read_term a c n) p need k f u) x q e in
    ap (λ (o : Option (ℕ × ℕ)). Whole a c f short (shape a n) (read_term a c n) (term_stands a c f short n) p need p x q (bind o (λ k. shape_kind a k.0 f k.1))) (field_is f short 3 p d.0 d.1.0 d.1.1.0) ∙
    kind_stands a c f short (shape a n) (read_term a c n) (term_stands a c f short n) p need d.1.0 x q d.0 d.1.1.1

pub read_stands : (a : Alg) (d : ℕ) (f : List ℕ) (p : ℕ) → ReadStands a d f p
read_stands a d f p = λ c need x q short e. term_stands a c f short d need p x q e
